use Rattle.std.proofs.Common.{length}
use Rattle.type_intern.specs.Meanings.{Keeps}
use Rattle.type_intern.specs.Numbering.{AllBelow}
use Rattle.type_intern.specs.Tops.{numbers_of}
use Rattle.type_intern.proofs.tests.read.Given as goal

abbrev pub invariant-loop-letter : goal.invariant-loop-letter
invariant-loop-letter l = record {
  within : AllBelow (length l.arena.coords) (numbers_of l.row);
  keeps : Keeps l.fn.arena l.arena;
}
