use Rattle.std.proofs.Common.{◌≡◌, ◌+◌, drop}
use Rattle.iso_normal.specs.Shapes.{nodes_of}
use Rattle.coord_match.proofs.tests.+left_of.Given as goal

abbrev pub invariant-loop-c : goal.invariant-loop-c
invariant-loop-c l = l.number + nodes_of (drop l.c-index l.all) ≡ nodes_of l.all + l.left
