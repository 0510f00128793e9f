use Rattle.std.proofs.Common.{◌≡◌, ◌++◌, map, drop}
use Rattle.elab_phrases.specs.Renumbering.{numbers_of, unit_with_numbers}
use Rattle.elab_phrases.proofs.renumbering.units_renumbered.Given as goal

abbrev pub invariant-loop-unit : goal.invariant-loop-unit
invariant-loop-unit l = l.copies ++ map (unit_with_numbers (numbers_of l.numbering)) (drop l.unit-index l.units) ≡ map (unit_with_numbers (numbers_of l.numbering)) l.units
