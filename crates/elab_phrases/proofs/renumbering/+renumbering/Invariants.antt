use Rattle.std.proofs.Common.{◌≡◌, ◌++◌, map, drop}
use Rattle.elab_rules.specs.Copies.{field_with_numbers, with_numbers}
use Rattle.elab_phrases.specs.Renumbering.{numbers_of}
use Rattle.elab_phrases.proofs.renumbering.+renumbering.Given as goal

abbrev pub invariant-renumber_all-loop-part : goal.invariant-renumber_all-loop-part
invariant-renumber_all-loop-part l = l.types ++ map (with_numbers (numbers_of l.numbering)) (drop l.part-index l.parts) ≡ map (with_numbers (numbers_of l.numbering)) l.parts

abbrev pub invariant-renumber_fields-loop-part : goal.invariant-renumber_fields-loop-part
invariant-renumber_fields-loop-part l = l.fields ++ map (field_with_numbers (numbers_of l.numbering)) (drop l.part-index l.parts) ≡ map (field_with_numbers (numbers_of l.numbering)) l.parts
