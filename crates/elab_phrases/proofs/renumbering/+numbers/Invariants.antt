use Rattle.std.proofs.Common.{◌≡◌, ◌++◌, map, drop, take}
use Rattle.elab_rules.specs.Copies.{field_with_numbers, with_numbers}
use Rattle.elab_phrases.specs.Renumbering.{numbers_of}
use Rattle.elab_phrases.proofs.renumbering.+numbers.Given as goal

abbrev pub invariant-all_numbers_stay-loop-part : goal.invariant-all_numbers_stay-loop-part
invariant-all_numbers_stay-loop-part l =
    let f = with_numbers (numbers_of l.numbering) in
    take l.part-index l.parts ++ map f (drop l.part-index l.parts) ≡ map f l.parts

abbrev pub invariant-field_numbers_stay-loop-part : goal.invariant-field_numbers_stay-loop-part
invariant-field_numbers_stay-loop-part l =
    let f = field_with_numbers (numbers_of l.numbering) in
    take l.part-index l.parts ++ map f (drop l.part-index l.parts) ≡ map f l.parts
