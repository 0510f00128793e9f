use Rattle.std.proofs.Common.{◌+◌, ◌-◌, drop, length, take, ap, ◌∙◌, refl, arith, length-drop}
use Rattle.std.proofs.lemmas.List.{take_rest}
use Rattle.elab_rules.proofs.AlongParts.{structure_further}
use Rattle.elab_rules.proofs.long_identifiers.structure_along.Goals as goal

pub parts-preserved : goal.parts-preserved
parts-preserved c =
    let rest = c.parts.rest.now in
    let dot = c.in-Some.dot in
    record {
      value = structure_further rest (take dot rest) (take (length rest - (dot + 1)) (drop (dot + 1) rest)) dot c.parts.env.entries.now refl (take_rest rest (dot + 1)) c.in-Some.ensures.value.1
          c.in-Some-find_structure.inner.entries.now c.in-Some-find_structure.ensures.value
          ∙ c.parts.invariant.value;
      short = omega (arith, ap length (take_rest rest (dot + 1)), length-drop (dot + 1) rest, c.parts.invariant.short);
    }
