use Rattle.std.proofs.Common.{◌+◌, ◌-◌, drop, length, take, ap, ◌∙◌, refl, arith, length-drop}
use Rattle.std.proofs.lemmas.List.{take_rest}
use Rattle.elab_rules.proofs.AlongParts.{further_over, no_type_beyond, type_further}
use Rattle.elab_rules.proofs.long_identifiers.type_along.Goals as goal

pub returns-in-None-clause-value : goal.returns-in-None-clause-value
returns-in-None-clause-value c =
    let rest = c.parts.rest.now in
    let dot = c.in-Some.dot in
    no_type_beyond rest (take dot rest) (drop (dot + 1) rest) dot c.parts.env.entries.now refl refl c.in-Some.ensures.value.1 c.in-None.ensures.value ∙ c.parts.invariant.value

pub parts-preserved : goal.parts-preserved
parts-preserved c =
    let rest = c.parts.rest.now in
    let dot = c.in-Some.dot in
    let env = c.parts.env.entries.now in
    let inner = c.in-Some-find_structure.inner.entries.now in
    let found = c.in-Some-find_structure.ensures.value in
    record {
      value = type_further rest (take dot rest) (take (length rest - (dot + 1)) (drop (dot + 1) rest)) dot env refl (take_rest rest (dot + 1)) c.in-Some.ensures.value.1 inner found ∙ c.parts.invariant.value;
      over = λ names all. further_over names (take dot rest) env inner found (c.parts.invariant.over names all);
      short = omega (arith, ap length (take_rest rest (dot + 1)), length-drop (dot + 1) rest, c.parts.invariant.short);
    }
