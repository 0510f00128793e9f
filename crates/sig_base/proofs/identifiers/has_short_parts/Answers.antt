use Rattle.std.proofs.Common.{◌+◌, ◌-◌, ◌≤◌, ap, arith, drop, length, length-drop, length-take, take}
use Rattle.std.proofs.lemmas.List.{take_rest}
use Rattle.sig_base.specs.LongIdentifiers.{HasShortParts, IsShort}
use Rattle.sig_base.proofs.LongIdentifiers.{further_same, short_further}
use Rattle.sig_base.proofs.identifiers.has_short_parts.Goals as goal

pub parts-preserved : goal.parts-preserved
parts-preserved c =
    let rest = c.parts.rest.now in
    let dot = c.in-Some.dot in
    let short : length (take dot rest) ≤ 255 = omega (arith, length-take dot rest, c.if-dot-gt-MAX_BYTES.false) in
    record {
      same = further_same HasShortParts (IsShort (take dot rest)) c.args.text.now rest (drop (dot + 1) rest) (take (length rest - (dot + 1)) (drop (dot + 1) rest)) (take_rest rest (dot + 1))
          (short_further rest (take dot rest) (drop (dot + 1) rest) c.in-Some.ensures.value.1) short c.parts.invariant.same;
      short = omega (arith, ap length (take_rest rest (dot + 1)), length-drop (dot + 1) rest, c.parts.invariant.short);
    }
