use Rattle.std.proofs.Common.{◌+◌, ◌-◌, ap, arith, drop, length, length-drop, take}
use Rattle.std.proofs.lemmas.Bool.{false≢true, iff_false}
use Rattle.std.proofs.lemmas.List.{take_rest}
use Rattle.sig_base.specs.Identifiers.{IsAlphanumeric}
use Rattle.sig_base.specs.LongIdentifiers.{IsLong}
use Rattle.sig_base.proofs.LongIdentifiers.{further_same, long_further}
use Rattle.lib_valid.specs.Paths.{Ends}
use Rattle.lib_valid.proofs.paths.is_long.Goals as goal

pub returns-then-not-is_alphanumeric : goal.returns-then-not-is_alphanumeric
returns-then-not-is_alphanumeric c =
    let rest = c.parts.rest.now in
    let dot = c.in-Some.dot in
    record {
      exact = (
        (λ h. absurd (false≢true h)),
        (λ long. absurd (iff_false c.is_alphanumeric.ensures.exact c.if-not-is_alphanumeric.true
            ((long_further rest (take dot rest) (drop (dot + 1) rest) c.in-Some.ensures.value.1 (Ends c.args.ending)).0
            (c.parts.invariant.same.1 long)).0)),
      );
    }

pub parts-preserved : goal.parts-preserved
parts-preserved c =
    let rest = c.parts.rest.now in
    let dot = c.in-Some.dot in
    record {
      same = further_same (IsLong (Ends c.args.ending)) (IsAlphanumeric (take dot rest)) c.args.text.now rest
          (drop (dot + 1) rest) (take (length rest - (dot + 1)) (drop (dot + 1) rest)) (take_rest rest (dot + 1))
          (long_further rest (take dot rest) (drop (dot + 1) rest) c.in-Some.ensures.value.1 (Ends c.args.ending))
          (c.is_alphanumeric.ensures.exact.0 c.if-not-is_alphanumeric.false) c.parts.invariant.same;
      short = omega (arith, ap length (take_rest rest (dot + 1)), length-drop (dot + 1) rest, c.parts.invariant.short);
    }
