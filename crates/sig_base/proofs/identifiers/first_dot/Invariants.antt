use Rattle.std.proofs.Common.{◌≡◌, drop, take}
use Rattle.sig_base.specs.LongIdentifiers.{parts}
use Rattle.sig_base.proofs.DottedParts.{with_front}
use Rattle.sig_base.proofs.identifiers.first_dot.Given as goal

abbrev pub invariant-loop-i : goal.invariant-loop-i
invariant-loop-i l = parts l.text ≡ with_front (take l.i l.text) (parts (drop l.i l.text))
