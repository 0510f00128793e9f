use Rattle.std.proofs.Common.{◌-◌, ℕ, ◌<◌, ◌≤◌, length, slice_index}
use Rattle.sig_base.specs.Identifiers.{IsDigit}
use Rattle.sml_lexer.proofs.bytes.digits_end.Given as goal

abbrev pub invariant-loop-end : goal.invariant-loop-end
invariant-loop-end l = record { after : l.from ≤ l.end; within : l.end ≤ length l.bytes; run : (i : ℕ) → l.from ≤ i → i < l.end → IsDigit (slice_index l.bytes i) }

abbrev pub decreases-loop-end : goal.decreases-loop-end
decreases-loop-end l = length l.bytes - l.end
