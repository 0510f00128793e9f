use Rattle.std.proofs.Common.{◌∙◌, sym, inl, inr}
use Rattle.std.proofs.lemmas.Option.{slice_get-get_or}
use Rattle.conv_plain.proofs.Moves.{moved_is}
use Rattle.conv_plain.proofs.Stepping.{brought_ends, sent_each_ends, sent_ends, sent_passes}
use Rattle.conv_plain.proofs.moving.+moving.Goals as goal

pub brought_each-returns-then-i-from : goal.brought_each-returns-then-i-from
brought_each-returns-then-i-from t c = record { value = brought_ends _ _ _ _ _ _ _ _ c.if-i-from.true c.loop-i.invariant }

pub moved-returns : goal.moved-returns
moved-returns t c = record { value = sent_each_ends _ _ _ _ _ _ _ _ _ c.loop-one-test.false c.loop-one.invariant.1 ∙ sym (moved_is _ _ _ _ _) }

pub sent-returns-then-i-from : goal.sent-returns-then-i-from
sent-returns-then-i-from t c = record { value = c.nothing.ensures.value ∙ sym (sent_ends _ _ _ _ _ _ _ (inl c.if-i-from.true)) ∙ c.loop-i.invariant }

pub sent-returns-then-i-terms : goal.sent-returns-then-i-terms
sent-returns-then-i-terms t c = record { value = c.nothing-then-i-terms.ensures.value ∙ sym (sent_ends _ _ _ _ _ _ _ (inr c.if-i-terms.true)) ∙ c.loop-i.invariant }

pub sent-loop-i-preserved : goal.sent-loop-i-preserved
sent-loop-i-preserved t c = sent_passes _ _ _ _ _ _ _ _ _ c.if-i-from.false c.if-i-terms.false (slice_get-get_or _ _ c.index-entries-i.result c.loop-i-test.true) c.if-entries-i.false c.loop-i.invariant
