use Rattle.std.proofs.Common.{◌≤◌, ◌∙◌, ap, length, rules, subst, sym}
use Rattle.iso_normal.specs.PairTrees.{entries_of}
use Rattle.iso_normal.specs.declared.pair_tree.Entry.TheViews.{the_lemmas}
use Rattle.iso_normal.proofs.Inverses.{inverse_length}
use Rattle.conv_build.proofs.SentTerms.{back_length, brought_below, brought_inverse, brought_next, brought_permuted, forth_length, holes_end, leaves_end, sent_below, sent_inverse, sent_next, sent_permuted}
use Rattle.conv_build.proofs.emitting.+emit.Goals as goal

pub sent-returns-then-k-leaves : goal.sent-returns-then-k-leaves
sent-returns-then-k-leaves t c = record { value = leaves_end _ _ _ _ _ c.if-k-leaves.true c.loop-k.invariant }

pub sent-bounds-entries-number : goal.sent-bounds-entries-number
sent-bounds-entries-number t c = sent_below _ _ _ _ c.requires.permuted c.requires.inverse c.as_slice-entries.ensures.value c.as_slice-inverses.ensures.value _ _ c.loop-k-test.true

pub sent-brought-requires : goal.sent-brought-requires
sent-brought-requires t c =
    let below = sent_below _ _ _ _ c.requires.permuted c.requires.inverse c.as_slice-entries.ensures.value c.as_slice-inverses.ensures.value _ c.index-inverses-k.result c.loop-k-test.true in (
      search (rules, the_lemmas, below),
      (
        sent_permuted _ _ _ _ c.requires.permuted c.requires.inverse c.as_slice-entries.ensures.value c.as_slice-inverses.ensures.value _ _ _ c.loop-k-test.true,
        sent_inverse _ _ _ _ c.requires.permuted c.requires.inverse c.as_slice-entries.ensures.value c.as_slice-inverses.ensures.value _ _ _ _ c.loop-k-test.true,
      ),
    )

pub sent-loop-k-preserved : goal.sent-loop-k-preserved
sent-loop-k-preserved t c =
    sent_next _ _ _ _ c.requires.permuted c.requires.inverse c.as_slice-entries.ensures.value c.as_slice-inverses.ensures.value _ _ _ _ _ _ _ _ _ _ _ _ _ c.if-k-leaves.false c.index-leaves-k.is
    c.index-leaves-k-in-loop-k.is c.in_ok-inner.ensures.value c.arguments.ensures.value c.as_slice.ensures.value c.in_ok-referred.ensures.value c.in_ok-push_back.ensures.items
    _ _ c.loop-k-test.true c.in_ok-reference.ensures.value c.in_ok-arguments.ensures.value c.loop-k.invariant

pub sent-returns : goal.sent-returns
sent-returns t c = record { value = holes_end _ _ _ _ _ (subst (λ n. n ≤ c.loop-k.k) (ap length (c.as_slice-inverses.ensures.value ∙ ap entries_of c.requires.inverse) ∙ inverse_length c.args.p.now ∙ sym (forth_length c.args.p.now c.args.references.now)) c.loop-k-test.false) c.loop-k.invariant }

pub brought-returns-then-k-leaves : goal.brought-returns-then-k-leaves
brought-returns-then-k-leaves t c = record { value = leaves_end _ _ _ _ _ c.if-k-leaves.true c.loop-k.invariant }

pub brought-bounds-inverses-number : goal.brought-bounds-inverses-number
brought-bounds-inverses-number t c = brought_below _ _ _ _ c.requires.permuted c.requires.inverse c.as_slice-entries.ensures.value c.as_slice-inverses.ensures.value _ _ c.loop-k-test.true

pub brought-sent-requires : goal.brought-sent-requires
brought-sent-requires t c = (
  search (rules, the_lemmas),
  (
    brought_permuted _ _ _ _ c.requires.permuted c.requires.inverse c.as_slice-entries.ensures.value c.as_slice-inverses.ensures.value _ c.index-entries-k.result _ c.loop-k-test.true,
    brought_inverse _ _ _ _ c.requires.permuted c.requires.inverse c.as_slice-entries.ensures.value c.as_slice-inverses.ensures.value _ _ _ _ c.loop-k-test.true,
  ),
)

pub brought-loop-k-preserved : goal.brought-loop-k-preserved
brought-loop-k-preserved t c =
    brought_next _ _ _ _ c.requires.permuted c.requires.inverse c.as_slice-entries.ensures.value c.as_slice-inverses.ensures.value _ _ _ _ _ _ _ _ _ _ _ _ _ c.if-k-leaves.false c.index-leaves-k.is
    c.index-leaves-k-in-loop-k.is c.in_ok-inner.ensures.value c.arguments.ensures.value c.as_slice.ensures.value c.in_ok-referred.ensures.value c.in_ok-push_back.ensures.items
    _ _ c.loop-k-test.true c.in_ok-reference.ensures.value c.in_ok-arguments.ensures.value c.loop-k.invariant

pub brought-returns : goal.brought-returns
brought-returns t c = record { value = holes_end _ _ _ _ _ (subst (λ n. n ≤ c.loop-k.k) (ap length c.as_slice-entries.ensures.value ∙ sym (back_length c.args.p.now c.args.references.now)) c.loop-k-test.false) c.loop-k.invariant }
