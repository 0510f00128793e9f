use Rattle.std.proofs.Common.{◌≡◌, true, false, sym, ap, ◌∙◌, rules}
use Rattle.elab_rules.specs.Views.{entries_at, state_of}
use Rattle.elab_realizing.proofs.Limited.{are_low, are_normal, are_small, too_high, too_large, too_many, within_by_now}
use Rattle.elab_realizing.proofs.wheres.limited_by_now.Goals as goal

pub returns-then-not-are_small-clause-outcome : goal.returns-then-not-are_small-clause-outcome
returns-then-not-are_small-clause-outcome c = λ progress same.
    let large : c.are_small.result ≡ false = search rules in
    too_many c.args.token _ (state_of progress) (sym (ap (λ env. are_small (entries_at c.args.table.now env)) c.as_slice.ensures.value) ∙ sym c.are_small.ensures.value ∙ large)

pub returns-then-not-are_low-clause-outcome : goal.returns-then-not-are_low-clause-outcome
returns-then-not-are_low-clause-outcome c = λ progress same.
    let small : c.are_small.result ≡ true = search rules in
    let high : c.are_low.result ≡ false = search rules in
    too_high c.args.token _ _ (state_of progress)
    (sym (ap (λ env. are_small (entries_at c.args.table.now env)) c.as_slice.ensures.value) ∙ sym c.are_small.ensures.value ∙ small) c.in_ok-settled.ensures.value
    (sym (ap are_low c.as_slice-2.ensures.value) ∙ sym c.are_low.ensures.value ∙ high)

pub returns-then-not-are_normal-clause-outcome : goal.returns-then-not-are_normal-clause-outcome
returns-then-not-are_normal-clause-outcome c = λ progress same.
    let small : c.are_small.result ≡ true = search rules in
    let low : c.are_low.result ≡ true = search rules in
    let large : c.are_normal.result ≡ false = search rules in
    too_large c.args.token _ _ (state_of progress)
    (sym (ap (λ env. are_small (entries_at c.args.table.now env)) c.as_slice.ensures.value) ∙ sym c.are_small.ensures.value ∙ small) c.in_ok-settled.ensures.value
    (sym (ap are_low c.as_slice-2.ensures.value) ∙ sym c.are_low.ensures.value ∙ low) (sym (ap are_normal c.as_slice-3.ensures.value) ∙ sym c.are_normal.ensures.value ∙ large)

pub returns-clause-outcome : goal.returns-clause-outcome
returns-clause-outcome c = λ progress same.
    let small : c.are_small.result ≡ true = search rules in
    let low : c.are_low.result ≡ true = search rules in
    let normal : c.are_normal.result ≡ true = search rules in
    within_by_now c.args.token c.args.table.now _ _ progress c.is_sound.ensures.sound c.requires.over same c.in_ok-settled.ensures.value
    (sym (ap (λ env. are_small (entries_at c.args.table.now env)) c.as_slice.ensures.value) ∙ sym c.are_small.ensures.value ∙ small)
    (sym (ap are_low c.as_slice-2.ensures.value) ∙ sym c.are_low.ensures.value ∙ low) (sym (ap are_normal c.as_slice-3.ensures.value) ∙ sym c.are_normal.ensures.value ∙ normal)
