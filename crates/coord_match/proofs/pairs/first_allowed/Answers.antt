use Rattle.std.proofs.Common.{◌++◌, refl, sym, ap, ◌∙◌}
use Rattle.coord_match.proofs.Whole.{best_paired, goals_of_one, none_of_sums, none_paired}
use Rattle.coord_match.proofs.pairs.first_allowed.Goals as goal

pub returns-then-fingerprint_sum-clause-none : goal.returns-then-fingerprint_sum-clause-none
returns-then-fingerprint_sum-clause-none c = λ e.
    none_of_sums c.args.left.now c.args.right.now
    (λ l. c.if-fingerprint_sum.true (c.fingerprint_sum.ensures.value ∙ l ∙ sym c.fingerprint_sum-2.ensures.value))

pub returns-then-not-branch-clause-none : goal.returns-then-not-branch-clause-none
returns-then-not-branch-clause-none c = λ e.
    none_paired c.args.left.now c.args.right.now
    (goals_of_one _ c.new-tasks.ensures.empty c.in_ok-push.ensures.pushed refl refl c.in_ok-none_taken.ensures.value)
    (c.in_ok-search.ensures.none c.if-not-branch.true)

pub returns-clause-found : goal.returns-clause-found
returns-clause-found c =
    let f = c.in_ok-search.ensures.found c.if-not-branch.false in
    best_paired c.args.left.now c.args.right.now
    (goals_of_one _ c.new-tasks.ensures.empty c.in_ok-push.ensures.pushed refl refl c.in_ok-none_taken.ensures.value)
    c.if-left-right.false
    (f.1 ∙ ap (λ w. w ++ f.0) c.new-word.ensures.empty) f.2
