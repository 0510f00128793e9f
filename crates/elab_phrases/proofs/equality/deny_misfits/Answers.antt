use Rattle.std.proofs.Common.{true≢false, arith, ◌∙◌}
use Rattle.elab_phrases.proofs.Rounds.{bound_without, fewer_after}
use Rattle.elab_phrases.proofs.equality.deny_misfits.Goals as goal

pub loop-entry-preserved : goal.loop-entry-preserved
loop-entry-preserved c =
    let denied = c.in_ok-deny-in-Some.ensures in
    let misfit = c.in-Some.ensures.misfit in
    let fewer = fewer_after _ _ _ _ _ denied.names misfit c.loop-entry.invariant.no_more in
    record {
      bound = λ names bound.
          bound_without _ _ _ names _ _ denied.grouped.0 denied.grouped.1 (c.loop-entry.invariant.bound names bound) _ _ _ _ denied.names c.loop-entry-test.true c.entry-item.is misfit;
      fit = λ changed. absurd (true≢false changed);
      fewer = λ changed. fewer;
      no_more = omega (arith, fewer);
      realizations = denied.realizations ∙ c.loop-entry.invariant.realizations;
    }
