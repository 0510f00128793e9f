use Rattle.std.proofs.Common.{refl, ◌∙◌}
use Rattle.elab_rules.specs.Files.{all_declared, declared}
use Rattle.elab_types.specs.Views.{texts}
use Rattle.sig_elab.proofs.BasisTurns.{all_end, all_go_on}
use Rattle.sig_elab.proofs.declarations.declare_all.Goals as goal

pub returns-in_err-draft-clause-outcome : goal.returns-in_err-draft-clause-outcome
returns-in_err-draft-clause-outcome c =
    all_end (declared (texts c.args.source.now)) (all_declared (texts c.args.source.now)) (λ x xs b. refl)
    _ _ _ _ _ _ _ _ c.loop-dec-test.true c.dec-item.is c.loop-dec.invariant.turns c.from_residual.ensures.1 c.in_err-draft.ensures.outcome

pub loop-dec-preserved : goal.loop-dec-preserved
loop-dec-preserved c = record {
  turns = all_go_on (declared (texts c.args.source.now)) (all_declared (texts c.args.source.now)) (λ x xs b. refl) _ _ _ _ _ _ _ c.loop-dec-test.true c.dec-item.is c.loop-dec.invariant.turns c.in_ok-draft.ensures.outcome;
  before = c.in_ok-draft.ensures.before ∙ c.loop-dec.invariant.before;
}
