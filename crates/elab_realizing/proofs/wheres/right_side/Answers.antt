use Rattle.std.proofs.Common.{length, sym, ap, ◌∙◌, subst}
use Rattle.elab_rules.specs.Parameters.{variables_at}
use Rattle.elab_rules.specs.Standing.{Sees}
use Rattle.elab_rules.specs.Views.{body_at, site_at, state_of}
use Rattle.elab_types.specs.Views.{texts}
use Rattle.elab_rules.proofs.Outcomes.{fails_whole, handed_on}
use Rattle.elab_realizing.proofs.PartsApplied.{side_made, side_typed}
use Rattle.elab_realizing.proofs.wheres.right_side.Goals as goal

pub type_of-requires : goal.type_of-requires
type_of-requires c = record { sees = subst (Sees c.args.progress.now c.args.site.now) (sym (c.scope-seen.ensures.value ∙ c.new-nothing.ensures.empty)) c.requires.sees }

pub returns-in_err-body-clause-outcome : goal.returns-in_err-body-clause-outcome
returns-in_err-body-clause-outcome c =
    let p = c.args.progress.now in
    fails_whole _ _ _ _ _ _ _
    (side_typed c.args.part.now (site_at p c.args.site.now) _ _ (state_of p) (ap (body_at p) (c.scope-seen.ensures.value ∙ c.new-nothing.ensures.empty)) (c.as_slice-2.ensures.value ∙ c.in_ok-parameters.ensures.value ∙ ap (variables_at (texts c.args.site.now.source)) c.as_slice.ensures.value))
    (handed_on _ _ c.from_residual-in_err-body.ensures.1) c.in_err-body.ensures.outcome

pub returns-clause-outcome : goal.returns-clause-outcome
returns-clause-outcome c =
    let p = c.args.progress.now in
    side_made c.args.part.now (site_at p c.args.site.now) _ _ (state_of p) (ap (body_at p) (c.scope-seen.ensures.value ∙ c.new-nothing.ensures.empty)) (c.as_slice-2.ensures.value ∙ c.in_ok-parameters.ensures.value ∙ ap (variables_at (texts c.args.site.now.source)) c.as_slice.ensures.value)
    _ _ _ (c.in_ok-arity.ensures.value ∙ c.len.ensures.value ∙ ap length (sym c.as_slice-2.ensures.value)) c.in_ok-body.ensures.outcome
