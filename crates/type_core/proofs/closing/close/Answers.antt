use Rattle.std.proofs.Common.{ap, length, ◌∙◌}
use Rattle.type_core.specs.Variables.{variables, meet_all}
use Rattle.type_core.proofs.Closed.{numbered_is_scheme}
use Rattle.type_core.proofs.closing.close.Goals as goal

pub returns-clause-scheme : goal.returns-clause-scheme
returns-clause-scheme c =
    let gathered = c.in_ok-gather.ensures.met ∙ ap (λ z. meet_all z (variables c.args.t.now)) c.new-met.ensures.empty in
    numbered_is_scheme c.args.t.now c.in_ok-body.body c.gather.new.met (length c.as_slice.result.now) gathered c.in_ok-body.ensures.value (ap length c.as_slice.ensures.value)
