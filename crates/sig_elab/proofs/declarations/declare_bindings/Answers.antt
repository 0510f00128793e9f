use Rattle.std.proofs.Common.{arith}
use Rattle.elab_rules.specs.Views.{state_of}
use Rattle.elab_types.specs.Views.{texts}
use Rattle.sig_elab.proofs.BasisTurns.{then_bound}
use Rattle.sig_elab.proofs.declarations.declare_bindings.Goals as goal

pub returns-clause-outcome : goal.returns-clause-outcome
returns-clause-outcome c =
    let draft = c.args.draft in
    then_bound c.args.kind (texts c.args.source.now) c.args.binds.now draft.before.now.entries.items draft.added.entries.items _ (state_of draft.progress) c.bind_all.result (omega (arith, c.len.ensures.value)) c.in_ok-declaring.ensures.outcome
    c.bind_all.ensures.outcome
