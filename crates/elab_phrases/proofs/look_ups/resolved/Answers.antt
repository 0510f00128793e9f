use Rattle.std.proofs.Common.{sym, subst}
use Rattle.type_core.specs.Types.{IsOver}
use Rattle.elab_env.proofs.Resolved.{resolved_over}
use Rattle.elab_phrases.proofs.look_ups.resolved.Goals as goal

pub returns-clause-settled : goal.returns-clause-settled
returns-clause-settled c =
    let table = c.args.table.now in
    record {
      over = subst (IsOver table.names) (sym c.in_ok-resolve.ensures.value) (resolved_over table.names table.realizations c.args.fun.now.body c.is_sound.ensures.sound.realizations c.requires.over);
      resolved = c.in_ok-resolve.ensures.resolved;
    }
