use Rattle.std.proofs.Common.{◌<◌, length, sym, subst}
use Rattle.elab_env.proofs.Kept.{kept_added}
use Rattle.elab_env.proofs.name_table.NameTable.push.Goals as goal

pub invariant_of-self-in-Ok : goal.invariant_of-self-in-Ok
invariant_of-self-in-Ok c = kept_added _ _ _ _ _ _ c.in-Ok.ensures.pushed c.in_ok-push.ensures.items (subst (λ table. length table.names < 4294967295) (sym c.self.view_is) c.requires.room) c.self.invariant
