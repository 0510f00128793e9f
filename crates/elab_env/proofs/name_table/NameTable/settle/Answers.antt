use Rattle.std.proofs.Common.{sym, subst, IsTrue}
use Rattle.elab_env.specs.Table.{is_free}
use Rattle.elab_env.proofs.Kept.{kept_settled}
use Rattle.elab_env.proofs.name_table.NameTable.settle.Goals as goal

pub invariant_of-self : goal.invariant_of-self
invariant_of-self c = kept_settled _ _ _ _ _ _ c.set_equality.ensures.value (subst (λ table. IsTrue (is_free table c.args.n.0)) (sym c.self.view_is) c.requires.free) c.self.invariant
