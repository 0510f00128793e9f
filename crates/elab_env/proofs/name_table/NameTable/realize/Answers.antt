use Rattle.elab_env.proofs.Kept.{kept_realized}
use Rattle.elab_env.proofs.name_table.NameTable.realize.Goals as goal

pub invariant_of-self-2 : goal.invariant_of-self-2
invariant_of-self-2 c = kept_realized c.args.self.now _ _ _ _ c.args.n c.args.f _ _ c.self.view_is c.in_ok-push.ensures.pushed c.len-place.ensures.value c.in_ok-body.ensures.value c.self.invariant
    c.requires.free c.requires.arity c.requires.function c.requires.body c.requires.other
