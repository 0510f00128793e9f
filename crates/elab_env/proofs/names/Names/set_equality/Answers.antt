use Rattle.std.proofs.Common.{◌<◌, length, sym, ap, ◌∙◌, subst}
use Rattle.elab_env.specs.Names.{external_number, with_equality}
use Rattle.elab_env.proofs.NameLists.{external_number-settled, settled}
use Rattle.elab_env.proofs.names.Names.set_equality.Goals as goal

pub invariant_of-self : goal.invariant_of-self
invariant_of-self c = λ path arity.
    let within : c.args.n.0 < length c.self.inside.list.items = subst (λ xs. c.args.n.0 < length xs) (sym c.self.view_is) c.requires.within in
    c.self.invariant path arity
    ∙ sym (external_number-settled path arity c.args.n.0 c.args.equality c.self.inside.list.items)
    ∙ ap (external_number path arity) (sym (settled c.self.inside.list.items c.args.n.0 c.args.equality c.index_mut.result.now within c.index_mut.ensures.value))

pub returns : goal.returns
returns c =
    let within : c.args.n.0 < length c.self.inside.list.items = subst (λ xs. c.args.n.0 < length xs) (sym c.self.view_is) c.requires.within in
    record { value = settled c.self.inside.list.items c.args.n.0 c.args.equality c.index_mut.result.now within c.index_mut.ensures.value ∙ ap (with_equality c.args.n.0 c.args.equality) c.self.view_is }
