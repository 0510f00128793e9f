use Rattle.std.proofs.Common.{◌≡◌, length, sym, ap, ap₂, ◌∙◌}
use Rattle.elab_env.specs.Externals.{number_with}
use Rattle.elab_env.specs.Names.{external_number}
use Rattle.elab_env.proofs.NameLists.{external_number-appended, last_name}
use Rattle.elab_env.proofs.names.Names.push.Goals as goal

pub invariant_of-self-in-Ok : goal.invariant_of-self-in-Ok
invariant_of-self-in-Ok c = λ path arity.
    let count : c.len-n.result ≡ length c.self.inside.list.items = c.len-n.ensures ∙ c.self.inside.list.ok.0 in
    let here = last_name c.self.inside.list.items c.push.new.self.items c.len-n.result c.index.result.now c.args.name count c.in_ok-push.ensures.items c.index.ensures in
    c.in-Ok.ensures.held path arity
    ∙ ap₂ (λ name o. number_with name c.len-n.result path arity o) here (c.self.invariant path arity)
    ∙ ap (λ n. number_with c.args.name n path arity (external_number path arity c.self.inside.list.items)) count
    ∙ sym (external_number-appended path arity c.self.inside.list.items c.args.name)
    ∙ ap (external_number path arity) (sym c.in_ok-push.ensures.items)
