use Rattle.std.proofs.Common.{◌++◌, ◌∷◌, [], IsTrue, ap, sym, ◌∙◌, subst, rules}
use Rattle.std.proofs.lemmas.Result.{on_ok_weaker}
use Rattle.type_core.specs.declared.type_fn.TypeFn.{TypeFn}
use Rattle.elab_env.specs.declared.realization.Realization.{Realization}
use Rattle.elab_env.specs.Avoids.{Avoids}
use Rattle.elab_env.proofs.Resolved.{resolved_again}
use Rattle.elab_realizing.proofs.wheres.replace.Goals as goal

pub realize-requires-clause-other : goal.realize-requires-clause-other
realize-requires-clause-other c =
    let may : IsTrue c.may_be_realized.result = search rules in
    subst (Avoids c.args.name.0) (sym (resolved_again c.args.table.now.realizations c.args.fun.body c.requires.resolved)) (c.may_be_realized.ensures.avoids may)

pub returns-clause-realizations : goal.returns-clause-realizations
returns-clause-realizations c =
    let made : TypeFn → Realization = λ f. record { name = c.args.name; fun = f } in
    on_ok_weaker c.realize.result
    (λ e. e ∙ ap (λ t. let f : TypeFn = record { arity = c.args.fun.arity; body = t } in c.args.table.now.realizations ++ made f ∷ []) (resolved_again c.args.table.now.realizations c.args.fun.body c.requires.resolved))
    c.realize.ensures.realizations
