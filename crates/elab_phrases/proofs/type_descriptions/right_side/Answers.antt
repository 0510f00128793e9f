use Rattle.std.proofs.Common.{◌≡◌, ℕ, length, sym, subst}
use Rattle.type_core.specs.declared.type_fn.TypeFn.{TypeFn}
use Rattle.elab_env.specs.Parameters.{name_function}
use Rattle.elab_rules.specs.declared.progress.Progress.{Progress}
use Rattle.elab_rules.specs.Standing.{IsSettledType}
use Rattle.elab_phrases.proofs.NewNames.{new_function}
use Rattle.elab_phrases.proofs.Phrases.{sees_front}
use Rattle.elab_phrases.proofs.Stands.{sees_mentions}
use Rattle.elab_phrases.proofs.type_descriptions.right_side.Goals as goal

settled_as : (p q : Progress) (arity n : ℕ) (f : TypeFn) → IsSettledType q.table (name_function (length p.table.names) arity).body → n ≡ length p.table.names → f ≡ name_function n arity → IsSettledType q.table f.body
settled_as p q arity n f h number is =
    subst (λ (g : TypeFn). IsSettledType q.table g.body) (sym is) (subst (λ m. IsSettledType q.table (name_function m arity).body) (sym number) h)

pub type_of-requires : goal.type_of-requires
type_of-requires c = record { sees = sees_front c.args.progress.now c.args.site.now c.args.own.now.entries.items _ c.args.before c.scope_before-seen.ensures.value c.requires.sees }

pub returns-in_ok-name_function-in-None-clause-settled : goal.returns-in_ok-name_function-in-None-clause-settled
returns-in_ok-name_function-in-None-clause-settled c =
    let p = c.args.progress.now in
    let q = c.describe.new.self in
    let name = c.in_ok-name-in-None.ensures in
    settled_as p q _ _ _ (new_function p q _ _ c.args.equality c.is_sound.ensures.sound name.described name.mentions) name.number c.in_ok-name_function-in-None.ensures.value

pub returns-in_ok-name_function-in-None-clause-sees : goal.returns-in_ok-name_function-in-None-clause-sees
returns-in_ok-name_function-in-None-clause-sees c =
    sees_mentions c.args.progress.now c.describe.new.self c.args.site.now c.args.own.now.entries.items c.in_ok-name-in-None.ensures.mentions c.requires.sees

pub returns-in_ok-body-in-Some-clause-sees : goal.returns-in_ok-body-in-Some-clause-sees
returns-in_ok-body-in-Some-clause-sees c =
    sees_mentions c.args.progress.now c.type_of.new.progress c.args.site.now c.args.own.now.entries.items c.in_ok-body-in-Some.ensures.grew c.requires.sees
