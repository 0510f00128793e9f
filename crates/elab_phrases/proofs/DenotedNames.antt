-- The names that type functions denote, by whether they are these names.
use Rattle.std.proofs.Common.{◌≡◌, ℕ, ◌<◌, ◌≤◌, Bool, true, false, if◌then◌else◌, Option, Some, None, refl, sym, ap, ◌∙◌, rules}
use Rattle.std.specs.Option.{option_and_then}
use Rattle.std.proofs.lemmas.Bool.{lt-leb}
use Rattle.type_core.specs.declared.ty.Ty.{out-Ty}
use Rattle.type_core.specs.declared.ty.Ty.TheOpen.{Con}
use Rattle.type_core.specs.declared.ty.Ty.TheVariants as ty
use Rattle.type_core.specs.declared.ty.Ty.TheViews as views
use Rattle.type_core.specs.declared.type_fn.TypeFn.{TypeFn}
use Rattle.type_core.specs.EqualTypes.{types_equal}
use Rattle.type_core.proofs.EqualTypesDecide.{types_equal_decides}
use Rattle.elab_env.specs.Parameters.{name_function, parameters}
use Rattle.elab_env.specs.Table.{is_free}
use Rattle.elab_rules.specs.declared.progress.Progress.{Progress}
use Rattle.elab_rules.specs.Replacing.{denoted, flexible, head_step, if_denoted, if_flexible}
use Rattle.elab_rules.specs.Views.{state_of}
use Rattle.elab_phrases.proofs.FlexibleNames.{flexible_is, not_free, not_later}

name_head : (n arity : ℕ) → head_step (out-Ty (name_function n arity).body) ≡ Some n
name_head n arity = ap head_step (out_con n arity)
  where
    out_con : (n arity : ℕ) → out-Ty (ty.Con (record { 0 = n }) (parameters arity)) ≡ Con (record { 0 = n }) (parameters arity)
    out_con n arity = search (rules, views.the_lemmas)

-- a type function that is a name denotes it
pub denoted_is : (f : TypeFn) (n : ℕ) → f ≡ name_function n f.arity → denoted f ≡ Some n
denoted_is f n is =
    let body : f.body ≡ (name_function n f.arity).body = ap (λ (g : TypeFn). g.body) is in
    ap (option_and_then (if_denoted f)) (ap (λ t. head_step (out-Ty t)) body ∙ name_head n f.arity)
    ∙ ap (λ b. if b then Some n else None) ((types_equal_decides f.body (name_function n f.arity).body).1 body)

-- one that is no name denotes none
pub nothing_denoted : (f : TypeFn) → ((n : ℕ) → f ≡ name_function n f.arity → ⊥) → denoted f ≡ None
nothing_denoted f other = by_head (head_step (out-Ty f.body))
  where
    by_test : (n : ℕ) (b : Bool) → types_equal f.body (name_function n f.arity).body ≡ b → (if b then Some n else None) ≡ None
    by_test n true is = absurd (other n (ap (λ t. let g : TypeFn = record { arity = f.arity; body = t } in g) ((types_equal_decides f.body (name_function n f.arity).body).0 is)))
    by_test n false is = refl

    by_head : (o : Option ℕ) → option_and_then (if_denoted f) o ≡ None
    by_head None = refl
    by_head (Some n) = by_test n (types_equal f.body (name_function n f.arity).body) refl

-- ---- flexible names
module _ (base n : ℕ) (p : Progress) (f : TypeFn) (is : f ≡ name_function n f.arity) where
  pub flexible_denoted : base ≤ n → is_free p.table n ≡ true → Some n ≡ flexible base (state_of p) f
  flexible_denoted later free = sym (ap (option_and_then (if_flexible base (state_of p))) (denoted_is f n is) ∙ flexible_is base n p later free)

  pub gone_denoted : is_free p.table n ≡ false → None ≡ flexible base (state_of p) f
  gone_denoted gone = sym (ap (option_and_then (if_flexible base (state_of p))) (denoted_is f n is) ∙ not_free base n p gone)

  pub early_denoted : n < base → None ≡ flexible base (state_of p) f
  early_denoted early = sym (ap (option_and_then (if_flexible base (state_of p))) (denoted_is f n is) ∙ not_later base n p (lt-leb base n early))

pub none_flexible : (base : ℕ) (p : Progress) (f : TypeFn) → ((n : ℕ) → f ≡ name_function n f.arity → ⊥) → None ≡ flexible base (state_of p) f
none_flexible base p f other = sym (ap (option_and_then (if_flexible base (state_of p))) (nothing_denoted f other))
