-- Names that are joined, in a table and in a state.
use Rattle.std.proofs.Common.{◌≡◌, ℕ, ◌<◌, ◌==◌, Bool, true, false, if◌then◌else◌, min, max, List, [], ◌∷◌, slice_get, refl, ap, ap₂, ◌∙◌, arith}
use Rattle.std.proofs.lemmas.Bool.{ne_eqb}
use Rattle.type_core.specs.declared.names.TypeName.{TypeName}
use Rattle.elab_env.specs.declared.realization.Realization.{Realization}
use Rattle.elab_env.specs.Names.{arity_of, equality_at, joined_equality, with_equality}
use Rattle.elab_env.specs.Parameters.{name_function}
use Rattle.elab_env.specs.Table.{joining, with_joined}

-- ---- a greater name joined to a lesser one
same_choice : {A : Type 0} (b : Bool) (x y : A) → b ≡ false → (if b then x else y) ≡ y
same_choice true x y e = cc
same_choice false x y e = refl

lesser : (kept n : ℕ) → kept < n → min kept n ≡ kept
lesser kept n l = omega (arith, l)

greater : (kept n : ℕ) → kept < n → max kept n ≡ n
greater kept n l = omega (arith, l)

pub joining_is : (names : List TypeName) (kept n : ℕ) → kept < n → arity_of (slice_get names kept) ≡ arity_of (slice_get names n)
    → joining names kept n ≡ record { name = record { 0 = n }; fun = name_function kept (arity_of (slice_get names n)) } ∷ []
joining_is names kept n l same =
    same_choice (kept == n) [] _ (ne_eqb kept n (λ e. omega (arith, l, e)))
    ∙ ap (λ m. let r : Realization = record { name = record { 0 = m }; fun = name_function (min kept n) (arity_of (slice_get names kept)) } in r ∷ []) (greater kept n l)
    ∙ ap (λ m. let r : Realization = record { name = record { 0 = n }; fun = name_function m (arity_of (slice_get names kept)) } in r ∷ []) (lesser kept n l)
    ∙ ap (λ a. let r : Realization = record { name = record { 0 = n }; fun = name_function kept a } in r ∷ []) same

pub joined_names : (names : List TypeName) (kept n : ℕ) → kept < n → with_joined kept n names ≡ with_equality kept (joined_equality (equality_at names kept) (equality_at names n)) names
joined_names names kept n l =
    same_choice (kept == n) names _ (ne_eqb kept n (λ e. omega (arith, l, e)))
    ∙ ap₂ (λ m k. with_equality m (joined_equality (equality_at names m) (equality_at names k)) names) (lesser kept n l) (greater kept n l)
