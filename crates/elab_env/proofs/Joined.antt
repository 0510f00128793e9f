-- The type function that is a name, and what joining asks and gives.
use Rattle.std.proofs.Common.{◌≡◌, ℕ, zero, suc, ◌+◌, ◌<◌, ◌≤◌, ◌==◌, ◌&&◌, ◌||◌, Bool, true, false, not, max, min, if◌then◌else◌, IsTrue, List, [], ◌∷◌, ◌++◌, map, slice_get, refl, sym, ap, ap₂, ◌∙◌, subst, arith, inl, inr}
use Rattle.std.proofs.lemmas.Bool.{and_from, cases_lt, lt-ltb, ne_eqb, not_from_false}
use Rattle.type_core.specs.declared.ty.VarId.{VarId}
use Rattle.type_core.specs.declared.ty.Ty.{Ty}
use Rattle.type_core.specs.declared.ty.Ty.TheVariants as ty
use Rattle.type_core.specs.declared.names.TypeName.{TypeName}
use Rattle.type_core.specs.declared.type_fn.TypeFn.{TypeFn}
use Rattle.type_core.specs.Lists.{all_true}
use Rattle.type_core.specs.Substitution.{allows, each_variable}
use Rattle.type_core.specs.TypeFunctions.{IsTypeFn}
use Rattle.type_core.specs.Types.{IsTypeOver, is_over, is_type, takes}
use Rattle.type_core.proofs.Trees.{each_variable_con, each_variable_var}
use Rattle.type_core.proofs.TypeTests.{is_over_con, is_over_var, is_type_con, is_type_var}
use Rattle.elab_env.specs.declared.realization.Realization.{Realization}
use Rattle.elab_env.specs.Avoids.{Avoids, avoids}
use Rattle.elab_env.specs.Names.{arity_of, is_described}
use Rattle.elab_env.specs.Parameters.{name_function, parameters, parameters_from}
use Rattle.elab_env.specs.Realizations.{function_resolved, resolved}
use Rattle.elab_env.specs.Table.{Table, is_free, is_realized, joining}
use Rattle.elab_env.proofs.Equations.{avoids_con, avoids_var}
use Rattle.elab_env.proofs.Kept.{free_described, free_not_realized}
use Rattle.elab_env.proofs.Meant.{parameters_resolved}
use Rattle.elab_env.proofs.ParameterLists.{length-parameters_from}
use Rattle.elab_env.proofs.Resolved.{resolved_other}

-- ---- parameters are types
parameters_pass : (test : Ty → Bool) (first count bound : ℕ) → first + count ≤ bound → ((v : VarId) → v.n < bound → v.eq ≡ false → test (ty.Var v) ≡ true) → all_true (map test (parameters_from first count)) ≡ true
parameters_pass test first zero bound l h = refl
parameters_pass test first (suc count) bound l h = and_from _ _ (h _ (omega (arith, l)) refl) (parameters_pass test (first + 1) count bound (omega (arith, l)) h)

all_parameters_pass : (test : Ty → Bool) (arity : ℕ) → ((v : VarId) → v.n < arity → v.eq ≡ false → test (ty.Var v) ≡ true) → all_true (map test (parameters arity)) ≡ true
all_parameters_pass test arity h = parameters_pass test 0 arity arity (omega arith) h

allowed : (arity : ℕ) (v : VarId) → v.n < arity → v.eq ≡ false → allows arity false v ≡ true
allowed arity v l e = and_from _ _ (lt-ltb v.n arity l) (ap (λ b. if b then false else true) e)

pub name_is_function : (n arity : ℕ) (f : TypeFn) → f ≡ name_function n arity → IsTypeFn f
name_is_function n arity f e = subst IsTypeFn (sym e)
    (each_variable_con (allows arity false) _ (parameters arity) ∙ all_parameters_pass (each_variable (allows arity false)) arity (λ v l m. each_variable_var (allows arity false) v ∙ allowed arity v l m))

pub name_is_over : (names : List TypeName) (n arity : ℕ) (f : TypeFn) → f ≡ name_function n arity → takes (slice_get names n) arity ≡ true → IsTypeOver names f.body
name_is_over names n arity f e h = subst (λ g. IsTypeOver names g.body) (sym e) (record {
  is_type = is_type_con _ (parameters arity) ∙ all_parameters_pass is_type arity (λ v l m. is_type_var v);
  over = is_over_con names _ (parameters arity) ∙ and_from _ _ (ap (takes (slice_get names n)) (length-parameters_from 0 arity) ∙ h) (all_parameters_pass (is_over names) arity (λ v l m. is_over_var names v));
})

-- ---- a name that isn't realized stays
pub name_resolved : (rs : List Realization) (n arity : ℕ) (f : TypeFn) → f ≡ name_function n arity → is_realized rs n ≡ false → resolved rs f.body ≡ f.body
name_resolved rs n arity f e free = subst (λ g. resolved rs g.body ≡ g.body) (sym e) (resolved_other rs _ (parameters arity) free ∙ ap (ty.Con _) (parameters_resolved rs 0 arity))

pub other_avoided : (rs : List Realization) (n other arity : ℕ) (f : TypeFn) → f ≡ name_function n arity → is_realized rs n ≡ false → (n ≡ other → ⊥) → Avoids other (resolved rs f.body)
other_avoided rs n other arity f e free apart = subst (Avoids other) (sym (name_resolved rs n arity f e free)) (subst (λ g. Avoids other g.body) (sym e)
    (avoids_con other _ (parameters arity) ∙ and_from _ _ (not_from_false _ (ne_eqb n other apart)) (all_parameters_pass (avoids other) arity (λ v l m. avoids_var other v))))

-- ---- the lesser and the greater of two free names
pub of_lesser : (P : ℕ → Type 0) (a b n : ℕ) → n ≡ min a b → P a → P b → P n
of_lesser P a b n e p q = elim (cases_lt a b) [
  | inl l ↦ subst P (let same : a ≡ n = omega (arith, l, e) in same) p
  | inr l ↦ subst P (let same : b ≡ n = omega (arith, l, e) in same) q
]

pub lesser_differs : (a b m n : ℕ) → (a ≡ b → ⊥) → m ≡ min a b → n ≡ max a b → m ≡ n → ⊥
lesser_differs a b m n apart e f same = apart (elim (cases_lt a b) [
  | inl l ↦ omega (arith, l, e, f, same)
  | inr l ↦ omega (arith, l, e, f, same)
])

-- ---- another name's realization leaves a name free
realized_more : (rs : List Realization) (r : Realization) (n : ℕ) → is_realized (rs ++ r ∷ []) n ≡ (is_realized rs n || ((n == r.name.0) || false))
realized_more [] r n = refl
realized_more (s ∷ rs) r n = ap (λ b. (n == s.name.0) || b) (realized_more rs r n) ∙ assoc (n == s.name.0) (is_realized rs n) _
  where
    assoc : (a b c : Bool) → (a || (b || c)) ≡ ((a || b) || c)
    assoc true b c = refl
    assoc false b c = refl

pub still_free : (old new : Table) (r : Realization) (n : ℕ) → new.names ≡ old.names → new.realizations ≡ old.realizations ++ r ∷ [] → (n ≡ r.name.0 → ⊥) → IsTrue (is_free old n) → IsTrue (is_free new n)
still_free old new r n e f apart free =
    ap₂ (λ names rs. is_described names n && not (is_realized rs n)) e f
    ∙ and_from _ _ (free_described old n free)
    (not_from_false _ (realized_more old.realizations r n ∙ ap₂ (λ a b. a || (b || false)) (free_not_realized old n free) (ne_eqb n r.name.0 apart)))

-- ---- what joining realizes
pub joined : (names : List TypeName) (rs : List Realization) (a b kept gone : ℕ) (f : TypeFn) → (a ≡ b → ⊥) → kept ≡ min a b → gone ≡ max a b → f ≡ name_function kept (arity_of (slice_get names kept))
    → arity_of (slice_get names a) ≡ arity_of (slice_get names b) → is_realized rs kept ≡ false → (record { name = record { 0 = gone }; fun = function_resolved rs f }) ∷ [] ≡ joining names a b
joined names rs a b kept gone f apart e g is arity free =
    let same : arity_of (slice_get names kept) ≡ arity_of (slice_get names a) = of_lesser (λ n. arity_of (slice_get names n) ≡ arity_of (slice_get names a)) a b kept e refl (sym arity) in
    let fun : function_resolved rs f ≡ name_function (min a b) (arity_of (slice_get names a)) =
    ap (λ t. let h : TypeFn = record { arity = f.arity; body = t } in h) (name_resolved rs kept _ f is free) ∙ is ∙ ap₂ name_function e same in
    ap₂ (λ n h. let r : Realization = record { name = record { 0 = n }; fun = h } in r ∷ []) g fun
    ∙ sym (ap (λ c. if c then [] else (let r : Realization = record { name = record { 0 = max a b }; fun = name_function (min a b) (arity_of (slice_get names a)) } in r ∷ [])) (ne_eqb a b apart))
