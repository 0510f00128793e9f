-- Names that come later: a type over the first names mentions none of them, and is what it is when they are realized.
use Rattle.std.proofs.Common.{◌≡◌, ℕ, zero, suc, ◌<◌, ◌≤◌, ◌&&◌, Bool, true, false, true≢false, not, IsTrue, List, [], ◌∷◌, ◌++◌, length, take, slice_get, nat_le, Option, Some, None, refl, sym, ap, ◌∙◌, subst, arith}
use Rattle.std.specs.List.{All}
use Rattle.std.proofs.lemmas.Bool.{and_from, leb-false, leb-true, ne_eqb}
use Rattle.std.proofs.lemmas.List.Elements.{All-head, All-tail, All-weaker}
use Rattle.std.proofs.lemmas.Option.{slice_get_within}
use Rattle.type_core.specs.declared.names.TypeName.{TypeName}
use Rattle.type_core.specs.declared.ty.Ty.{Ty}
use Rattle.type_core.specs.InitialNames.{initial_names}
use Rattle.type_core.specs.Types.{IsOver, is_over, takes}
use Rattle.elab_env.specs.declared.realization.Realization.{Realization}
use Rattle.elab_env.specs.Avoids.{Avoids, avoids}
use Rattle.elab_env.specs.Names.{is_own}
use Rattle.elab_env.specs.Realizations.{replaced, resolved}
use Rattle.elab_env.specs.Sound.{AreRealizations, IsRealization, IsResolved}
use Rattle.elab_env.proofs.Equations.{avoids_collects, avoids_con, avoids_var, over_partwise}
use Rattle.elab_env.proofs.Parts.{nothing_inside, passes}
use Rattle.elab_env.proofs.Replacing.{over_replaced, takes_arguments, untouched}
use Rattle.elab_env.proofs.Resolved.{resolved_again}
use Rattle.elab_rules.specs.Environments.{Environment}
use Rattle.elab_rules.specs.Replacing.{environment_with}
use Rattle.elab_rules.specs.Standing.{AreOver, IsEarly}
use Rattle.elab_rules.specs.Wheres.{types_of}
use Rattle.elab_rules.proofs.Entries.{with_agrees}

-- ---- a type over names mentions none past their end
pub known_within : (names : List TypeName) (n count : ℕ) → takes (slice_get names n) count ≡ true → n < length names
known_within names n count e = by_name (slice_get names n) refl e
  where
    by_name : (o : Option TypeName) → slice_get names n ≡ o → takes o count ≡ true → n < length names
    by_name None is e = absurd (true≢false (sym e))
    by_name (Some name) is e = slice_get_within names n name is

pub over_avoids : (names : List TypeName) (n : ℕ) → length names ≤ n → (t : Ty) → IsOver names t → Avoids n t
over_avoids names n later = passes (λ t. t) (is_over names) (avoids n) (over_partwise names) nothing_inside (avoids_collects (λ t. t) (is_over names) n)
    (λ v e. avoids_var n v)
    (λ name ts e k. avoids_con n name ts ∙ and_from _ _ (ap not (ne_eqb name.0 n (λ same. omega (arith, later, same, known_within names name.0 (length ts) (takes_arguments names name ts e))))) k)

pub over_resolved : (base : ℕ) (names : List TypeName) (rs : List Realization) (t : Ty) → length names ≤ base → All (λ r. base ≤ r.name.0) rs → IsOver names t → IsResolved rs t
over_resolved base names [] t l later over = tt
over_resolved base names (r ∷ rs) t l later over = (
  over_avoids names r.name.0 (omega (arith, l, All-head (λ (s : Realization). base ≤ s.name.0) r rs later)) t over,
  over_resolved base names rs t l (All-tail (λ (s : Realization). base ≤ s.name.0) r rs later) over,
)

-- realizing later names leaves it
pub later_resolved : (base : ℕ) (names : List TypeName) (rs : List Realization) (t : Ty) → length names ≤ base → All (λ r. base ≤ r.name.0) rs → IsOver names t → resolved rs t ≡ t
later_resolved base names rs t l later over = resolved_again rs t (over_resolved base names rs t l later over)

-- ---- the first names
pub length_taken : (base : ℕ) (names : List TypeName) → length (take base names) ≤ base
length_taken zero names = omega arith
length_taken (suc base) [] = omega arith
length_taken (suc base) (name ∷ names) = omega (arith, length_taken base names)

pub get_taken : (base : ℕ) (names : List TypeName) (n : ℕ) → n < base → slice_get (take base names) n ≡ slice_get names n
get_taken zero names n l = absurd (omega (arith, l))
get_taken (suc base) [] n l = refl
get_taken (suc base) (name ∷ names) zero l = refl
get_taken (suc base) (name ∷ names) (suc n) l = get_taken base names n (omega (arith, l))

-- a realization of an early name by a type over the early names
early_realization : (base : ℕ) (names : List TypeName) (r : Realization) → r.name.0 < base → IsRealization names r → IsOver (take base names) r.fun.body → IsRealization (take base names) r
early_realization base names r l h over = record {
  described = subst (λ o. IsTrue (nat_le (length initial_names) r.name.0 && is_own o)) (sym (get_taken base names r.name.0 l)) h.described;
  arity = subst (λ o. IsTrue (takes o r.fun.arity)) (sym (get_taken base names r.name.0 l)) h.arity;
  function = h.function;
  body = record { is_type = h.body.is_type; over = over };
}

replaced_early : (base : ℕ) (names : List TypeName) (r : Realization) (t : Ty) → IsRealization names r → IsEarly base names r → IsOver (take base names) t → IsOver (take base names) (replaced r t)
replaced_early base names r t h early over = by_case (nat_le base r.name.0) refl
  where
    by_case : (b : Bool) → nat_le base r.name.0 ≡ b → IsOver (take base names) (replaced r t)
    by_case true is = subst (IsOver (take base names)) (sym (untouched r t (over_avoids (take base names) r.name.0 (omega (arith, leb-true base r.name.0 is, length_taken base names)) t over))) over
    by_case false is = let l = leb-false base r.name.0 is in over_replaced r (take base names) (early_realization base names r l h (early l)) t over

-- where early names were realized by types over early names, what a type over early names means is one
pub resolved_early : (base : ℕ) (names : List TypeName) (rs : List Realization) (t : Ty) → AreRealizations names rs → All (IsEarly base names) rs → IsOver (take base names) t → IsOver (take base names) (resolved rs t)
resolved_early base names [] t h early over = over
resolved_early base names (r ∷ rs) t h early over =
    resolved_early base names rs (replaced r t) h.1 (All-tail (IsEarly base names) r rs early)
    (replaced_early base names r t h.0 (All-head (IsEarly base names) r rs early) over)

pub resolved_appended : (rs more : List Realization) (t : Ty) → resolved (rs ++ more) t ≡ resolved more (resolved rs t)
resolved_appended [] more t = refl
resolved_appended (r ∷ rs) more t = resolved_appended rs more (replaced r t)

-- an environment over early names is by now what it was before later names were realized
pub stays : (base : ℕ) (names : List TypeName) (rs more : List Realization) (env : Environment) → AreRealizations names rs → All (IsEarly base names) rs → All (λ r. base ≤ r.name.0) more → AreOver (take base names) env
    → environment_with (resolved (rs ++ more)) env ≡ environment_with (resolved rs) env
stays base names rs more env h early later over =
    with_agrees (resolved (rs ++ more)) (resolved rs) env
    (All-weaker (IsOver (take base names)) (λ t. resolved (rs ++ more) t ≡ resolved rs t)
    (λ t o. resolved_appended rs more t ∙ later_resolved base (take base names) more (resolved rs t) (length_taken base names) later (resolved_early base names rs t h early o))
    (types_of env) over)
