-- What an application of a name means, and what names mean that are followed.
use Rattle.std.proofs.Common.{◌≡◌, ℕ, zero, suc, ◌+◌, ◌==◌, Bool, true, false, if◌then◌else◌, IsTrue, List, [], ◌∷◌, ◌++◌, length, length-append, drop, map, slice_get, Some, None, refl, sym, ap, ap₂, ◌∙◌, subst, arith}
use Rattle.std.proofs.lemmas.Bool.{and_parts, and_from, eqb-true}
use Rattle.std.proofs.lemmas.List.{length-map}
use Rattle.std.specs.List.{AllByRecursion}
use Rattle.type_core.specs.declared.ty.NameId.{NameId}
use Rattle.type_core.specs.declared.ty.Ty.{Ty}
use Rattle.type_core.specs.declared.ty.Ty.TheVariants as ty
use Rattle.type_core.specs.declared.ty.Ty.TheVariants.{rolls-Var, rolls-Con, rolls-Rec, rolls-Tup, rolls-Arrow}
use Rattle.type_core.specs.declared.ty.Ty.TheFolds.{fold-roll-Ty}
use Rattle.type_core.specs.declared.names.TypeName.{TypeName}
use Rattle.type_core.specs.Lists.{all_true, sum_of}
use Rattle.type_core.specs.Substitution.{VariablesBelow, allows, or_variable, substituted}
use Rattle.type_core.specs.TypeFunctions.{applied}
use Rattle.type_core.specs.Types.{IsOver, is_over, takes}
use Rattle.type_core.proofs.Trees.{substituted_con, substituted_var}
use Rattle.type_core.proofs.TypeTests.{is_over_con}
use Rattle.elab_env.specs.declared.realization.Realization.{Realization}
use Rattle.elab_env.specs.Meaning.{IsFollowed, IsLinked, body_of, meant, name_weight, weigh_field_step, weigh_step, weighed}
use Rattle.elab_env.specs.Parameters.{name_function, parameters, parameters_from}
use Rattle.elab_env.specs.Realizations.{replaced, resolved}
use Rattle.elab_env.specs.Sound.{AreRealizations, IsRealization}
use Rattle.elab_env.proofs.Parts.{map_map}
use Rattle.elab_env.proofs.Equations.{replaced_con}
use Rattle.elab_env.proofs.ParameterLists.{length-parameters_from}
use Rattle.elab_env.proofs.Placed.{StandsAt}
use Rattle.elab_env.proofs.Replacing.{arguments_over, fits, one_arity, over_replaced, substituted_substituted, takes_arguments}
use Rattle.elab_env.proofs.Resolved.{resolved_substituted, resolved_var, resolved_variables}

-- ---- an application
all_over : (names : List TypeName) (r : Realization) → IsRealization names r → (ts : List Ty) → all_true (map (is_over names) ts) ≡ true → all_true (map (is_over names) (map (replaced r) ts)) ≡ true
all_over names r h [] e = refl
all_over names r h (t ∷ ts) e = let p = and_parts (is_over names t) _ e in and_from _ _ (over_replaced r names h t p.0) (all_over names r h ts p.1)

same_types : (ts : List Ty) → ts ≡ map (resolved []) ts
same_types [] = refl
same_types (t ∷ ts) = ap (λ rest. t ∷ rest) (same_types ts)

module _ (names : List TypeName) where
  pub resolved_con : (rs : List Realization) (name : NameId) (ts : List Ty) → AreRealizations names rs → IsOver names (ty.Con name ts) → resolved rs (ty.Con name ts) ≡ meant rs name (map (resolved rs) ts)
  resolved_con [] name ts h over = ap (ty.Con name) (same_types ts)
  resolved_con (r ∷ rs) name ts h over = ap (resolved rs) (replaced_con r name ts) ∙ by_test (name.0 == r.name.0) (resolved_con rs name (map (replaced r) ts) h.1 again)
    where
      again : IsOver names (ty.Con name (map (replaced r) ts))
      again = is_over_con names name _ ∙ and_from _ _ (ap (takes (slice_get names name.0)) (length-map ts (replaced r)) ∙ takes_arguments names name ts over) (all_over names r h.0 ts (arguments_over names name ts over))

      by_test : (b : Bool) → resolved rs (ty.Con name (map (replaced r) ts)) ≡ meant rs name (map (resolved rs) (map (replaced r) ts))
          → resolved rs (if b then applied r.fun (map (replaced r) ts) else ty.Con name (map (replaced r) ts)) ≡ (if b then substituted (map (resolved (r ∷ rs)) ts) (resolved rs r.fun.body) else meant rs name (map (resolved (r ∷ rs)) ts))
      by_test true e = resolved_substituted names rs (map (replaced r) ts) r.fun.body h.1 h.0.body.over ∙ ap (λ us. substituted us (resolved rs r.fun.body)) (map_map (resolved rs) (replaced r) ts)
      by_test false e = e ∙ ap (meant rs name) (map_map (resolved rs) (replaced r) ts)

  -- a body after the realizations that follow has no variables but its parameters
  pub body_fits : (r : Realization) (rs : List Realization) (n count : ℕ) → IsRealization names r → AreRealizations names rs → n ≡ r.name.0 → takes (slice_get names n) count ≡ true → VariablesBelow count (resolved rs r.fun.body)
  body_fits r rs n count h hs same e = resolved_variables names rs (allows count true) r.fun.body hs h.body.over (fits names r n count h same e)

  substituted_meant : (by : List Ty) (rs : List Realization) (name : NameId) (ts : List Ty) → AreRealizations names rs → takes (slice_get names name.0) (length ts) ≡ true → substituted by (meant rs name ts) ≡ meant rs name (map (substituted by) ts)
  substituted_meant by [] name ts h e = substituted_con by name ts
  substituted_meant by (r ∷ rs) name ts h e = by_test (name.0 == r.name.0) refl (substituted_meant by rs name ts h.1 e)
    where
      by_test : (b : Bool) → (name.0 == r.name.0) ≡ b → substituted by (meant rs name ts) ≡ meant rs name (map (substituted by) ts)
          → substituted by (if b then substituted ts (resolved rs r.fun.body) else meant rs name ts) ≡ (if b then substituted (map (substituted by) ts) (resolved rs r.fun.body) else meant rs name (map (substituted by) ts))
      by_test true is k = substituted_substituted by ts (resolved rs r.fun.body) (body_fits r rs name.0 (length ts) h.0 h.1 (eqb-true name.0 r.name.0 is) e)
      by_test false is k = k

-- ---- parameters
pub parameters_resolved : (rs : List Realization) (first count : ℕ) → map (resolved rs) (parameters_from first count) ≡ parameters_from first count
parameters_resolved rs first zero = refl
parameters_resolved rs first (suc count) = ap₂ ◌∷◌ (resolved_var rs _) (parameters_resolved rs (first + 1) count)

argument_at : (before ts : List Ty) (t : Ty) (n : ℕ) → n ≡ length before → slice_get (before ++ t ∷ ts) n ≡ Some t
argument_at [] ts t zero e = refl
argument_at [] ts t (suc n) e = absurd (omega (arith, e))
argument_at (b ∷ before) ts t zero e = absurd (omega (arith, e))
argument_at (b ∷ before) ts t (suc n) e = argument_at before ts t n (omega (arith, e))

arguments_after : (before ts by : List Ty) (first : ℕ) → first ≡ length before → by ≡ before ++ ts → map (substituted by) (parameters_from first (length ts)) ≡ ts
arguments_after before [] by first e f = refl
arguments_after before (t ∷ ts) by first e f = ap₂ ◌∷◌
    (substituted_var by _ ∙ ap (or_variable _) (ap (λ us. slice_get us first) f ∙ argument_at before ts t first e))
    (arguments_after (before ++ t ∷ []) ts by (first + 1) (omega (arith, e, length-append before (t ∷ []))) (f ∙ sym (one_later before t ts)))
  where
    one_later : (xs : List Ty) (t : Ty) (ts : List Ty) → (xs ++ t ∷ []) ++ ts ≡ xs ++ t ∷ ts
    one_later [] t ts = refl
    one_later (x ∷ xs) t ts = ap (λ rest. x ∷ rest) (one_later xs t ts)

-- the arguments in the places of the parameters
arguments_for_parameters : (arity : ℕ) (ts : List Ty) → length ts ≡ arity → map (substituted ts) (parameters arity) ≡ ts
arguments_for_parameters arity ts e = ap (λ n. map (substituted ts) (parameters n)) (sym e) ∙ arguments_after [] ts ts 0 refl refl

-- ---- weights
pub weighed_con : (w : ℕ → ℕ) (name : NameId) (ts : List Ty) → weighed w (ty.Con name ts) ≡ 1 + (w name.0 + sum_of (map (weighed w) ts))
weighed_con w name ts = ap (weighed w) (sym (rolls-Con name ts)) ∙ fold-roll-Ty _ _ (weigh_step w) weigh_field_step _

-- ---- following names
all_at : {A : Type 0} (P : A → Type 0) (xs : List A) (i : ℕ) (x : A) → AllByRecursion P xs → slice_get xs i ≡ Some x → P x
all_at P [] i x h e = absurd (let clash : ⊥ = grind (arith, e) in clash)
all_at P (y ∷ xs) zero x h e = subst P (let same : y ≡ x = grind (arith, e) in same) h.0
all_at P (y ∷ xs) (suc i) x h e = all_at P xs i x h.1 e

pub later_realizations : (names : List TypeName) (n : ℕ) (rs : List Realization) → AreRealizations names rs → AreRealizations names (drop n rs)
later_realizations names zero rs h = h
later_realizations names (suc n) [] h = tt
later_realizations names (suc n) (r ∷ rs) h = later_realizations names n rs h.1

pub linked_start : (names : List TypeName) (rs : List Realization) (start : NameId) (from : ℕ) → IsLinked names rs start start from from
linked_start names rs start from = record { fits = λ count e. e; means = λ ts e. refl; weighs = omega arith }

module _ (names : List TypeName) (rs : List Realization) (are : AreRealizations names rs) (start name : NameId) (from at : ℕ) (linked : IsLinked names rs start name from at) where
  pub linked_more : (next : NameId) (p : ℕ) (r : Realization) → StandsAt rs at p name → slice_get rs p ≡ Some r → r.fun ≡ name_function next.0 r.fun.arity → IsLinked names rs start next from (p + 1)
  linked_more next p r stands here is =
      let later = drop (p + 1) rs in
      let laters : AreRealizations names later = later_realizations names (p + 1) rs are in
      let realization : IsRealization names r = all_at (IsRealization names) rs p r are here in
      let arity = r.fun.arity in
      let body : r.fun.body ≡ ty.Con next (parameters arity) = ap (λ f. f.body) is in
      let body_here : body_of (slice_get rs p) ≡ ty.Con next (parameters arity) = ap body_of here ∙ body in
      let over : IsOver names (ty.Con next (parameters arity)) = subst (IsOver names) body realization.body.over in
      let next_takes : takes (slice_get names next.0) arity ≡ true = ap (takes (slice_get names next.0)) (sym (length-parameters_from 0 arity)) ∙ takes_arguments names next (parameters arity) over in
      let count_is : (count : ℕ) → IsTrue (takes (slice_get names start.0) count) → count ≡ arity =
      λ count e. one_arity (slice_get names name.0) count arity (linked.fits count e) (subst (λ n. takes (slice_get names n) arity ≡ true) (stands.same r here) realization.arity) in
      record {
        fits = λ count e. ap (takes (slice_get names next.0)) (count_is count e) ∙ next_takes;
        means = λ ts e.
            linked.means ts e
            ∙ stands.means ts
            ∙ ap (λ t. substituted ts (resolved later t)) body_here
            ∙ ap (substituted ts) (resolved_con names later next (parameters arity) laters over ∙ ap (meant later next) (parameters_resolved later 0 arity))
            ∙ substituted_meant names ts later next (parameters arity) laters (ap (takes (slice_get names next.0)) (length-parameters_from 0 arity) ∙ next_takes)
            ∙ ap (meant later next) (arguments_for_parameters arity ts (count_is (length ts) e));
        weighs =
            let heavier : name_weight (drop at rs) name.0 ≡ 1 + (name_weight later next.0 + sum_of (map (weighed (name_weight later)) (parameters arity))) =
            stands.weighs ∙ ap (weighed (name_weight later)) body_here ∙ weighed_con (name_weight later) next (parameters arity) in
            omega (arith, heavier, linked.weighs);
      }

  pub followed_to : (p : ℕ) (r : Realization) → StandsAt rs at p name → slice_get rs p ≡ Some r → IsFollowed names rs start name from (Some p)
  followed_to p r stands here =
      let realization : IsRealization names r = all_at (IsRealization names) rs p r are here in
      record {
        means = λ ts e. linked.means ts e ∙ stands.means ts;
        weighs = omega (arith, stands.weighs, linked.weighs);
        can_take = record {
          within = stands.within;
          over = subst (λ o. IsOver names (body_of o)) (sym here) realization.body.over;
          variables = λ count e. subst (λ o. VariablesBelow count (resolved (drop (p + 1) rs) (body_of o))) (sym here)
              (body_fits names r (drop (p + 1) rs) name.0 count realization (later_realizations names (p + 1) rs are) (sym (stands.same r here)) (linked.fits count e));
        };
      }

  pub followed_out : ((arguments : List Ty) → meant (drop at rs) name arguments ≡ ty.Con name arguments) → IsFollowed names rs start name from None
  followed_out out = record { means = λ ts e. linked.means ts e ∙ out ts; weighs = omega arith; can_take = tt }
