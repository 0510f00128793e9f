-- Renaming is the substitution of the variables that it gives.
use Rattle.std.proofs.Common.{◌≡◌, ℕ, suc, ◌+◌, ◌||◌, Bool, true, false, true≢false, if◌then◌else◌, List, [], ◌∷◌, ◌++◌, map, Some, slice_get, refl, sym, ap, ap₂, ◌∙◌, subst, arith}
use Rattle.type_core.specs.declared.ty.VarId.{VarId}
use Rattle.type_core.specs.declared.ty.Scheme.{Scheme}
use Rattle.type_core.specs.declared.ty.Ty.{Ty}
use Rattle.type_core.specs.declared.ty.Ty.TheVariants as ty
use Rattle.type_core.specs.declared.ty.Field.{Field}
use Rattle.type_core.specs.Lists.{concatenated}
use Rattle.type_core.specs.Renaming.{Lists, Renaming, listed, renamed, field_renamed}
use Rattle.type_core.specs.Schemes.{IsScheme}
use Rattle.type_core.specs.Substitution.{field_substituted, or_variable, substituted}
use Rattle.type_core.specs.Variables.{by_first_occurrence, field_variables, occurs, place, same_variable, variables}
use Rattle.type_core.proofs.Places.{all_met, occurs_here, occurs_left, occurs_right, place_is_number, same_is}
use Rattle.type_core.proofs.Renamed.{field_eq}
use Rattle.type_core.proofs.Trees.{AtField, EachOf, induct_type, renamed_arrow, renamed_con, renamed_field, renamed_rec, renamed_tup, renamed_var, substituted_arrow, substituted_con, substituted_field, substituted_rec, substituted_tup, substituted_var, variables_arrow, variables_con, variables_field, variables_rec, variables_tup, variables_var}

module _ (r : Renaming) (by : List Ty) where
  abbrev IsListed : List VarId → Type 0
  IsListed vs = (v : VarId) → occurs v vs ≡ true → slice_get by v.n ≡ Some (ty.Var (r v))

  abbrev IsSame : Ty → Type 0
  IsSame t = IsListed (variables t) → renamed r t ≡ substituted by t

  listed_left : (vs ws : List VarId) → IsListed (vs ++ ws) → IsListed vs
  listed_left vs ws p v o = p v (occurs_left v vs ws o)

  listed_right : (vs ws : List VarId) → IsListed (vs ++ ws) → IsListed ws
  listed_right vs ws p v o = p v (occurs_right v vs ws o)

  all_same : (ts : List Ty) → EachOf IsSame ts → IsListed (concatenated (map variables ts)) → map (renamed r) ts ≡ map (substituted by) ts
  all_same [] ihs p = refl
  all_same (t ∷ ts) ihs p = ap₂ ◌∷◌ (ihs.0 (listed_left (variables t) _ p)) (all_same ts ihs.1 (listed_right (variables t) _ p))

  field_same : (f : Field) → IsSame f.ty → IsListed (field_variables f) → field_renamed r f ≡ field_substituted by f
  field_same f ih p = renamed_field r f ∙ field_eq _ _ refl (ih (subst IsListed (variables_field f) p)) ∙ sym (substituted_field by f)

  fields_same : (fs : List Field) → EachOf (AtField IsSame) fs → IsListed (concatenated (map field_variables fs))
      → map (field_renamed r) fs ≡ map (field_substituted by) fs
  fields_same [] ihs p = refl
  fields_same (f ∷ fs) ihs p = ap₂ ◌∷◌ (field_same f ihs.0 (listed_left (field_variables f) _ p)) (fields_same fs ihs.1 (listed_right (field_variables f) _ p))

  variable_same : (v : VarId) → IsSame (ty.Var v)
  variable_same v p =
      renamed_var r v ∙ ap (or_variable v) (sym (subst IsListed (variables_var v) p v (occurs_here v []))) ∙ sym (substituted_var by v)

  arrow_same : (a b : Ty) → IsSame a → IsSame b → IsSame (ty.Arrow a b)
  arrow_same a b x y p =
      let q = subst IsListed (variables_arrow a b) p in
      renamed_arrow r a b ∙ ap₂ ty.Arrow (x (listed_left (variables a) (variables b) q)) (y (listed_right (variables a) (variables b) q))
      ∙ sym (substituted_arrow by a b)

  pub renamed_is_substituted : (t : Ty) → Lists r t by → renamed r t ≡ substituted by t
  renamed_is_substituted = induct_type IsSame
      variable_same
      (λ name ts ihs p. renamed_con r name ts ∙ ap (ty.Con name) (all_same ts ihs (subst IsListed (variables_con name ts) p)) ∙ sym (substituted_con by name ts))
      (λ fs ihs p. renamed_rec r fs ∙ ap ty.Rec (fields_same fs ihs (subst IsListed (variables_rec fs) p)) ∙ sym (substituted_rec by fs))
      (λ ts ihs p. renamed_tup r ts ∙ ap ty.Tup (all_same ts ihs (subst IsListed (variables_tup ts) p)) ∙ sym (substituted_tup by ts))
      arrow_same

one_more : (n : ℕ) → 1 + n ≡ suc n
one_more n = omega arith

-- a variable stands at its place, and its image at that place among the images
image_at_place : {A : Type 0} (f : VarId → A) (v : VarId) (vs : List VarId) → occurs v vs ≡ true → slice_get (map f vs) (place v vs) ≡ Some (f v)
image_at_place f v [] o = absurd (true≢false (sym o))
image_at_place f v (w ∷ vs) o = cases (same_variable v w) refl (λ p. image_at_place f v vs p) o
  where
    cases : (b : Bool) → same_variable v w ≡ b → (occurs v vs ≡ true → slice_get (map f vs) (place v vs) ≡ Some (f v)) → (b || occurs v vs) ≡ true
        → slice_get (f w ∷ map f vs) (if b then 0 else 1 + place v vs) ≡ Some (f v)
    cases true e next p = ap (λ u. Some (f u)) (sym (same_is v w e))
    cases false e next p = ap (slice_get (f w ∷ map f vs)) (one_more (place v vs)) ∙ next p

number_of : (m n : ℕ) → 0 + m ≡ n → m ≡ n
number_of m n e = omega (arith, e)

pub scheme_listed : (r : Renaming) (s : Scheme) → IsScheme s → Lists r s.body (listed r (by_first_occurrence s.body))
scheme_listed r s is v o =
    let order = by_first_occurrence s.body in
    let f : VarId → Ty = λ w. ty.Var (r w) in
    let met = all_met [] (variables s.body) v o in
    ap (slice_get (map f order)) (sym (number_of _ _ (place_is_number 0 s.vars order is v met))) ∙ image_at_place f v order met
