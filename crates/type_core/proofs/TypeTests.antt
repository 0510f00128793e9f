-- The equations of the tests for types.
use Rattle.std.proofs.Common.{◌≡◌, ◌≢◌, ℕ, ◌&&◌, Bool, true, false, true≢false, not, List, [], ◌∷◌, map, length, nat_eq, slice_get, unwrap_or, Option, Some, None, refl, sym, ap, ap₂, subst, ◌∙◌, eqb-true, zero, suc}
use Rattle.std.proofs.lemmas.List.{length-map}
use Rattle.type_core.specs.declared.ty.VarId.{VarId}
use Rattle.type_core.specs.declared.ty.NameId.{NameId}
use Rattle.type_core.specs.declared.ty.Ty.{Ty}
use Rattle.type_core.specs.declared.ty.Field.{Field}
use Rattle.type_core.specs.declared.ty.Ty.TheVariants as ty
use Rattle.type_core.specs.declared.ty.Ty.TheVariants.{rolls-Var, rolls-Con, rolls-Rec, rolls-Tup, rolls-Arrow}
use Rattle.type_core.specs.declared.ty.Ty.TheFolds.{fold-Field, fold-roll-Ty, fold-roll-Field}
use Rattle.type_core.specs.declared.names.TypeName.{TypeName}
use Rattle.type_core.specs.Labels.{are_record_labels}
use Rattle.type_core.specs.Lists.{all_true}
use Rattle.type_core.specs.Types.{IsOver, IsType, IsTypeOver, is_over, is_type, over_field_step, over_step, takes, type_field_step, type_step}

-- whether the tree is a type
pub is_type_var : (v : VarId) → is_type (ty.Var v) ≡ true
unfolding is_type
is_type_var v = ap is_type (sym (rolls-Var v)) ∙ fold-roll-Ty _ _ type_step type_field_step _

pub is_type_con : (name : NameId) (ts : List Ty) → is_type (ty.Con name ts) ≡ all_true (map is_type ts)
unfolding is_type
is_type_con name ts = ap is_type (sym (rolls-Con name ts)) ∙ fold-roll-Ty _ _ type_step type_field_step _

field_tested : (field : Field) → fold-Field Bool (List ℕ × Bool) type_step type_field_step field ≡ (field.label, is_type field.ty)
unfolding is_type
field_tested field = fold-roll-Field _ _ type_step type_field_step (record { label = field.label; ty = field.ty })

abbrev tested : Field → List ℕ × Bool
tested = fold-Field Bool (List ℕ × Bool) type_step type_field_step

labels_tested : (fields : List Field) → map (λ (p : List ℕ × Bool). p.0) (map tested fields) ≡ map (λ field. field.label) fields
labels_tested [] = refl
labels_tested (field ∷ fields) = ap₂ ◌∷◌ (ap (λ (p : List ℕ × Bool). p.0) (field_tested field)) (labels_tested fields)

types_tested : (fields : List Field) → map (λ (p : List ℕ × Bool). p.1) (map tested fields) ≡ map (λ field. is_type field.ty) fields
types_tested [] = refl
types_tested (field ∷ fields) = ap₂ ◌∷◌ (ap (λ (p : List ℕ × Bool). p.1) (field_tested field)) (types_tested fields)

pub is_type_rec : (fields : List Field) → is_type (ty.Rec fields) ≡ (are_record_labels (map (λ field. field.label) fields) && all_true (map (λ field. is_type field.ty) fields))
unfolding is_type
is_type_rec fields = ap is_type (sym (rolls-Rec fields)) ∙ fold-roll-Ty _ _ type_step type_field_step _ ∙ ap₂ (λ labels tests. are_record_labels labels && all_true tests) (labels_tested fields) (types_tested fields)

pub is_type_tup : (ts : List Ty) → is_type (ty.Tup ts) ≡ (not (nat_eq (length ts) 1) && all_true (map is_type ts))
unfolding is_type
is_type_tup ts = ap is_type (sym (rolls-Tup ts)) ∙ fold-roll-Ty _ _ type_step type_field_step _ ∙ ap (λ n. not (nat_eq n 1) && all_true (map is_type ts)) (length-map ts is_type)

pub is_type_arrow : (a b : Ty) → is_type (ty.Arrow a b) ≡ (is_type a && is_type b)
unfolding is_type
is_type_arrow a b = ap is_type (sym (rolls-Arrow a b)) ∙ fold-roll-Ty _ _ type_step type_field_step _

-- what is a type by its parts, and the parts of what is one
both : (x y : Bool) → (x && y) ≡ true → (x ≡ true) × (y ≡ true)
both true y e = (refl, e)
both false y e = absurd (true≢false (sym e))

pub arrow_is_type : (a b : Ty) → IsType a → IsType b → IsType (ty.Arrow a b)
arrow_is_type a b k l = is_type_arrow a b ∙ ap₂ ◌&&◌ k l

pub sides_are_types : (a b : Ty) → IsType (ty.Arrow a b) → IsType a × IsType b
sides_are_types a b k = both (is_type a) (is_type b) (sym (is_type_arrow a b) ∙ k)

not_one : (n : ℕ) → n ≢ 1 → not (nat_eq n 1) ≡ true
not_one n l = go (nat_eq n 1) refl
  where
    go : (b : Bool) → nat_eq n 1 ≡ b → not b ≡ true
    go true e = absurd (l (eqb-true n 1 e))
    go false e = refl

one_not : (n : ℕ) → not (nat_eq n 1) ≡ true → n ≢ 1
one_not n k e = true≢false (sym k ∙ ap (λ m. not (nat_eq m 1)) e)

pub tuple_is_type : (ts : List Ty) → length ts ≢ 1 → all_true (map is_type ts) ≡ true → IsType (ty.Tup ts)
tuple_is_type ts l k = is_type_tup ts ∙ ap₂ ◌&&◌ (not_one (length ts) l) k

pub components_are_types : (ts : List Ty) → IsType (ty.Tup ts) → (length ts ≢ 1) × (all_true (map is_type ts) ≡ true)
components_are_types ts k =
    let tests = both (not (nat_eq (length ts) 1)) (all_true (map is_type ts)) (sym (is_type_tup ts) ∙ k) in
    (one_not (length ts) tests.0, tests.1)

pub all_are_types : (t : Ty) (ts : List Ty) → all_true (map is_type (t ∷ ts)) ≡ true → IsType t × (all_true (map is_type ts) ≡ true)
all_are_types t ts k = both (is_type t) (all_true (map is_type ts)) k

pub each_is_type : (ts : List Ty) (i : ℕ) (a : Ty) → all_true (map is_type ts) ≡ true → slice_get ts i ≡ Some a → IsType a
each_is_type [] i a k p = absurd (is_none p)
  where
    IsThere : Option Ty → Type 0
    IsThere (Some t) = Unit {0}
    IsThere None = ⊥

    is_none : None ≡ Some a → ⊥
    is_none q = subst IsThere (sym q) tt
each_is_type (t ∷ ts) zero a k p = subst IsType (ap (λ o. unwrap_or o t) p) (all_are_types t ts k).0
each_is_type (t ∷ ts) (suc i) a k p = each_is_type ts i a (all_are_types t ts k).1 p

pub ruleset type_tests = (is_type_var, is_type_con, is_type_rec, is_type_tup, is_type_arrow)

-- whether it is over these names
module _ (names : List TypeName) where
  pub is_over_var : (v : VarId) → is_over names (ty.Var v) ≡ true
  unfolding is_over
  is_over_var v = ap (is_over names) (sym (rolls-Var v)) ∙ fold-roll-Ty _ _ (over_step names) over_field_step _

  pub is_over_con : (name : NameId) (ts : List Ty) → is_over names (ty.Con name ts) ≡ (takes (slice_get names name.0) (length ts) && all_true (map (is_over names) ts))
  unfolding is_over
  is_over_con name ts = ap (is_over names) (sym (rolls-Con name ts)) ∙ fold-roll-Ty _ _ (over_step names) over_field_step _ ∙ ap (λ n. takes (slice_get names name.0) n && all_true (map (is_over names) ts)) (length-map ts (is_over names))

  field_over : (field : Field) → fold-Field Bool Bool (over_step names) over_field_step field ≡ is_over names field.ty
  unfolding is_over
  field_over field = fold-roll-Field _ _ (over_step names) over_field_step (record { label = field.label; ty = field.ty })

  fields_over : (fields : List Field) → map (fold-Field Bool Bool (over_step names) over_field_step) fields ≡ map (λ field. is_over names field.ty) fields
  fields_over [] = refl
  fields_over (field ∷ fields) = ap₂ ◌∷◌ (field_over field) (fields_over fields)

  pub is_over_rec : (fields : List Field) → is_over names (ty.Rec fields) ≡ all_true (map (λ field. is_over names field.ty) fields)
  unfolding is_over
  is_over_rec fields = ap (is_over names) (sym (rolls-Rec fields)) ∙ fold-roll-Ty _ _ (over_step names) over_field_step _ ∙ ap all_true (fields_over fields)

  pub is_over_tup : (ts : List Ty) → is_over names (ty.Tup ts) ≡ all_true (map (is_over names) ts)
  unfolding is_over
  is_over_tup ts = ap (is_over names) (sym (rolls-Tup ts)) ∙ fold-roll-Ty _ _ (over_step names) over_field_step _

  pub is_over_arrow : (a b : Ty) → is_over names (ty.Arrow a b) ≡ (is_over names a && is_over names b)
  unfolding is_over
  is_over_arrow a b = ap (is_over names) (sym (rolls-Arrow a b)) ∙ fold-roll-Ty _ _ (over_step names) over_field_step _

pub ruleset over_tests = (is_over_var, is_over_con, is_over_rec, is_over_tup, is_over_arrow)

-- a type over these names
pub both_hold : (names : List TypeName) (t : Ty) → IsType t → IsOver names t → IsTypeOver names t
both_hold names t p q = record { is_type = p; over = q }

pub ruleset type_over = (both_hold)
