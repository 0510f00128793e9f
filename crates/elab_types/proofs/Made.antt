-- The types that type expressions make: types over names, with labels as they are written and variables that may stand there.
use Rattle.std.proofs.Common.{◌≡◌, ◌≢◌, ℕ, zero, suc, Bool, true, false, true≢false, not, if◌then◌else◌, List, [], ◌∷◌, length, map, slice_get, refl, sym, ap, ap₂, ◌∙◌, subst, arith}
use Rattle.std.proofs.lemmas.Bool.{and_from}
use Rattle.std.proofs.lemmas.List.Elements.{All-append, All-cons, All-head, All-nil, All-tail, All-weaker}
use Rattle.std.specs.List.{All}
use Rattle.type_core.specs.declared.names.TypeName.{TypeName}
use Rattle.type_core.specs.declared.ty.Field.{Field}
use Rattle.type_core.specs.declared.ty.NameId.{NameId}
use Rattle.type_core.specs.declared.ty.Ty.{Ty}
use Rattle.type_core.specs.declared.ty.Ty.TheVariants as ty
use Rattle.type_core.specs.declared.ty.VarId.{VarId}
use Rattle.type_core.specs.declared.type_fn.TypeFn.{TypeFn}
use Rattle.type_core.specs.Labels.{are_in_order, are_record_labels, are_tuple_labels}
use Rattle.type_core.specs.Lists.{all_true, concatenated}
use Rattle.type_core.specs.Substitution.{VariablesBelow, each_field_variable, each_variable, field_substituted, or_variable, substituted}
use Rattle.type_core.specs.TypeFunctions.{applied}
use Rattle.type_core.specs.Types.{is_over, is_type, takes}
use Rattle.type_core.specs.ValidLibrary.{IsLabel}
use Rattle.type_core.specs.Weight.{labels_of}
use Rattle.type_core.proofs.Trees.{AtField, EachOf, induct_type, each_variable_var, each_variable_con, each_variable_rec, each_variable_tup, each_variable_arrow, each_variable_field, labels_arrow, labels_con, labels_rec, labels_tup, labels_var, substituted_arrow, substituted_con, substituted_field, substituted_rec, substituted_tup, substituted_var}
use Rattle.type_core.proofs.TypeTests.{arrow_is_type, is_over_arrow, is_over_con, is_over_rec, is_over_tup, is_over_var, is_type_con, is_type_rec, is_type_var, tuple_is_type}
use Rattle.elab_env.proofs.Replacing.{over_substituted, parameters_below, type_substituted, variables_substituted}
use Rattle.elab_types.specs.Soundness.{IsSoundFunction, IsSoundType}
use Rattle.elab_types.proofs.Lists.{all_parts}
use Rattle.type_core.specs.Arrows.{arrows, arrows_from}
use Rattle.elab_types.specs.Records.{record_of}
use Rattle.elab_types.proofs.Fields.{labels}

-- ---- tests
-- what is so of each type is told by a test
tests_pass : (P : Ty → Type 0) (test : Ty → Bool) → ((t : Ty) → P t → test t ≡ true) → (ts : List Ty) → All P ts → all_true (map test ts) ≡ true
tests_pass P test one [] h = refl
tests_pass P test one (t ∷ ts) h = and_from _ _ (one t (All-head P t ts h)) (tests_pass P test one ts (All-tail P t ts h))

-- ---- labels
abbrev pub AreLabels : Ty → Type 0
AreLabels t = All IsLabel (labels_of t)

all_labels : (ts : List Ty) → All AreLabels ts → All IsLabel (concatenated (map labels_of ts))
all_labels [] h = All-nil IsLabel
all_labels (t ∷ ts) h = All-append IsLabel (labels_of t) _ (All-head AreLabels t ts h) (all_labels ts (All-tail AreLabels t ts h))

-- a field whose label is one and whose type has such labels
pub record IsLabelled (field : Field) : Type 0 where
  pub label : IsLabel field.label
  pub labels : AreLabels field.ty

field_labels : (fields : List Field) → All IsLabelled fields → All IsLabel (concatenated (map (λ field. field.label ∷ labels_of field.ty) fields))
field_labels [] h = All-nil IsLabel
field_labels (field ∷ fields) h =
    let one = All-head IsLabelled field fields h in
    All-append IsLabel (field.label ∷ labels_of field.ty) _ (All-cons IsLabel field.label (labels_of field.ty) one.label one.labels) (field_labels fields (All-tail IsLabelled field fields h))

module _ (by : List Ty) (given : All AreLabels by) where
  given_at : (ts : List Ty) (v : VarId) (n : ℕ) → All AreLabels ts → AreLabels (or_variable v (slice_get ts n))
  given_at [] v n h = subst (All IsLabel) (sym (labels_var v)) (All-nil IsLabel)
  given_at (t ∷ ts) v zero h = All-head AreLabels t ts h
  given_at (t ∷ ts) v (suc n) h = given_at ts v n (All-tail AreLabels t ts h)

  abbrev StaysLabelled : Ty → Type 0
  StaysLabelled t = AreLabels t → AreLabels (substituted by t)

  parts_labelled : (ts : List Ty) → EachOf StaysLabelled ts → All IsLabel (concatenated (map labels_of ts)) → All IsLabel (concatenated (map labels_of (map (substituted by) ts)))
  parts_labelled [] ihs h = h
  parts_labelled (t ∷ ts) ihs h = let p = all_parts IsLabel (labels_of t) _ h in All-append IsLabel (labels_of (substituted by t)) _ (ihs.0 p.0) (parts_labelled ts ihs.1 p.1)

  abbrev labels_with : Field → List (List ℕ)
  labels_with field = field.label ∷ labels_of field.ty

  fields_labelled : (fields : List Field) → EachOf (AtField StaysLabelled) fields → All IsLabel (concatenated (map labels_with fields)) → All IsLabel (concatenated (map labels_with (map (field_substituted by) fields)))
  fields_labelled [] ihs h = h
  fields_labelled (field ∷ fields) ihs h =
      let p = all_parts IsLabel (labels_with field) (concatenated (map labels_with fields)) h in
      All-append IsLabel (labels_with (field_substituted by field)) _
      (subst (λ f. All IsLabel (labels_with f)) (sym (substituted_field by field))
      (All-cons IsLabel field.label _ (All-head IsLabel field.label (labels_of field.ty) p.0) (ihs.0 (All-tail IsLabel field.label (labels_of field.ty) p.0))))
      (fields_labelled fields ihs.1 p.1)

  labels_substituted : (t : Ty) → AreLabels t → AreLabels (substituted by t)
  labels_substituted = induct_type StaysLabelled
      (λ v h. subst AreLabels (sym (substituted_var by v)) (given_at by v v.n given))
      (λ name ts ihs h. subst AreLabels (sym (substituted_con by name ts)) (subst (All IsLabel) (sym (labels_con name _)) (parts_labelled ts ihs (subst (All IsLabel) (labels_con name ts) h))))
      (λ fields ihs h. subst AreLabels (sym (substituted_rec by fields)) (subst (All IsLabel) (sym (labels_rec _)) (fields_labelled fields ihs (subst (All IsLabel) (labels_rec fields) h))))
      (λ ts ihs h. subst AreLabels (sym (substituted_tup by ts)) (subst (All IsLabel) (sym (labels_tup _)) (parts_labelled ts ihs (subst (All IsLabel) (labels_tup ts) h))))
      (λ a b p q h. let parts = all_parts IsLabel (labels_of a) (labels_of b) (subst (All IsLabel) (labels_arrow a b) h) in
      subst AreLabels (sym (substituted_arrow by a b)) (subst (All IsLabel) (sym (labels_arrow _ _)) (All-append IsLabel _ _ (p parts.0) (q parts.1))))

-- ---- types
-- a type over the names, in which only variables stand that may
pub record IsMade (names : List TypeName) (is : VarId → Bool) (t : Ty) : Type 0 where
  pub sound : IsSoundType names t
  pub variables : each_variable is t ≡ true

-- a field with such a type, whose label is one
pub record IsMadeField (names : List TypeName) (is : VarId → Bool) (field : Field) : Type 0 where
  pub label : IsLabel field.label
  pub type : IsMade names is field.ty

pub sound_arrow : (names : List TypeName) (a b : Ty) → IsSoundType names a → IsSoundType names b → IsSoundType names (ty.Arrow a b)
sound_arrow names a b h k = record {
  over = record { is_type = arrow_is_type a b h.over.is_type k.over.is_type; over = is_over_arrow names a b ∙ and_from _ _ h.over.over k.over.over };
  labels = subst (All IsLabel) (sym (labels_arrow a b)) (All-append IsLabel (labels_of a) (labels_of b) h.labels k.labels);
}

module _ (names : List TypeName) (is : VarId → Bool) where
  all_types : (ts : List Ty) → All (IsMade names is) ts → all_true (map is_type ts) ≡ true
  all_types = tests_pass (IsMade names is) is_type (λ t h. h.sound.over.is_type)

  all_over : (ts : List Ty) → All (IsMade names is) ts → all_true (map (is_over names) ts) ≡ true
  all_over = tests_pass (IsMade names is) (is_over names) (λ t h. h.sound.over.over)

  all_variables : (ts : List Ty) → All (IsMade names is) ts → all_true (map (each_variable is) ts) ≡ true
  all_variables = tests_pass (IsMade names is) (each_variable is) (λ t h. h.variables)

  pub made_var : (v : VarId) → is v ≡ true → IsMade names is (ty.Var v)
  made_var v h = record {
    sound = record { over = record { is_type = is_type_var v; over = is_over_var names v }; labels = subst (All IsLabel) (sym (labels_var v)) (All-nil IsLabel) };
    variables = each_variable_var is v ∙ h;
  }

  labels_each : (ts : List Ty) → All (IsMade names is) ts → All AreLabels ts
  labels_each = All-weaker (IsMade names is) AreLabels (λ t h. h.sound.labels)

  pub made_con : (name : NameId) (ts : List Ty) → takes (slice_get names name.0) (length ts) ≡ true → All (IsMade names is) ts → IsMade names is (ty.Con name ts)
  made_con name ts known h = record {
    sound = record {
      over = record { is_type = is_type_con name ts ∙ all_types ts h; over = is_over_con names name ts ∙ and_from _ _ known (all_over ts h) };
      labels = subst (All IsLabel) (sym (labels_con name ts)) (all_labels ts (labels_each ts h));
    };
    variables = each_variable_con is name ts ∙ all_variables ts h;
  }

  pub made_tup : (ts : List Ty) → length ts ≢ 1 → All (IsMade names is) ts → IsMade names is (ty.Tup ts)
  made_tup ts count h = record {
    sound = record {
      over = record { is_type = tuple_is_type ts count (all_types ts h); over = is_over_tup names ts ∙ all_over ts h };
      labels = subst (All IsLabel) (sym (labels_tup ts)) (all_labels ts (labels_each ts h));
    };
    variables = each_variable_tup is ts ∙ all_variables ts h;
  }

  pub made_arrow : (a b : Ty) → IsMade names is a → IsMade names is b → IsMade names is (ty.Arrow a b)
  made_arrow a b h k = record { sound = sound_arrow names a b h.sound k.sound; variables = each_variable_arrow is a b ∙ and_from _ _ h.variables k.variables }

  fields_pass : (test : Ty → Bool) → ((t : Ty) → IsMade names is t → test t ≡ true) → (fields : List Field) → All (IsMadeField names is) fields → all_true (map (λ field. test field.ty) fields) ≡ true
  fields_pass test one [] h = refl
  fields_pass test one (field ∷ fields) h = and_from _ _ (one field.ty (All-head (IsMadeField names is) field fields h).type) (fields_pass test one fields (All-tail (IsMadeField names is) field fields h))

  each_field : (fields : List Field) → map (each_field_variable is) fields ≡ map (λ field. each_variable is field.ty) fields
  each_field [] = refl
  each_field (field ∷ fields) = ap₂ ◌∷◌ (each_variable_field is field) (each_field fields)

  pub made_rec : (fields : List Field) → are_record_labels (map (λ field. field.label) fields) ≡ true → All (IsMadeField names is) fields → IsMade names is (ty.Rec fields)
  made_rec fields labels h = record {
    sound = record {
      over = record { is_type = is_type_rec fields ∙ and_from _ _ labels (fields_pass is_type (λ t k. k.sound.over.is_type) fields h); over = is_over_rec names fields ∙ fields_pass (is_over names) (λ t k. k.sound.over.over) fields h };
      labels = subst (All IsLabel) (sym (labels_rec fields)) (field_labels fields (All-weaker (IsMadeField names is) IsLabelled (λ field k. record { label = k.label; labels = k.type.sound.labels }) fields h));
    };
    variables = each_variable_rec is fields ∙ ap all_true (each_field fields) ∙ fields_pass (each_variable is) (λ t k. k.variables) fields h;
  }

  pub made_applied : (f : TypeFn) (ts : List Ty) → IsSoundFunction names f → length ts ≡ f.arity → All (IsMade names is) ts → IsMade names is (applied f ts)
  made_applied f ts sound count h = record {
    sound = record {
      over = record { is_type = type_substituted ts (all_types ts h) f.body sound.body.over.is_type; over = over_substituted ts names (all_over ts h) f.body sound.body.over.over };
      labels = labels_substituted ts (labels_each ts h) f.body sound.body.labels;
    };
    variables = variables_substituted ts is (all_variables ts h) f.body (subst (λ n. VariablesBelow n f.body) (sym count) (parameters_below f sound.function));
  }

-- ---- the type of fields
module _ (names : List TypeName) (is : VarId → Bool) where
  components : (fields : List Field) → All (IsMadeField names is) fields → All (IsMade names is) (map (λ (field : Field). field.ty) fields)
  components [] h = All-nil _
  components (field ∷ fields) h = All-cons (IsMade names is) field.ty _ (All-head (IsMadeField names is) field fields h).type (components fields (All-tail (IsMadeField names is) field fields h))

  two_or_more : (fields : List Field) → are_tuple_labels (labels fields) ≡ true → length (map (λ (field : Field). field.ty) fields) ≢ 1
  two_or_more [] e l = true≢false (sym e)
  two_or_more (a ∷ []) e l = true≢false (sym e)
  two_or_more (a ∷ b ∷ fields) e l = absurd (omega (arith, l))

  pub record_made : (fields : List Field) → are_in_order (labels fields) ≡ true → All (IsMadeField names is) fields → IsMade names is (record_of fields)
  record_made [] order h = made_tup names is [] (λ e. absurd (omega (arith, e))) (All-nil _)
  record_made (field ∷ fields) order h = by_case (are_tuple_labels (labels (field ∷ fields))) refl
    where
      by_case : (tuple : Bool) → are_tuple_labels (labels (field ∷ fields)) ≡ tuple
          → IsMade names is (if tuple then ty.Tup (map (λ (f : Field). f.ty) (field ∷ fields)) else ty.Rec (field ∷ fields))
      by_case true e = made_tup names is (map (λ (f : Field). f.ty) (field ∷ fields)) (two_or_more (field ∷ fields) e) (components (field ∷ fields) h)
      by_case false e = made_rec names is (field ∷ fields) (and_from _ _ order (ap not e)) h

  -- ---- the type of a chain of arrows
  chain_made : (side : Ty) (sides : List Ty) → All (IsMade names is) (side ∷ sides) → IsMade names is (arrows_from side sides)
  chain_made side [] h = All-head (IsMade names is) side [] h
  chain_made side (next ∷ sides) h = made_arrow names is side (arrows_from next sides) (All-head (IsMade names is) side (next ∷ sides) h) (chain_made next sides (All-tail (IsMade names is) side (next ∷ sides) h))

  pub arrows_made : (sides : List Ty) → All (IsMade names is) sides → IsMade names is (arrows sides)
  arrows_made [] h = made_tup names is [] (λ e. absurd (omega (arith, e))) (All-nil _)
  arrows_made (side ∷ sides) h = chain_made side sides h
