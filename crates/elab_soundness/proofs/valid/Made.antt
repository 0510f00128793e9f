-- The types that are made of names that may stand there: of names, of fields, of parts, and by applying type functions.
use Rattle.std.proofs.Common.{◌≡◌, ◌≢◌, ℕ, zero, suc, ◌+◌, ◌≤◌, Bool, true, false, true≢false, not, if◌then◌else◌, List, [], ◌∷◌, ◌++◌, length, map, slice_get, refl, sym, ap, ap₂, ◌∙◌, subst, arith}
use Rattle.std.proofs.lemmas.Bool.{and_from}
use Rattle.std.proofs.lemmas.List.Elements.{All-append, All-cons, All-head, All-nil, All-tail, All-weaker}
use Rattle.std.specs.List.{All}
use Rattle.type_core.specs.declared.ty.Field.{Field}
use Rattle.type_core.specs.declared.ty.NameId.{NameId}
use Rattle.type_core.specs.declared.ty.Ty.{Ty}
use Rattle.type_core.specs.declared.ty.Ty.TheVariants as ty
use Rattle.type_core.specs.declared.ty.VarId.{VarId}
use Rattle.type_core.specs.declared.type_fn.TypeFn.{TypeFn}
use Rattle.type_core.specs.Height.{height_of}
use Rattle.type_core.specs.Labels.{are_in_order, are_record_labels, are_tuple_labels}
use Rattle.type_core.specs.Lists.{all_true, concatenated, greatest_of, sum_of}
use Rattle.type_core.specs.Size.{size_of}
use Rattle.type_core.specs.Substitution.{VariablesBelow, each_field_variable, each_variable, field_substituted, or_variable, substituted}
use Rattle.type_core.specs.TypeFunctions.{applied}
use Rattle.type_core.specs.Types.{is_type}
use Rattle.type_core.specs.ValidLibrary.{IsLabel}
use Rattle.type_core.specs.Weight.{labels_of}
use Rattle.type_core.proofs.Trees.{AtField, EachOf, induct_type, each_variable_var, each_variable_con, each_variable_rec, each_variable_tup, each_variable_arrow, each_variable_field, height_con, height_var, labels_arrow, labels_con, labels_rec, labels_tup, labels_var, size_con, size_var, substituted_arrow, substituted_con, substituted_field, substituted_rec, substituted_tup, substituted_var}
use Rattle.type_core.proofs.TypeTests.{arrow_is_type, is_type_con, is_type_rec, is_type_var, tuple_is_type}
use Rattle.elab_env.specs.declared.realization.Realization.{Realization}
use Rattle.elab_env.specs.Parameters.{name_function, parameters, parameters_from}
use Rattle.elab_env.specs.Realizations.{replaced}
use Rattle.elab_env.proofs.Equations.{replaced_inside, replaced_var}
use Rattle.elab_env.proofs.Joined.{name_is_function}
use Rattle.elab_env.proofs.ParameterLists.{length-parameters_from}
use Rattle.elab_env.proofs.Parts.{at_type}
use Rattle.elab_env.proofs.Replacing.{by_cases, parameters_below, type_substituted, variables_substituted}
use Rattle.elab_soundness.specs.Soundness.{IsFormedFunction, IsSoundFunction, IsSoundType, Known, names_known}
use Rattle.elab_soundness.proofs.valid.KnownNames.{names_arrow, names_con, names_rec, names_substituted, names_tup, names_var}
use Rattle.elab_types.specs.Records.{record_of}
use Rattle.elab_types.proofs.Fields.{labels}
use Rattle.elab_types.proofs.Lists.{all_parts}

-- ---- tests
-- what is so of each type is told by a test
tests_pass : (P : Ty → Type 0) (test : Ty → Bool) → ((t : Ty) → P t → test t ≡ true) → (ts : List Ty) → All P ts → all_true (map test ts) ≡ true
tests_pass P test one [] h = refl
tests_pass P test one (t ∷ ts) h = and_from _ _ (one t (All-head P t ts h)) (tests_pass P test one ts (All-tail P t ts h))

-- ---- labels
abbrev pub AreLabels : Ty → Type 0
AreLabels t = All IsLabel (labels_of t)

all_labels : (ts : List Ty) → All AreLabels ts → All IsLabel (concatenated (map labels_of ts))
all_labels [] h = All-nil IsLabel
all_labels (t ∷ ts) h = All-append IsLabel (labels_of t) _ (All-head AreLabels t ts h) (all_labels ts (All-tail AreLabels t ts h))

-- a field whose label is one and whose type has such labels
pub record IsLabelled (field : Field) : Type 0 where
  pub label : IsLabel field.label
  pub labels : AreLabels field.ty

field_labels : (fields : List Field) → All IsLabelled fields → All IsLabel (concatenated (map (λ field. field.label ∷ labels_of field.ty) fields))
field_labels [] h = All-nil IsLabel
field_labels (field ∷ fields) h =
    let one = All-head IsLabelled field fields h in
    All-append IsLabel (field.label ∷ labels_of field.ty) _ (All-cons IsLabel field.label (labels_of field.ty) one.label one.labels) (field_labels fields (All-tail IsLabelled field fields h))

abbrev labels_with : Field → List (List ℕ)
labels_with field = field.label ∷ labels_of field.ty

module _ (by : List Ty) (given : All AreLabels by) where
  given_at : (ts : List Ty) (v : VarId) (n : ℕ) → All AreLabels ts → AreLabels (or_variable v (slice_get ts n))
  given_at [] v n h = subst (All IsLabel) (sym (labels_var v)) (All-nil IsLabel)
  given_at (t ∷ ts) v zero h = All-head AreLabels t ts h
  given_at (t ∷ ts) v (suc n) h = given_at ts v n (All-tail AreLabels t ts h)

  abbrev StaysLabelled : Ty → Type 0
  StaysLabelled t = AreLabels t → AreLabels (substituted by t)

  parts_labelled : (ts : List Ty) → EachOf StaysLabelled ts → All IsLabel (concatenated (map labels_of ts)) → All IsLabel (concatenated (map labels_of (map (substituted by) ts)))
  parts_labelled [] ihs h = h
  parts_labelled (t ∷ ts) ihs h = let p = all_parts IsLabel (labels_of t) _ h in All-append IsLabel (labels_of (substituted by t)) _ (ihs.0 p.0) (parts_labelled ts ihs.1 p.1)

  fields_labelled : (fields : List Field) → EachOf (AtField StaysLabelled) fields → All IsLabel (concatenated (map labels_with fields)) → All IsLabel (concatenated (map labels_with (map (field_substituted by) fields)))
  fields_labelled [] ihs h = h
  fields_labelled (field ∷ fields) ihs h =
      let p = all_parts IsLabel (labels_with field) (concatenated (map labels_with fields)) h in
      All-append IsLabel (labels_with (field_substituted by field)) _
      (subst (λ f. All IsLabel (labels_with f)) (sym (substituted_field by field))
      (All-cons IsLabel field.label _ (All-head IsLabel field.label (labels_of field.ty) p.0) (ihs.0 (All-tail IsLabel field.label (labels_of field.ty) p.0))))
      (fields_labelled fields ihs.1 p.1)

  pub labels_substituted : (t : Ty) → AreLabels t → AreLabels (substituted by t)
  labels_substituted = induct_type StaysLabelled
      (λ v h. subst AreLabels (sym (substituted_var by v)) (given_at by v v.n given))
      (λ name ts ihs h. subst AreLabels (sym (substituted_con by name ts)) (subst (All IsLabel) (sym (labels_con name _)) (parts_labelled ts ihs (subst (All IsLabel) (labels_con name ts) h))))
      (λ fields ihs h. subst AreLabels (sym (substituted_rec by fields)) (subst (All IsLabel) (sym (labels_rec _)) (fields_labelled fields ihs (subst (All IsLabel) (labels_rec fields) h))))
      (λ ts ihs h. subst AreLabels (sym (substituted_tup by ts)) (subst (All IsLabel) (sym (labels_tup _)) (parts_labelled ts ihs (subst (All IsLabel) (labels_tup ts) h))))
      (λ a b p q h. let parts = all_parts IsLabel (labels_of a) (labels_of b) (subst (All IsLabel) (labels_arrow a b) h) in
      subst AreLabels (sym (substituted_arrow by a b)) (subst (All IsLabel) (sym (labels_arrow _ _)) (All-append IsLabel _ _ (p parts.0) (q parts.1))))

-- ---- labels after a name was replaced
module _ (r : Realization) (body : AreLabels r.fun.body) where
  abbrev StayReplaced : Ty → Type 0
  StayReplaced t = AreLabels t → AreLabels (replaced r t)

  parts_replaced : (ts : List Ty) → EachOf StayReplaced ts → All IsLabel (concatenated (map labels_of ts)) → All AreLabels (map (replaced r) ts)
  parts_replaced [] ihs h = All-nil AreLabels
  parts_replaced (t ∷ ts) ihs h = let p = all_parts IsLabel (labels_of t) _ h in All-cons AreLabels (replaced r t) _ (ihs.0 p.0) (parts_replaced ts ihs.1 p.1)

  fields_replaced : (fields : List Field) → EachOf (AtField StayReplaced) fields → All IsLabel (concatenated (map labels_with fields)) → All IsLabelled (map (at_type (replaced r)) fields)
  fields_replaced [] ihs h = All-nil IsLabelled
  fields_replaced (field ∷ fields) ihs h =
      let p = all_parts IsLabel (labels_with field) (concatenated (map labels_with fields)) h in
      All-cons IsLabelled (at_type (replaced r) field) _
      (record { label = All-head IsLabel field.label (labels_of field.ty) p.0; labels = ihs.0 (All-tail IsLabel field.label (labels_of field.ty) p.0) })
      (fields_replaced fields ihs.1 p.1)

  pub labels_replaced : (t : Ty) → AreLabels t → AreLabels (replaced r t)
  labels_replaced = induct_type StayReplaced
      (λ v h. subst AreLabels (sym (replaced_var r v)) h)
      (λ name ts ihs h. let parts = parts_replaced ts ihs (subst (All IsLabel) (labels_con name ts) h) in by_cases r AreLabels name ts
      (λ same. labels_substituted (map (replaced r) ts) parts r.fun.body body)
      (λ other. subst (All IsLabel) (sym (labels_con name _)) (all_labels _ parts)))
      (λ fields ihs h. subst AreLabels (sym ((replaced_inside r).on_rec fields)) (subst (All IsLabel) (sym (labels_rec _)) (field_labels _ (fields_replaced fields ihs (subst (All IsLabel) (labels_rec fields) h)))))
      (λ ts ihs h. subst AreLabels (sym ((replaced_inside r).on_tup ts)) (subst (All IsLabel) (sym (labels_tup _)) (all_labels _ (parts_replaced ts ihs (subst (All IsLabel) (labels_tup ts) h)))))
      (λ a b p q h. let parts = all_parts IsLabel (labels_of a) (labels_of b) (subst (All IsLabel) (labels_arrow a b) h) in
      subst AreLabels (sym ((replaced_inside r).on_arrow a b)) (subst (All IsLabel) (sym (labels_arrow _ _)) (All-append IsLabel _ _ (p parts.0) (q parts.1))))

-- ---- types
-- a type in which these names stand, and only variables that may
pub record IsMade (known : Known) (is : VarId → Bool) (t : Ty) : Type 0 where
  pub sound : IsSoundType known t
  pub variables : each_variable is t ≡ true

-- a field with such a type, whose label is one
pub record IsMadeField (known : Known) (is : VarId → Bool) (field : Field) : Type 0 where
  pub label : IsLabel field.label
  pub type : IsMade known is field.ty

pub sound_arrow : (known : Known) (a b : Ty) → IsSoundType known a → IsSoundType known b → IsSoundType known (ty.Arrow a b)
sound_arrow known a b h k = record {
  is_type = arrow_is_type a b h.is_type k.is_type;
  names = names_arrow known a b ∙ and_from _ _ h.names k.names;
  labels = subst (All IsLabel) (sym (labels_arrow a b)) (All-append IsLabel (labels_of a) (labels_of b) h.labels k.labels);
}

module _ (known : Known) (is : VarId → Bool) where
  all_types : (ts : List Ty) → All (IsMade known is) ts → all_true (map is_type ts) ≡ true
  all_types = tests_pass (IsMade known is) is_type (λ t h. h.sound.is_type)

  all_known : (ts : List Ty) → All (IsMade known is) ts → all_true (map (names_known known) ts) ≡ true
  all_known = tests_pass (IsMade known is) (names_known known) (λ t h. h.sound.names)

  all_variables : (ts : List Ty) → All (IsMade known is) ts → all_true (map (each_variable is) ts) ≡ true
  all_variables = tests_pass (IsMade known is) (each_variable is) (λ t h. h.variables)

  pub made_var : (v : VarId) → is v ≡ true → IsMade known is (ty.Var v)
  made_var v h = record {
    sound = record { is_type = is_type_var v; names = names_var known v; labels = subst (All IsLabel) (sym (labels_var v)) (All-nil IsLabel) };
    variables = each_variable_var is v ∙ h;
  }

  labels_each : (ts : List Ty) → All (IsMade known is) ts → All AreLabels ts
  labels_each = All-weaker (IsMade known is) AreLabels (λ t h. h.sound.labels)

  pub made_con : (name : NameId) (ts : List Ty) → known name.0 (length ts) ≡ true → All (IsMade known is) ts → IsMade known is (ty.Con name ts)
  made_con name ts may h = record {
    sound = record {
      is_type = is_type_con name ts ∙ all_types ts h;
      names = names_con known name ts ∙ and_from _ _ may (all_known ts h);
      labels = subst (All IsLabel) (sym (labels_con name ts)) (all_labels ts (labels_each ts h));
    };
    variables = each_variable_con is name ts ∙ all_variables ts h;
  }

  pub made_tup : (ts : List Ty) → length ts ≢ 1 → All (IsMade known is) ts → IsMade known is (ty.Tup ts)
  made_tup ts count h = record {
    sound = record {
      is_type = tuple_is_type ts count (all_types ts h);
      names = names_tup known ts ∙ all_known ts h;
      labels = subst (All IsLabel) (sym (labels_tup ts)) (all_labels ts (labels_each ts h));
    };
    variables = each_variable_tup is ts ∙ all_variables ts h;
  }

  pub made_arrow : (a b : Ty) → IsMade known is a → IsMade known is b → IsMade known is (ty.Arrow a b)
  made_arrow a b h k = record { sound = sound_arrow known a b h.sound k.sound; variables = each_variable_arrow is a b ∙ and_from _ _ h.variables k.variables }

  fields_pass : (test : Ty → Bool) → ((t : Ty) → IsMade known is t → test t ≡ true) → (fields : List Field) → All (IsMadeField known is) fields → all_true (map (λ field. test field.ty) fields) ≡ true
  fields_pass test one [] h = refl
  fields_pass test one (field ∷ fields) h = and_from _ _ (one field.ty (All-head (IsMadeField known is) field fields h).type) (fields_pass test one fields (All-tail (IsMadeField known is) field fields h))

  each_field : (fields : List Field) → map (each_field_variable is) fields ≡ map (λ field. each_variable is field.ty) fields
  each_field [] = refl
  each_field (field ∷ fields) = ap₂ ◌∷◌ (each_variable_field is field) (each_field fields)

  pub made_rec : (fields : List Field) → are_record_labels (map (λ field. field.label) fields) ≡ true → All (IsMadeField known is) fields → IsMade known is (ty.Rec fields)
  made_rec fields labels h = record {
    sound = record {
      is_type = is_type_rec fields ∙ and_from _ _ labels (fields_pass is_type (λ t k. k.sound.is_type) fields h);
      names = names_rec known fields ∙ fields_pass (names_known known) (λ t k. k.sound.names) fields h;
      labels = subst (All IsLabel) (sym (labels_rec fields)) (field_labels fields (All-weaker (IsMadeField known is) IsLabelled (λ field k. record { label = k.label; labels = k.type.sound.labels }) fields h));
    };
    variables = each_variable_rec is fields ∙ ap all_true (each_field fields) ∙ fields_pass (each_variable is) (λ t k. k.variables) fields h;
  }

  pub made_applied : (f : TypeFn) (ts : List Ty) → IsFormedFunction known f → length ts ≡ f.arity → All (IsMade known is) ts → IsMade known is (applied f ts)
  made_applied f ts sound count h = record {
    sound = record {
      is_type = type_substituted ts (all_types ts h) f.body sound.body.is_type;
      names = names_substituted known ts (all_known ts h) f.body sound.body.names;
      labels = labels_substituted ts (labels_each ts h) f.body sound.body.labels;
    };
    variables = variables_substituted ts is (all_variables ts h) f.body (subst (λ n. VariablesBelow n f.body) (sym count) (parameters_below f sound.function));
  }

-- ---- the type of fields
module _ (known : Known) (is : VarId → Bool) where
  components : (fields : List Field) → All (IsMadeField known is) fields → All (IsMade known is) (map (λ (field : Field). field.ty) fields)
  components [] h = All-nil _
  components (field ∷ fields) h = All-cons (IsMade known is) field.ty _ (All-head (IsMadeField known is) field fields h).type (components fields (All-tail (IsMadeField known is) field fields h))

  two_or_more : (fields : List Field) → are_tuple_labels (labels fields) ≡ true → length (map (λ (field : Field). field.ty) fields) ≢ 1
  two_or_more [] e l = true≢false (sym e)
  two_or_more (a ∷ []) e l = true≢false (sym e)
  two_or_more (a ∷ b ∷ fields) e l = absurd (omega (arith, l))

  pub record_made : (fields : List Field) → are_in_order (labels fields) ≡ true → All (IsMadeField known is) fields → IsMade known is (record_of fields)
  record_made [] order h = made_tup known is [] (λ e. absurd (omega (arith, e))) (All-nil _)
  record_made (field ∷ fields) order h = by_case (are_tuple_labels (labels (field ∷ fields))) refl
    where
      by_case : (tuple : Bool) → are_tuple_labels (labels (field ∷ fields)) ≡ tuple
          → IsMade known is (if tuple then ty.Tup (map (λ (f : Field). f.ty) (field ∷ fields)) else ty.Rec (field ∷ fields))
      by_case true e = made_tup known is (map (λ (f : Field). f.ty) (field ∷ fields)) (two_or_more (field ∷ fields) e) (components (field ∷ fields) h)
      by_case false e = made_rec known is (field ∷ fields) (and_from _ _ order (ap not e)) h

-- ---- the type function that is a name
no_labels : (first count : ℕ) → concatenated (map labels_of (parameters_from first count)) ≡ []
no_labels first zero = refl
no_labels first (suc count) = ap (λ labels. labels ++ concatenated (map labels_of (parameters_from (first + 1) count))) (labels_var _) ∙ no_labels (first + 1) count

sizes_of : (first count : ℕ) → sum_of (map size_of (parameters_from first count)) ≡ count
sizes_of first zero = refl
sizes_of first (suc count) = ap₂ ◌+◌ (size_var _) (sizes_of (first + 1) count) ∙ (let e : 1 + count ≡ suc count = omega arith in e)

heights_of : (first count : ℕ) → greatest_of (map height_of (parameters_from first count)) ≤ 1
heights_of first zero = omega arith
heights_of first (suc count) = omega (arith, height_var (record { n = first; eq = false }), heights_of (first + 1) count)

parameters_pass : (test : Ty → Bool) → ((v : VarId) → test (ty.Var v) ≡ true) → (first count : ℕ) → all_true (map test (parameters_from first count)) ≡ true
parameters_pass test one first zero = refl
parameters_pass test one first (suc count) = and_from _ _ (one _) (parameters_pass test one (first + 1) count)

pub name_sound : (known : Known) (n arity : ℕ) → known n arity ≡ true → arity ≤ 1999 → IsSoundFunction known (name_function n arity)
name_sound known n arity may few = record {
  formed = record {
    arity = few;
    function = name_is_function n arity (name_function n arity) refl;
    body = record {
      is_type = is_type_con _ (parameters arity) ∙ parameters_pass is_type is_type_var 0 arity;
      names = names_con known _ (parameters arity) ∙ and_from _ _ (ap (known n) (length-parameters_from 0 arity) ∙ may) (parameters_pass (names_known known) (names_var known) 0 arity);
      labels = subst (All IsLabel) (sym (labels_con _ (parameters arity) ∙ no_labels 0 arity)) (All-nil IsLabel);
    };
  };
  limits = record {
    nodes = omega (arith, size_con (record { 0 = n }) (parameters arity), sizes_of 0 arity, few);
    height = omega (arith, height_con (record { 0 = n }) (parameters arity), heights_of 0 arity);
  };
}
