-- To be a type and to be over some variables are properties that parts share with the whole.
use Rattle.std.proofs.Common.{Bool, IsTrue, List, [], ◌∷◌, map, refl, sym, ◌∙◌}
use Rattle.type_core.specs.declared.ty.VarId.{VarId}
use Rattle.type_core.specs.declared.ty.Ty.{Ty}
use Rattle.type_core.specs.declared.ty.Field.{Field}
use Rattle.type_core.specs.Lists.{all_true}
use Rattle.type_core.specs.Labels.{are_record_labels}
use Rattle.type_core.specs.Substitution.{each_field_variable, each_variable}
use Rattle.type_core.specs.Types.{IsType, is_type}
use Rattle.type_core.proofs.Trees.{AtField, EachOf, each_variable_con, each_variable_rec, each_variable_tup, each_variable_arrow, each_variable_field}
use Rattle.type_core.proofs.TypeTests.{is_type_con, is_type_rec}
use Rattle.iso_axioms.proofs.Types.{and_both, arrow_type, arrow_types, both, tuple_of, tuple_types, unit_type}
use Rattle.iso_normal.specs.Factors.{product}
use Rattle.linear_match.proofs.Passed.{IsHereditary}

-- a test that all pass
pub each_passes : {A : Type 0} (test : A → Bool) (xs : List A) → IsTrue (all_true (map test xs))
    → EachOf (λ x. IsTrue (test x)) xs
each_passes test [] p = tt
each_passes test (x ∷ xs) p = let r = both (test x) _ p in (r.0, each_passes test xs r.1)

pub all_pass : {A : Type 0} (test : A → Bool) (xs : List A) → EachOf (λ x. IsTrue (test x)) xs
    → IsTrue (all_true (map test xs))
all_pass test [] p = refl
all_pass test (x ∷ xs) p = and_both _ _ p.0 (all_pass test xs p.1)

-- to be a type
product_type : (ts : List Ty) → EachOf IsType ts → IsType (product ts)
product_type [] p = unit_type
product_type (t ∷ []) p = p.0
product_type (t ∷ u ∷ ts) p = tuple_of t u ts (all_pass is_type (t ∷ u ∷ ts) p)

pub types_hereditary : IsHereditary IsType
types_hereditary = record {
  con = λ name ts p. each_passes is_type ts (sym (is_type_con name ts) ∙ p);
  rec =
      λ fields p. each_passes (λ (field : Field). is_type field.ty) fields
      (both (are_record_labels (map (λ field. field.label) fields)) _ (sym (is_type_rec fields) ∙ p)).1;
  tup = λ ts p. each_passes is_type ts (tuple_types ts p).1;
  sides = arrow_types;
  arrow = arrow_type;
  to_product = product_type;
}

-- to have a property of each variable
module _ (is : VarId → Bool) where
  abbrev pub EachVariable : Ty → Type 0
  EachVariable t = IsTrue (each_variable is t)

  field_variables_are : (fields : List Field) → EachOf (λ field. IsTrue (each_field_variable is field)) fields
      → EachOf (AtField EachVariable) fields
  field_variables_are [] p = tt
  field_variables_are (field ∷ fields) p = (sym (each_variable_field is field) ∙ p.0, field_variables_are fields p.1)

  product_variables : (ts : List Ty) → EachOf EachVariable ts → EachVariable (product ts)
  product_variables [] p = each_variable_tup is []
  product_variables (t ∷ []) p = p.0
  product_variables (t ∷ u ∷ ts) p = each_variable_tup is (t ∷ u ∷ ts) ∙ all_pass (each_variable is) (t ∷ u ∷ ts) p

  pub variables_hereditary : IsHereditary EachVariable
  variables_hereditary = record {
    con = λ name ts p. each_passes (each_variable is) ts (sym (each_variable_con is name ts) ∙ p);
    rec =
        λ fields p. field_variables_are fields
        (each_passes (each_field_variable is) fields (sym (each_variable_rec is fields) ∙ p));
    tup = λ ts p. each_passes (each_variable is) ts (sym (each_variable_tup is ts) ∙ p);
    sides = λ a b p. both (each_variable is a) (each_variable is b) (sym (each_variable_arrow is a b) ∙ p);
    arrow = λ a b p q. each_variable_arrow is a b ∙ and_both _ _ p q;
    to_product = product_variables;
  }
