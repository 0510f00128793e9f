-- What is so of each variable of a type is so of each in the list of its variables, and the other way round.
use Rattle.std.proofs.Common.{◌≡◌, ◌&&◌, Bool, true, false, List, [], ◌∷◌, ◌++◌, map, refl, sym, ap, ap₂, ◌∙◌}
use Rattle.type_core.specs.declared.ty.VarId.{VarId}
use Rattle.type_core.specs.declared.ty.Ty.{Ty}
use Rattle.type_core.specs.declared.ty.Field.{Field}
use Rattle.type_core.specs.Lists.{all_true, concatenated}
use Rattle.type_core.specs.Substitution.{each_field_variable, each_variable}
use Rattle.type_core.specs.Variables.{field_variables, variables}
use Rattle.type_core.proofs.Trees.{AtField, EachOf, induct_type, each_variable_var, each_variable_con, each_variable_rec, each_variable_tup, each_variable_arrow, each_variable_field, variables_var, variables_con, variables_rec, variables_tup, variables_arrow, variables_field}

and_true : (b : Bool) → b ≡ (b && true)
and_true true = refl
and_true false = refl

and_assoc : (a b c : Bool) → (a && (b && c)) ≡ ((a && b) && c)
and_assoc true b c = refl
and_assoc false b c = refl

module _ (is : VarId → Bool) where
  all_appended : (vs ws : List VarId) → all_true (map is (vs ++ ws)) ≡ (all_true (map is vs) && all_true (map is ws))
  all_appended [] ws = refl
  all_appended (v ∷ vs) ws = ap (λ z. is v && z) (all_appended vs ws) ∙ and_assoc (is v) (all_true (map is vs)) (all_true (map is ws))

  abbrev IsListed : Ty → Type 0
  IsListed t = each_variable is t ≡ all_true (map is (variables t))

  all_listed : (ts : List Ty) → EachOf IsListed ts → all_true (map (each_variable is) ts) ≡ all_true (map is (concatenated (map variables ts)))
  all_listed [] ihs = refl
  all_listed (t ∷ ts) ihs = ap₂ ◌&&◌ ihs.0 (all_listed ts ihs.1) ∙ sym (all_appended (variables t) (concatenated (map variables ts)))

  field_listed : (field : Field) → IsListed field.ty → each_field_variable is field ≡ all_true (map is (field_variables field))
  field_listed field ih = each_variable_field is field ∙ ih ∙ sym (ap (λ vs. all_true (map is vs)) (variables_field field))

  fields_listed : (fields : List Field) → EachOf (AtField IsListed) fields → all_true (map (each_field_variable is) fields) ≡ all_true (map is (concatenated (map field_variables fields)))
  fields_listed [] ihs = refl
  fields_listed (field ∷ fields) ihs = ap₂ ◌&&◌ (field_listed field ihs.0) (fields_listed fields ihs.1) ∙ sym (all_appended (field_variables field) (concatenated (map field_variables fields)))

  pub each_variable_is_listed : (t : Ty) → each_variable is t ≡ all_true (map is (variables t))
  each_variable_is_listed = induct_type IsListed
      (λ v. each_variable_var is v ∙ and_true (is v) ∙ sym (ap (λ vs. all_true (map is vs)) (variables_var v)))
      (λ name ts ihs. each_variable_con is name ts ∙ all_listed ts ihs ∙ sym (ap (λ vs. all_true (map is vs)) (variables_con name ts)))
      (λ fields ihs. each_variable_rec is fields ∙ fields_listed fields ihs ∙ sym (ap (λ vs. all_true (map is vs)) (variables_rec fields)))
      (λ ts ihs. each_variable_tup is ts ∙ all_listed ts ihs ∙ sym (ap (λ vs. all_true (map is vs)) (variables_tup ts)))
      (λ a b p q. each_variable_arrow is a b ∙ ap₂ ◌&&◌ p q ∙ sym (all_appended (variables a) (variables b)) ∙ sym (ap (λ vs. all_true (map is vs)) (variables_arrow a b)))
