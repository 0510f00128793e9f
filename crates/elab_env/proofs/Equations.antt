-- The equations of replacing and of avoiding, and what they make of parts.
use Rattle.std.proofs.Common.{◌≡◌, ℕ, ◌==◌, ◌&&◌, Bool, true, not, if◌then◌else◌, List, [], ◌∷◌, map, refl, sym, ap, ap₂, ◌∙◌}
use Rattle.std.proofs.lemmas.Bool.{and_parts, and_from}
use Rattle.std.proofs.lemmas.List.{length-map}
use Rattle.type_core.specs.declared.ty.VarId.{VarId}
use Rattle.type_core.specs.declared.ty.NameId.{NameId}
use Rattle.type_core.specs.declared.ty.Ty.{Ty}
use Rattle.type_core.specs.declared.ty.Field.{Field}
use Rattle.type_core.specs.declared.ty.Ty.TheVariants as ty
use Rattle.type_core.specs.declared.ty.Ty.TheVariants.{rolls-Var, rolls-Con, rolls-Rec, rolls-Tup, rolls-Arrow}
use Rattle.type_core.specs.declared.ty.Ty.TheFolds.{fold-Field, fold-roll-Ty, fold-roll-Field}
use Rattle.type_core.specs.declared.names.TypeName.{TypeName}
use Rattle.type_core.specs.Labels.{are_record_labels}
use Rattle.type_core.specs.Lists.{all_true}
use Rattle.type_core.specs.Substitution.{each_variable, field_substituted, substituted}
use Rattle.type_core.specs.TypeFunctions.{applied}
use Rattle.type_core.specs.Types.{is_over, is_type}
use Rattle.type_core.proofs.Trees.{each_variable_con, each_variable_rec, each_variable_tup, each_variable_arrow, each_variable_field, substituted_rec, substituted_tup, substituted_arrow, substituted_field}
use Rattle.type_core.proofs.TypeTests.{is_over_con, is_over_rec, is_over_tup, is_over_arrow, is_type_con, is_type_rec, is_type_tup, is_type_arrow}
use Rattle.elab_env.specs.declared.realization.Realization.{Realization}
use Rattle.elab_env.specs.Avoids.{avoid_field_step, avoid_step, avoids}
use Rattle.elab_env.specs.Realizations.{field_replaced, replace_field_step, replace_step, replaced}
use Rattle.elab_env.proofs.Parts.{Collects, GoesInside, IsPartwise, at_type}

pub map_same : {A B : Type 0} (f g : A → B) → ((x : A) → f x ≡ g x) → (xs : List A) → map f xs ≡ map g xs
map_same f g e [] = refl
map_same f g e (x ∷ xs) = ap₂ ◌∷◌ (e x) (map_same f g e xs)

-- ---- replacing
module _ (r : Realization) where
  pub replaced_var : (v : VarId) → replaced r (ty.Var v) ≡ ty.Var v
  replaced_var v = ap (replaced r) (sym (rolls-Var v)) ∙ fold-roll-Ty _ _ (replace_step r) replace_field_step _

  pub replaced_con : (name : NameId) (ts : List Ty) → replaced r (ty.Con name ts) ≡ (if name.0 == r.name.0 then applied r.fun (map (replaced r) ts) else ty.Con name (map (replaced r) ts))
  replaced_con name ts = ap (replaced r) (sym (rolls-Con name ts)) ∙ fold-roll-Ty _ _ (replace_step r) replace_field_step _

  replaced_field : (field : Field) → field_replaced r field ≡ at_type (replaced r) field
  replaced_field field = fold-roll-Field _ _ (replace_step r) replace_field_step (record { label = field.label; ty = field.ty })

  pub replaced_inside : GoesInside (replaced r)
  replaced_inside = record {
    on_rec = λ fields. ap (replaced r) (sym (rolls-Rec fields)) ∙ fold-roll-Ty _ _ (replace_step r) replace_field_step _ ∙ ap ty.Rec (map_same (field_replaced r) (at_type (replaced r)) replaced_field fields);
    on_tup = λ ts. ap (replaced r) (sym (rolls-Tup ts)) ∙ fold-roll-Ty _ _ (replace_step r) replace_field_step _;
    on_arrow = λ a b. ap (replaced r) (sym (rolls-Arrow a b)) ∙ fold-roll-Ty _ _ (replace_step r) replace_field_step _;
  }

-- ---- substitution
pub substituted_inside : (by : List Ty) → GoesInside (substituted by)
substituted_inside by = record {
  on_rec = λ fields. substituted_rec by fields ∙ ap ty.Rec (map_same (field_substituted by) (at_type (substituted by)) (substituted_field by) fields);
  on_tup = substituted_tup by;
  on_arrow = substituted_arrow by;
}

-- ---- avoiding
module _ (n : ℕ) where
  pub avoids_var : (v : VarId) → avoids n (ty.Var v) ≡ true
  unfolding avoids
  avoids_var v = ap (avoids n) (sym (rolls-Var v)) ∙ fold-roll-Ty _ _ (avoid_step n) avoid_field_step _

  pub avoids_con : (name : NameId) (ts : List Ty) → avoids n (ty.Con name ts) ≡ (not (name.0 == n) && all_true (map (avoids n) ts))
  unfolding avoids
  avoids_con name ts = ap (avoids n) (sym (rolls-Con name ts)) ∙ fold-roll-Ty _ _ (avoid_step n) avoid_field_step _

  field_avoids : (field : Field) → fold-Field Bool Bool (avoid_step n) avoid_field_step field ≡ avoids n field.ty
  unfolding avoids
  field_avoids field = fold-roll-Field _ _ (avoid_step n) avoid_field_step (record { label = field.label; ty = field.ty })

  avoids_rec : (fields : List Field) → avoids n (ty.Rec fields) ≡ all_true (map (λ field. avoids n field.ty) fields)
  unfolding avoids
  avoids_rec fields = ap (avoids n) (sym (rolls-Rec fields)) ∙ fold-roll-Ty _ _ (avoid_step n) avoid_field_step _ ∙ ap all_true (map_same _ _ field_avoids fields)

  pub avoids_tup : (ts : List Ty) → avoids n (ty.Tup ts) ≡ all_true (map (avoids n) ts)
  unfolding avoids
  avoids_tup ts = ap (avoids n) (sym (rolls-Tup ts)) ∙ fold-roll-Ty _ _ (avoid_step n) avoid_field_step _

  avoids_arrow : (a b : Ty) → avoids n (ty.Arrow a b) ≡ (avoids n a && avoids n b)
  unfolding avoids
  avoids_arrow a b = ap (avoids n) (sym (rolls-Arrow a b)) ∙ fold-roll-Ty _ _ (avoid_step n) avoid_field_step _

-- ---- the parts of types that pass a test
second_true : (a b : Bool) → (a && b) ≡ true → b ≡ true
second_true a b e = (and_parts a b e).1

pub avoids_partwise : (n : ℕ) → IsPartwise (avoids n)
avoids_partwise n = record {
  on_con = λ name ts e. second_true (not (name.0 == n)) (all_true (map (avoids n) ts)) (sym (avoids_con n name ts) ∙ e);
  on_rec = λ fields e. sym (avoids_rec n fields) ∙ e;
  on_tup = λ ts e. sym (avoids_tup n ts) ∙ e;
  on_arrow = λ a b e. sym (avoids_arrow n a b) ∙ e;
}

pub over_partwise : (names : List TypeName) → IsPartwise (is_over names)
over_partwise names = record {
  on_con = λ name ts e. second_true _ (all_true (map (is_over names) ts)) (sym (is_over_con names name ts) ∙ e);
  on_rec = λ fields e. sym (is_over_rec names fields) ∙ e;
  on_tup = λ ts e. sym (is_over_tup names ts) ∙ e;
  on_arrow = λ a b e. sym (is_over_arrow names a b) ∙ e;
}

pub type_partwise : IsPartwise is_type
type_partwise = record {
  on_con = λ name ts e. sym (is_type_con name ts) ∙ e;
  on_rec = λ fields e. second_true _ (all_true (map (λ field. is_type field.ty) fields)) (sym (is_type_rec fields) ∙ e);
  on_tup = λ ts e. second_true _ (all_true (map is_type ts)) (sym (is_type_tup ts) ∙ e);
  on_arrow = λ a b e. sym (is_type_arrow a b) ∙ e;
}

pub variables_partwise : (is : VarId → Bool) → IsPartwise (each_variable is)
variables_partwise is = record {
  on_con = λ name ts e. sym (each_variable_con is name ts) ∙ e;
  on_rec = λ fields e. sym (each_variable_rec is fields ∙ ap all_true (map_same _ _ (each_variable_field is) fields)) ∙ e;
  on_tup = λ ts e. sym (each_variable_tup is ts) ∙ e;
  on_arrow = λ a b e. sym (each_variable_arrow is a b) ∙ e;
}

-- ---- the types whose parts pass a test
at_types : (test : Ty → Bool) (f : Ty → Ty) (fields : List Field) → map (λ (field : Field). test field.ty) (map (at_type f) fields) ≡ map (λ field. test (f field.ty)) fields
at_types test f [] = refl
at_types test f (field ∷ fields) = ap (λ rest. test (f field.ty) ∷ rest) (at_types test f fields)

at_labels : (f : Ty → Ty) (fields : List Field) → map (λ (field : Field). field.label) (map (at_type f) fields) ≡ map (λ field. field.label) fields
at_labels f [] = refl
at_labels f (field ∷ fields) = ap (λ rest. field.label ∷ rest) (at_labels f fields)

mapped : (test : Ty → Bool) (f : Ty → Ty) (ts : List Ty) → map test (map f ts) ≡ map (λ t. test (f t)) ts
mapped test f [] = refl
mapped test f (t ∷ ts) = ap (λ rest. test (f t) ∷ rest) (mapped test f ts)

module _ (f : Ty → Ty) (first : Ty → Bool) where
  pub avoids_collects : (n : ℕ) → Collects f first (avoids n)
  avoids_collects n = record {
    on_rec = λ fields p e. avoids_rec n _ ∙ ap all_true (at_types (avoids n) f fields) ∙ e;
    on_tup = λ ts p e. avoids_tup n _ ∙ ap all_true (mapped (avoids n) f ts) ∙ e;
    on_arrow = λ a b p q. avoids_arrow n _ _ ∙ and_from _ _ p q;
  }

  pub over_collects : (names : List TypeName) → Collects f first (is_over names)
  over_collects names = record {
    on_rec = λ fields p e. is_over_rec names _ ∙ ap all_true (at_types (is_over names) f fields) ∙ e;
    on_tup = λ ts p e. is_over_tup names _ ∙ ap all_true (mapped (is_over names) f ts) ∙ e;
    on_arrow = λ a b p q. is_over_arrow names _ _ ∙ and_from _ _ p q;
  }

  pub variables_collect : (is : VarId → Bool) → Collects f first (each_variable is)
  variables_collect is = record {
    on_rec = λ fields p e. each_variable_rec is _ ∙ ap all_true (map_same _ _ (each_variable_field is) _ ∙ at_types (each_variable is) f fields) ∙ e;
    on_tup = λ ts p e. each_variable_tup is _ ∙ ap all_true (mapped (each_variable is) f ts) ∙ e;
    on_arrow = λ a b p q. each_variable_arrow is _ _ ∙ and_from _ _ p q;
  }

-- the labels and the number of components stay
pub type_collects : (f : Ty → Ty) → Collects f is_type is_type
type_collects f = record {
  on_rec = λ fields p e. is_type_rec (map (at_type f) fields) ∙ and_from _ _ (ap are_record_labels (at_labels f fields) ∙ (and_parts _ (all_true (map (λ field. is_type field.ty) fields)) (sym (is_type_rec fields) ∙ p)).0) (ap all_true (at_types is_type f fields) ∙ e);
  on_tup = λ ts p e. is_type_tup (map f ts) ∙ and_from _ _ (ap (λ n. not (n == 1)) (length-map ts f) ∙ (and_parts _ (all_true (map is_type ts)) (sym (is_type_tup ts) ∙ p)).0) (ap all_true (mapped is_type f ts) ∙ e);
  on_arrow = λ a b p q. is_type_arrow _ _ ∙ and_from _ _ p q;
}
