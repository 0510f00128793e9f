-- Induction on types, and the equations of what is defined by their levels.
use Rattle.std.proofs.Common.{◌≡◌, ◌+◌, ◌*◌, ◌&&◌, Bool, false, List, [], ◌∷◌, ◌++◌, map, max, slice_get, refl, sym, ap, ap₂, ◌∙◌, subst}
use Rattle.type_core.specs.declared.ty.VarId.{VarId}
use Rattle.type_core.specs.declared.ty.NameId.{NameId}
use Rattle.type_core.specs.declared.ty.Ty.{Ty}
use Rattle.type_core.specs.declared.ty.Field.{Field}
use Rattle.type_core.specs.declared.ty.Ty.TheVariants as ty
use Rattle.type_core.specs.declared.ty.Ty.TheVariants.{rolls-Var, rolls-Con, rolls-Rec, rolls-Tup, rolls-Arrow}
use Rattle.type_core.specs.declared.ty.Ty.TheOpen.{Ty-F, Var, Con, Rec, Tup, Arrow}
use Rattle.type_core.specs.declared.ty.Ty.TheViews.{roll-Ty, roll-Field}
use Rattle.type_core.specs.declared.ty.Ty.TheFolds.{map-Ty, fold-Field, fold-roll-Ty, fold-roll-Field, para-roll-Ty, ind-Ty}
use Rattle.type_core.specs.declared.names.TypeName.{TypeName}
use Rattle.type_core.specs.AdmitsEquality.{admits_equality, admits_field_step, admits_step, attribute_of, by_attribute, field_admits_equality}
use Rattle.type_core.specs.Coordinates.{atom, coordinates, coordinates_step, coordinate_count, taking}
use Rattle.type_core.specs.Height.{height_of, field_height, height_step, height_field_step}
use Rattle.type_core.specs.Lists.{all_true, concatenated, greatest_of, sum_of}
use Rattle.type_core.specs.NormalSize.{normal_size_of, normal_size_step}
use Rattle.type_core.specs.Renaming.{Renaming, renamed, field_renamed, rename_step, rename_field_step}
use Rattle.type_core.specs.Size.{size_of, field_size, size_step, size_field_step}
use Rattle.type_core.specs.Substitution.{each_field_variable, each_variable, field_substituted, or_variable, substitute_field_step, substitute_step, substituted, each_field_step, each_step}
use Rattle.type_core.specs.Weight.{labels_field_step, labels_of, labels_step}
use Rattle.type_core.specs.Variables.{variables, field_variables, variables_step}

-- P holds of each
abbrev pub EachOf : {A : Type 0} → (A → Type 0) → List A → Type 0
EachOf P [] = Unit {0}
EachOf P (x ∷ xs) = P x × EachOf P xs

each_of : {A : Type 0} (P : A → Type 0) (es : List ((x : A) × P x)) → EachOf P (map (λ e. e.0) es)
each_of P [] = tt
each_of P (e ∷ es) = (e.1, each_of P es)

-- a predicate of types, at a field
abbrev pub AtField : (Ty → Type 0) → Field → Type 0
AtField P field = P field.ty

pub induct_type : (P : Ty → Type 0)
    → ((v : VarId) → P (ty.Var v))
    → ((name : NameId) (ts : List Ty) → EachOf P ts → P (ty.Con name ts))
    → ((fields : List Field) → EachOf (AtField P) fields → P (ty.Rec fields))
    → ((ts : List Ty) → EachOf P ts → P (ty.Tup ts))
    → ((a b : Ty) → P a → P b → P (ty.Arrow a b))
    → (t : Ty) → P t
induct_type P on_var on_con on_rec on_tup on_arrow = ind-Ty P (AtField P) (λ x y is. subst (λ z. P (roll-Ty z)) is (level y)) (λ x y is. subst (λ z. AtField P (roll-Field z)) is y.ty.1)
  where
    level : (y : Ty-F ((t : Ty) × P t) ((f : Field) × AtField P f)) → P (roll-Ty (map-Ty _ _ _ _ (λ e. e.0) (λ e. e.0) y))
    level (Var v) = subst P (sym (rolls-Var v)) (on_var v)
    level (Con name es) = subst P (sym (rolls-Con name (map (λ e. e.0) es))) (on_con name _ (each_of P es))
    level (Rec es) = subst P (sym (rolls-Rec (map (λ e. e.0) es))) (on_rec _ (each_of (AtField P) es))
    level (Tup es) = subst P (sym (rolls-Tup (map (λ e. e.0) es))) (on_tup _ (each_of P es))
    level (Arrow a b) = subst P (sym (rolls-Arrow a.0 b.0)) (on_arrow a.0 b.0 a.1 b.1)

-- the variables
pub variables_var : (v : VarId) → variables (ty.Var v) ≡ v ∷ []
variables_var v = ap variables (sym (rolls-Var v)) ∙ fold-roll-Ty _ _ variables_step (λ field. field.ty) _

pub variables_con : (name : NameId) (ts : List Ty) → variables (ty.Con name ts) ≡ concatenated (map variables ts)
variables_con name ts = ap variables (sym (rolls-Con name ts)) ∙ fold-roll-Ty _ _ variables_step (λ field. field.ty) _

pub variables_rec : (fields : List Field) → variables (ty.Rec fields) ≡ concatenated (map field_variables fields)
variables_rec fields = ap variables (sym (rolls-Rec fields)) ∙ fold-roll-Ty _ _ variables_step (λ field. field.ty) _

pub variables_tup : (ts : List Ty) → variables (ty.Tup ts) ≡ concatenated (map variables ts)
variables_tup ts = ap variables (sym (rolls-Tup ts)) ∙ fold-roll-Ty _ _ variables_step (λ field. field.ty) _

pub variables_arrow : (a b : Ty) → variables (ty.Arrow a b) ≡ variables a ++ variables b
variables_arrow a b = ap variables (sym (rolls-Arrow a b)) ∙ fold-roll-Ty _ _ variables_step (λ field. field.ty) _

pub variables_field : (field : Field) → field_variables field ≡ variables field.ty
variables_field field = fold-roll-Field _ _ variables_step (λ field. field.ty) (record { label = field.label; ty = field.ty })

-- the renamed type
module _ (r : Renaming) where
  pub renamed_var : (v : VarId) → renamed r (ty.Var v) ≡ ty.Var (r v)
  renamed_var v = ap (renamed r) (sym (rolls-Var v)) ∙ fold-roll-Ty _ _ (rename_step r) rename_field_step _

  pub renamed_con : (name : NameId) (ts : List Ty) → renamed r (ty.Con name ts) ≡ ty.Con name (map (renamed r) ts)
  renamed_con name ts = ap (renamed r) (sym (rolls-Con name ts)) ∙ fold-roll-Ty _ _ (rename_step r) rename_field_step _

  pub renamed_rec : (fields : List Field) → renamed r (ty.Rec fields) ≡ ty.Rec (map (field_renamed r) fields)
  renamed_rec fields = ap (renamed r) (sym (rolls-Rec fields)) ∙ fold-roll-Ty _ _ (rename_step r) rename_field_step _

  pub renamed_tup : (ts : List Ty) → renamed r (ty.Tup ts) ≡ ty.Tup (map (renamed r) ts)
  renamed_tup ts = ap (renamed r) (sym (rolls-Tup ts)) ∙ fold-roll-Ty _ _ (rename_step r) rename_field_step _

  pub renamed_arrow : (a b : Ty) → renamed r (ty.Arrow a b) ≡ ty.Arrow (renamed r a) (renamed r b)
  renamed_arrow a b = ap (renamed r) (sym (rolls-Arrow a b)) ∙ fold-roll-Ty _ _ (rename_step r) rename_field_step _

  pub renamed_field : (field : Field) → field_renamed r field ≡ record { label = field.label; ty = renamed r field.ty }
  renamed_field field = fold-roll-Field _ _ (rename_step r) rename_field_step (record { label = field.label; ty = field.ty })

-- the size
pub size_var : (v : VarId) → size_of (ty.Var v) ≡ 1
size_var v = ap size_of (sym (rolls-Var v)) ∙ fold-roll-Ty _ _ size_step size_field_step _

pub size_con : (name : NameId) (ts : List Ty) → size_of (ty.Con name ts) ≡ 1 + sum_of (map size_of ts)
size_con name ts = ap size_of (sym (rolls-Con name ts)) ∙ fold-roll-Ty _ _ size_step size_field_step _

pub size_rec : (fields : List Field) → size_of (ty.Rec fields) ≡ 1 + sum_of (map field_size fields)
size_rec fields = ap size_of (sym (rolls-Rec fields)) ∙ fold-roll-Ty _ _ size_step size_field_step _

pub size_tup : (ts : List Ty) → size_of (ty.Tup ts) ≡ 1 + sum_of (map size_of ts)
size_tup ts = ap size_of (sym (rolls-Tup ts)) ∙ fold-roll-Ty _ _ size_step size_field_step _

pub size_arrow : (a b : Ty) → size_of (ty.Arrow a b) ≡ 1 + (size_of a + size_of b)
size_arrow a b = ap size_of (sym (rolls-Arrow a b)) ∙ fold-roll-Ty _ _ size_step size_field_step _

pub size_field : (field : Field) → field_size field ≡ size_of field.ty
size_field field = fold-roll-Field _ _ size_step size_field_step (record { label = field.label; ty = field.ty })

-- the height
pub height_var : (v : VarId) → height_of (ty.Var v) ≡ 1
height_var v = ap height_of (sym (rolls-Var v)) ∙ fold-roll-Ty _ _ height_step height_field_step _

pub height_con : (name : NameId) (ts : List Ty) → height_of (ty.Con name ts) ≡ 1 + greatest_of (map height_of ts)
height_con name ts = ap height_of (sym (rolls-Con name ts)) ∙ fold-roll-Ty _ _ height_step height_field_step _

pub height_rec : (fields : List Field) → height_of (ty.Rec fields) ≡ 1 + greatest_of (map field_height fields)
height_rec fields = ap height_of (sym (rolls-Rec fields)) ∙ fold-roll-Ty _ _ height_step height_field_step _

pub height_tup : (ts : List Ty) → height_of (ty.Tup ts) ≡ 1 + greatest_of (map height_of ts)
height_tup ts = ap height_of (sym (rolls-Tup ts)) ∙ fold-roll-Ty _ _ height_step height_field_step _

pub height_arrow : (a b : Ty) → height_of (ty.Arrow a b) ≡ 1 + max (height_of a) (height_of b)
height_arrow a b = ap height_of (sym (rolls-Arrow a b)) ∙ fold-roll-Ty _ _ height_step height_field_step _

pub height_field : (field : Field) → field_height field ≡ height_of field.ty
height_field field = fold-roll-Field _ _ height_step height_field_step (record { label = field.label; ty = field.ty })

-- the type with others in place of its variables
module _ (by : List Ty) where
  pub substituted_var : (v : VarId) → substituted by (ty.Var v) ≡ or_variable v (slice_get by v.n)
  substituted_var v = ap (substituted by) (sym (rolls-Var v)) ∙ fold-roll-Ty _ _ (substitute_step by) substitute_field_step _

  pub substituted_con : (name : NameId) (ts : List Ty) → substituted by (ty.Con name ts) ≡ ty.Con name (map (substituted by) ts)
  substituted_con name ts = ap (substituted by) (sym (rolls-Con name ts)) ∙ fold-roll-Ty _ _ (substitute_step by) substitute_field_step _

  pub substituted_rec : (fields : List Field) → substituted by (ty.Rec fields) ≡ ty.Rec (map (field_substituted by) fields)
  substituted_rec fields = ap (substituted by) (sym (rolls-Rec fields)) ∙ fold-roll-Ty _ _ (substitute_step by) substitute_field_step _

  pub substituted_tup : (ts : List Ty) → substituted by (ty.Tup ts) ≡ ty.Tup (map (substituted by) ts)
  substituted_tup ts = ap (substituted by) (sym (rolls-Tup ts)) ∙ fold-roll-Ty _ _ (substitute_step by) substitute_field_step _

  pub substituted_arrow : (a b : Ty) → substituted by (ty.Arrow a b) ≡ ty.Arrow (substituted by a) (substituted by b)
  substituted_arrow a b = ap (substituted by) (sym (rolls-Arrow a b)) ∙ fold-roll-Ty _ _ (substitute_step by) substitute_field_step _

  pub substituted_field : (field : Field) → field_substituted by field ≡ record { label = field.label; ty = substituted by field.ty }
  substituted_field field = fold-roll-Field _ _ (substitute_step by) substitute_field_step (record { label = field.label; ty = field.ty })

-- whether something is so of each variable
module _ (is : VarId → Bool) where
  pub each_variable_var : (v : VarId) → each_variable is (ty.Var v) ≡ is v
  each_variable_var v = ap (each_variable is) (sym (rolls-Var v)) ∙ fold-roll-Ty _ _ (each_step is) each_field_step _

  pub each_variable_con : (name : NameId) (ts : List Ty) → each_variable is (ty.Con name ts) ≡ all_true (map (each_variable is) ts)
  each_variable_con name ts = ap (each_variable is) (sym (rolls-Con name ts)) ∙ fold-roll-Ty _ _ (each_step is) each_field_step _

  pub each_variable_rec : (fields : List Field) → each_variable is (ty.Rec fields) ≡ all_true (map (each_field_variable is) fields)
  each_variable_rec fields = ap (each_variable is) (sym (rolls-Rec fields)) ∙ fold-roll-Ty _ _ (each_step is) each_field_step _

  pub each_variable_tup : (ts : List Ty) → each_variable is (ty.Tup ts) ≡ all_true (map (each_variable is) ts)
  each_variable_tup ts = ap (each_variable is) (sym (rolls-Tup ts)) ∙ fold-roll-Ty _ _ (each_step is) each_field_step _

  pub each_variable_arrow : (a b : Ty) → each_variable is (ty.Arrow a b) ≡ (each_variable is a && each_variable is b)
  each_variable_arrow a b = ap (each_variable is) (sym (rolls-Arrow a b)) ∙ fold-roll-Ty _ _ (each_step is) each_field_step _

  pub each_variable_field : (field : Field) → each_field_variable is field ≡ each_variable is field.ty
  each_variable_field field = fold-roll-Field _ _ (each_step is) each_field_step (record { label = field.label; ty = field.ty })

-- the parts of a list, each beside what is defined of it
firsts : {A B : Type 0} (f : A → B) (xs : List A) → map (λ (p : A × B). p.0) (map (λ x. (x, f x)) xs) ≡ xs
firsts f [] = refl
firsts f (x ∷ xs) = ap (λ ys. x ∷ ys) (firsts f xs)

seconds : {A B : Type 0} (f : A → B) (xs : List A) → map (λ (p : A × B). p.1) (map (λ x. (x, f x)) xs) ≡ map f xs
seconds f [] = refl
seconds f (x ∷ xs) = ap (λ ys. f x ∷ ys) (seconds f xs)

-- the coordinates
pub coordinates_var : (v : VarId) → coordinates (ty.Var v) ≡ atom (ty.Var v)
unfolding coordinates
coordinates_var v = ap coordinates (sym (rolls-Var v)) ∙ para-roll-Ty _ _ coordinates_step _ _

pub coordinates_con : (name : NameId) (ts : List Ty) → coordinates (ty.Con name ts) ≡ atom (ty.Con name ts)
unfolding coordinates
coordinates_con name ts = ap coordinates (sym (rolls-Con name ts)) ∙ para-roll-Ty _ _ coordinates_step _ _ ∙ ap (λ us. atom (ty.Con name us)) (firsts coordinates ts)

pub coordinates_rec : (fields : List Field) → coordinates (ty.Rec fields) ≡ atom (ty.Rec fields)
unfolding coordinates
coordinates_rec fields = ap coordinates (sym (rolls-Rec fields)) ∙ para-roll-Ty _ _ coordinates_step _ _ ∙ ap (λ us. atom (ty.Rec us)) (firsts (λ field. tt) fields)

pub coordinates_tup : (ts : List Ty) → coordinates (ty.Tup ts) ≡ concatenated (map coordinates ts)
unfolding coordinates
coordinates_tup ts = ap coordinates (sym (rolls-Tup ts)) ∙ para-roll-Ty _ _ coordinates_step _ _ ∙ ap concatenated (seconds coordinates ts)

pub coordinates_arrow : (a b : Ty) → coordinates (ty.Arrow a b) ≡ map (taking (coordinates a)) (coordinates b)
unfolding coordinates
coordinates_arrow a b = ap coordinates (sym (rolls-Arrow a b)) ∙ para-roll-Ty _ _ coordinates_step _ _

-- the normal size
pub normal_size_var : (v : VarId) → normal_size_of (ty.Var v) ≡ size_of (ty.Var v)
unfolding normal_size_of
normal_size_var v = ap normal_size_of (sym (rolls-Var v)) ∙ para-roll-Ty _ _ normal_size_step _ _

pub normal_size_con : (name : NameId) (ts : List Ty) → normal_size_of (ty.Con name ts) ≡ size_of (ty.Con name ts)
unfolding normal_size_of
normal_size_con name ts = ap normal_size_of (sym (rolls-Con name ts)) ∙ para-roll-Ty _ _ normal_size_step _ _ ∙ ap (λ us. size_of (ty.Con name us)) (firsts normal_size_of ts)

pub normal_size_rec : (fields : List Field) → normal_size_of (ty.Rec fields) ≡ size_of (ty.Rec fields)
unfolding normal_size_of
normal_size_rec fields = ap normal_size_of (sym (rolls-Rec fields)) ∙ para-roll-Ty _ _ normal_size_step _ _ ∙ ap (λ us. size_of (ty.Rec us)) (firsts (λ field. tt) fields)

pub normal_size_tup : (ts : List Ty) → normal_size_of (ty.Tup ts) ≡ sum_of (map normal_size_of ts)
unfolding normal_size_of
normal_size_tup ts = ap normal_size_of (sym (rolls-Tup ts)) ∙ para-roll-Ty _ _ normal_size_step _ _ ∙ ap sum_of (seconds normal_size_of ts)

pub normal_size_arrow : (a b : Ty) → normal_size_of (ty.Arrow a b) ≡ coordinate_count b * normal_size_of a + normal_size_of b
unfolding normal_size_of
normal_size_arrow a b = ap normal_size_of (sym (rolls-Arrow a b)) ∙ para-roll-Ty _ _ normal_size_step _ _

-- whether it admits equality
module _ (names : List TypeName) where
  pub admits_var : (v : VarId) → admits_equality names (ty.Var v) ≡ v.eq
  admits_var v = ap (admits_equality names) (sym (rolls-Var v)) ∙ fold-roll-Ty _ _ (admits_step names) admits_field_step _

  pub admits_con : (name : NameId) (ts : List Ty) → admits_equality names (ty.Con name ts) ≡ by_attribute (attribute_of (slice_get names name.0)) (map (admits_equality names) ts)
  admits_con name ts = ap (admits_equality names) (sym (rolls-Con name ts)) ∙ fold-roll-Ty _ _ (admits_step names) admits_field_step _

  pub admits_rec : (fields : List Field) → admits_equality names (ty.Rec fields) ≡ all_true (map (field_admits_equality names) fields)
  admits_rec fields = ap (admits_equality names) (sym (rolls-Rec fields)) ∙ fold-roll-Ty _ _ (admits_step names) admits_field_step _

  pub admits_tup : (ts : List Ty) → admits_equality names (ty.Tup ts) ≡ all_true (map (admits_equality names) ts)
  admits_tup ts = ap (admits_equality names) (sym (rolls-Tup ts)) ∙ fold-roll-Ty _ _ (admits_step names) admits_field_step _

  pub admits_arrow : (a b : Ty) → admits_equality names (ty.Arrow a b) ≡ false
  admits_arrow a b = ap (admits_equality names) (sym (rolls-Arrow a b)) ∙ fold-roll-Ty _ _ (admits_step names) admits_field_step _

  pub admits_field : (field : Field) → field_admits_equality names field ≡ admits_equality names field.ty
  admits_field field = fold-roll-Field _ _ (admits_step names) admits_field_step (record { label = field.label; ty = field.ty })

-- the labels
field_labels : (field : Field) → fold-Field _ _ labels_step labels_field_step field ≡ field.label ∷ labels_of field.ty
unfolding labels_of
field_labels field = fold-roll-Field _ _ labels_step labels_field_step (record { label = field.label; ty = field.ty })

fields_labels : (fields : List Field) → map (fold-Field _ _ labels_step labels_field_step) fields ≡ map (λ field. field.label ∷ labels_of field.ty) fields
fields_labels [] = refl
fields_labels (field ∷ fields) = ap₂ ◌∷◌ (field_labels field) (fields_labels fields)

pub labels_rec : (fields : List Field) → labels_of (ty.Rec fields) ≡ concatenated (map (λ field. field.label ∷ labels_of field.ty) fields)
unfolding labels_of
labels_rec fields = ap labels_of (sym (rolls-Rec fields)) ∙ fold-roll-Ty _ _ labels_step labels_field_step _ ∙ ap concatenated (fields_labels fields)

pub labels_var : (v : VarId) → labels_of (ty.Var v) ≡ []
unfolding labels_of
labels_var v = ap labels_of (sym (rolls-Var v)) ∙ fold-roll-Ty _ _ labels_step labels_field_step _

pub labels_con : (name : NameId) (ts : List Ty) → labels_of (ty.Con name ts) ≡ concatenated (map labels_of ts)
unfolding labels_of
labels_con name ts = ap labels_of (sym (rolls-Con name ts)) ∙ fold-roll-Ty _ _ labels_step labels_field_step _

pub labels_tup : (ts : List Ty) → labels_of (ty.Tup ts) ≡ concatenated (map labels_of ts)
unfolding labels_of
labels_tup ts = ap labels_of (sym (rolls-Tup ts)) ∙ fold-roll-Ty _ _ labels_step labels_field_step _

pub labels_arrow : (a b : Ty) → labels_of (ty.Arrow a b) ≡ labels_of a ++ labels_of b
unfolding labels_of
labels_arrow a b = ap labels_of (sym (rolls-Arrow a b)) ∙ fold-roll-Ty _ _ labels_step labels_field_step _
