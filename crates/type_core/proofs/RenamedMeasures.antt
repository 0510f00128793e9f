-- Renaming the variables of a type changes neither its size, height, normal size and labels, nor whether it is a type.
use Rattle.std.proofs.Common.{◌≡◌, ℕ, ◌+◌, ◌*◌, List, [], ◌∷◌, map, refl, sym, ap, ap₂, ◌∙◌}
use Rattle.type_core.specs.declared.names.TypeName.{TypeName}
use Rattle.type_core.specs.declared.ty.Field.{Field}
use Rattle.type_core.specs.declared.ty.Ty.{Ty}
use Rattle.type_core.specs.declared.ty.Ty.TheFolds.{fold-Ty, fold-Field, fold-roll-Ty, fold-roll-Field}
use Rattle.type_core.specs.declared.ty.Ty.TheOpen.{Ty-F, Field-F, Var, Con, Rec, Tup, Arrow}
use Rattle.type_core.specs.declared.ty.Ty.TheVariants as ty
use Rattle.type_core.specs.declared.ty.Ty.TheVariants.{rolls-Var, rolls-Con, rolls-Rec, rolls-Tup, rolls-Arrow}
use Rattle.type_core.specs.declared.ty.NameId.{NameId}
use Rattle.type_core.specs.declared.ty.VarId.{VarId}
use Rattle.type_core.specs.Coordinates.{coordinate_count}
use Rattle.type_core.specs.Height.{height_of, height_step, height_field_step}
use Rattle.type_core.specs.Lists.{sum_of}
use Rattle.type_core.specs.NormalSize.{normal_size_of}
use Rattle.type_core.specs.Renaming.{Renaming, renamed, field_renamed}
use Rattle.type_core.specs.Size.{size_of, size_step, size_field_step}
use Rattle.type_core.specs.Types.{is_over, is_type, over_step, over_field_step, type_step, type_field_step}
use Rattle.type_core.specs.Weight.{labels_of, labels_step, labels_field_step}
use Rattle.type_core.proofs.NormalSizes.{count_var, count_con, count_rec, count_tup, count_arrow}
use Rattle.type_core.proofs.Trees.{AtField, EachOf, induct_type, normal_size_arrow, normal_size_con, normal_size_rec, normal_size_tup, normal_size_var, renamed_arrow, renamed_con, renamed_field, renamed_rec, renamed_tup, renamed_var}

-- ---- what is defined by levels, and looks at no variable
module _ {A B : Type 0} (step : Ty-F A B → A) (field_step : Field-F A B → B) (r : Renaming) (blind : (v : VarId) → step (Var (r v)) ≡ step (Var v)) where
  abbrev folded : Ty → A
  folded = fold-Ty A B step field_step

  abbrev field_folded : Field → B
  field_folded = fold-Field A B step field_step

  folded_var : (v : VarId) → folded (ty.Var v) ≡ step (Var v)
  folded_var v = ap folded (sym (rolls-Var v)) ∙ fold-roll-Ty _ _ step field_step _

  folded_con : (name : NameId) (ts : List Ty) → folded (ty.Con name ts) ≡ step (Con name (map folded ts))
  folded_con name ts = ap folded (sym (rolls-Con name ts)) ∙ fold-roll-Ty _ _ step field_step _

  folded_rec : (fields : List Field) → folded (ty.Rec fields) ≡ step (Rec (map field_folded fields))
  folded_rec fields = ap folded (sym (rolls-Rec fields)) ∙ fold-roll-Ty _ _ step field_step _

  folded_tup : (ts : List Ty) → folded (ty.Tup ts) ≡ step (Tup (map folded ts))
  folded_tup ts = ap folded (sym (rolls-Tup ts)) ∙ fold-roll-Ty _ _ step field_step _

  folded_arrow : (a b : Ty) → folded (ty.Arrow a b) ≡ step (Arrow (folded a) (folded b))
  folded_arrow a b = ap folded (sym (rolls-Arrow a b)) ∙ fold-roll-Ty _ _ step field_step _

  folded_field : (label : List ℕ) (t : Ty) → field_folded (record { label = label; ty = t }) ≡ field_step (record { label = label; ty = folded t })
  folded_field label t = fold-roll-Field _ _ step field_step (record { label = label; ty = t })

  abbrev IsSame : Ty → Type 0
  IsSame t = folded (renamed r t) ≡ folded t

  all_same : (ts : List Ty) → EachOf IsSame ts → map folded (map (renamed r) ts) ≡ map folded ts
  all_same [] ihs = refl
  all_same (t ∷ ts) ihs = ap₂ ◌∷◌ ihs.0 (all_same ts ihs.1)

  field_same : (f : Field) → IsSame f.ty → field_folded (field_renamed r f) ≡ field_folded f
  field_same f ih =
      ap field_folded (renamed_field r f) ∙ folded_field f.label (renamed r f.ty)
      ∙ ap (λ x. field_step (record { label = f.label; ty = x })) ih ∙ sym (folded_field f.label f.ty)

  fields_same : (fs : List Field) → EachOf (AtField IsSame) fs → map field_folded (map (field_renamed r) fs) ≡ map field_folded fs
  fields_same [] ihs = refl
  fields_same (f ∷ fs) ihs = ap₂ ◌∷◌ (field_same f ihs.0) (fields_same fs ihs.1)

  folded_renamed : (t : Ty) → folded (renamed r t) ≡ folded t
  folded_renamed = induct_type IsSame
      (λ v. ap folded (renamed_var r v) ∙ folded_var (r v) ∙ blind v ∙ sym (folded_var v))
      (λ name ts ihs. ap folded (renamed_con r name ts) ∙ folded_con name _ ∙ ap (λ xs. step (Con name xs)) (all_same ts ihs) ∙ sym (folded_con name ts))
      (λ fs ihs. ap folded (renamed_rec r fs) ∙ folded_rec _ ∙ ap (λ xs. step (Rec xs)) (fields_same fs ihs) ∙ sym (folded_rec fs))
      (λ ts ihs. ap folded (renamed_tup r ts) ∙ folded_tup _ ∙ ap (λ xs. step (Tup xs)) (all_same ts ihs) ∙ sym (folded_tup ts))
      (λ a b p q. ap folded (renamed_arrow r a b) ∙ folded_arrow _ _ ∙ ap₂ (λ x y. step (Arrow x y)) p q ∙ sym (folded_arrow a b))

module _ (r : Renaming) where
  pub size_renamed : (t : Ty) → size_of (renamed r t) ≡ size_of t
  size_renamed = folded_renamed size_step size_field_step r (λ v. refl)

  pub height_renamed : (t : Ty) → height_of (renamed r t) ≡ height_of t
  height_renamed = folded_renamed height_step height_field_step r (λ v. refl)

  pub labels_renamed : (t : Ty) → labels_of (renamed r t) ≡ labels_of t
  unfolding labels_of
  labels_renamed = folded_renamed labels_step labels_field_step r (λ v. refl)

  pub type_renamed : (t : Ty) → is_type (renamed r t) ≡ is_type t
  unfolding is_type
  type_renamed = folded_renamed type_step type_field_step r (λ v. refl)

  pub over_renamed : (names : List TypeName) (t : Ty) → is_over names (renamed r t) ≡ is_over names t
  unfolding is_over
  over_renamed names = folded_renamed (over_step names) over_field_step r (λ v. refl)

  -- ---- the normal size
  pub record IsAsNormal (t : Ty) : Type 0 where
    pub count : coordinate_count (renamed r t) ≡ coordinate_count t
    pub normal : normal_size_of (renamed r t) ≡ normal_size_of t

  counts_same : (ts : List Ty) → EachOf IsAsNormal ts → map coordinate_count (map (renamed r) ts) ≡ map coordinate_count ts
  counts_same [] ihs = refl
  counts_same (t ∷ ts) ihs = ap₂ ◌∷◌ (ihs.0).count (counts_same ts ihs.1)

  normals_same : (ts : List Ty) → EachOf IsAsNormal ts → map normal_size_of (map (renamed r) ts) ≡ map normal_size_of ts
  normals_same [] ihs = refl
  normals_same (t ∷ ts) ihs = ap₂ ◌∷◌ (ihs.0).normal (normals_same ts ihs.1)

  size_con : (name : NameId) (ts : List Ty) → size_of (ty.Con name (map (renamed r) ts)) ≡ size_of (ty.Con name ts)
  size_con name ts = ap size_of (sym (renamed_con r name ts)) ∙ size_renamed (ty.Con name ts)

  size_rec : (fields : List Field) → size_of (ty.Rec (map (field_renamed r) fields)) ≡ size_of (ty.Rec fields)
  size_rec fields = ap size_of (sym (renamed_rec r fields)) ∙ size_renamed (ty.Rec fields)

  size_var : (v : VarId) → size_of (ty.Var (r v)) ≡ size_of (ty.Var v)
  size_var v = ap size_of (sym (renamed_var r v)) ∙ size_renamed (ty.Var v)

  pub as_normal : (t : Ty) → IsAsNormal t
  as_normal = induct_type IsAsNormal
      (λ v. record {
        count = ap coordinate_count (renamed_var r v) ∙ count_var (r v) ∙ sym (count_var v);
        normal = ap normal_size_of (renamed_var r v) ∙ normal_size_var (r v) ∙ size_var v ∙ sym (normal_size_var v);
      })
      (λ name ts ihs. record {
        count = ap coordinate_count (renamed_con r name ts) ∙ count_con name _ ∙ sym (count_con name ts);
        normal = ap normal_size_of (renamed_con r name ts) ∙ normal_size_con name _ ∙ size_con name ts ∙ sym (normal_size_con name ts);
      })
      (λ fs ihs. record {
        count = ap coordinate_count (renamed_rec r fs) ∙ count_rec _ ∙ sym (count_rec fs);
        normal = ap normal_size_of (renamed_rec r fs) ∙ normal_size_rec _ ∙ size_rec fs ∙ sym (normal_size_rec fs);
      })
      (λ ts ihs. record {
        count = ap coordinate_count (renamed_tup r ts) ∙ count_tup _ ∙ ap sum_of (counts_same ts ihs) ∙ sym (count_tup ts);
        normal = ap normal_size_of (renamed_tup r ts) ∙ normal_size_tup _ ∙ ap sum_of (normals_same ts ihs) ∙ sym (normal_size_tup ts);
      })
      (λ a b p q. record {
        count = ap coordinate_count (renamed_arrow r a b) ∙ count_arrow _ _ ∙ q.count ∙ sym (count_arrow a b);
        normal = ap normal_size_of (renamed_arrow r a b) ∙ normal_size_arrow _ _ ∙ ap₂ ◌+◌ (ap₂ ◌*◌ q.count p.normal) q.normal ∙ sym (normal_size_arrow a b);
      })
