-- Types whose names are numbered anew.
use Rattle.std.proofs.Common.{◌≡◌, ℕ, ◌+◌, ◌*◌, ◌<◌, Bool, true, List, [], ◌∷◌, map, length, slice_get, refl, sym, ap, ap₂, ◌∙◌}
use Rattle.std.proofs.lemmas.Bool.{and_from}
use Rattle.std.proofs.lemmas.List.{length-map}
use Rattle.type_core.specs.declared.names.TypeName.{TypeName}
use Rattle.type_core.specs.declared.ty.Field.{Field}
use Rattle.type_core.specs.declared.ty.NameId.{NameId}
use Rattle.type_core.specs.declared.ty.Ty.{Ty}
use Rattle.type_core.specs.declared.ty.Ty.TheFolds.{fold-Field, fold-Ty, fold-roll-Field, fold-roll-Ty}
use Rattle.type_core.specs.declared.ty.Ty.TheOpen.{Ty-F, Field-F, Con, Rec, Tup, Arrow}
use Rattle.type_core.specs.declared.ty.Ty.TheVariants as ty
use Rattle.type_core.specs.declared.ty.Ty.TheVariants.{rolls-Arrow, rolls-Con, rolls-Rec, rolls-Tup, rolls-Var}
use Rattle.type_core.specs.declared.ty.VarId.{VarId}
use Rattle.type_core.specs.Coordinates.{coordinate_count}
use Rattle.type_core.specs.Height.{height_field_step, height_of, height_step}
use Rattle.type_core.specs.Lists.{all_true, sum_of}
use Rattle.type_core.specs.NormalSize.{normal_size_of}
use Rattle.type_core.specs.Size.{size_field_step, size_of, size_step}
use Rattle.type_core.specs.Types.{IsOver, is_over, takes}
use Rattle.type_core.specs.Weight.{labels_field_step, labels_of, labels_step}
use Rattle.type_core.proofs.NormalSizes.{count_arrow, count_con, count_rec, count_tup}
use Rattle.type_core.proofs.Trees.{AtField, EachOf, induct_type, normal_size_arrow, normal_size_con, normal_size_rec, normal_size_tup}
use Rattle.type_core.proofs.TypeTests.{is_over_con, is_over_var}
use Rattle.elab_env.proofs.Equations.{over_collects, over_partwise}
use Rattle.elab_env.proofs.Parts.{GoesInside, agree, at_type, map_map, passes}
use Rattle.elab_env.proofs.Replacing.{takes_arguments}
use Rattle.elab_rules.specs.Copies.{rename_field_step, rename_step, with_numbers}
use Rattle.elab_rules.specs.Copies.{field_with_numbers}
use Rattle.elab_rules.proofs.LaterNames.{known_within}
use Rattle.elab_env.proofs.Equations.{map_same}

-- ---- the variants
module _ (f : ℕ → ℕ) where
  pub numbered_var : (v : VarId) → with_numbers f (ty.Var v) ≡ ty.Var v
  numbered_var v = ap (with_numbers f) (sym (rolls-Var v)) ∙ fold-roll-Ty _ _ (rename_step f) rename_field_step _

  pub numbered_con : (name : NameId) (ts : List Ty) → with_numbers f (ty.Con name ts) ≡ ty.Con (record { 0 = f name.0 }) (map (with_numbers f) ts)
  numbered_con name ts = ap (with_numbers f) (sym (rolls-Con name ts)) ∙ fold-roll-Ty _ _ (rename_step f) rename_field_step _

  pub numbered_field : (field : Field) → field_with_numbers f field ≡ at_type (with_numbers f) field
  numbered_field field = fold-roll-Field _ _ (rename_step f) rename_field_step (record { label = field.label; ty = field.ty })

  pub numbered_inside : GoesInside (with_numbers f)
  numbered_inside = record {
    on_rec = λ fields. ap (with_numbers f) (sym (rolls-Rec fields)) ∙ fold-roll-Ty _ _ (rename_step f) rename_field_step _ ∙ ap ty.Rec (map_same (field_with_numbers f) (at_type (with_numbers f)) numbered_field fields);
    on_tup = λ ts. ap (with_numbers f) (sym (rolls-Tup ts)) ∙ fold-roll-Ty _ _ (rename_step f) rename_field_step _;
    on_arrow = λ a b. ap (with_numbers f) (sym (rolls-Arrow a b)) ∙ fold-roll-Ty _ _ (rename_step f) rename_field_step _;
  }

  -- ---- names of the same arities
  mapped : (test : Ty → Bool) (ts : List Ty) → all_true (map (λ t. test (with_numbers f t)) ts) ≡ true → all_true (map test (map (with_numbers f) ts)) ≡ true
  mapped test ts e = ap all_true (map_map test (with_numbers f) ts) ∙ e

  pub over_numbered : (names more : List TypeName) → ((n count : ℕ) → takes (slice_get names n) count ≡ true → takes (slice_get more (f n)) count ≡ true) → (t : Ty) → IsOver names t → IsOver more (with_numbers f t)
  over_numbered names more arities = passes (with_numbers f) (is_over names) (is_over more) (over_partwise names) numbered_inside (over_collects (with_numbers f) (is_over names) more)
      (λ v e. ap (is_over more) (numbered_var v) ∙ is_over_var more v)
      (λ name ts e k. ap (is_over more) (numbered_con name ts) ∙ is_over_con more _ _
      ∙ and_from _ _ (ap (takes (slice_get more (f name.0))) (length-map ts (with_numbers f)) ∙ arities name.0 (length ts) (takes_arguments names name ts e)) (mapped (is_over more) ts k))

-- ---- what is defined by levels, and looks at no name and no variable
module _ {A B : Type 0} (step : Ty-F A B → A) (field_step : Field-F A B → B) where
  abbrev folded : Ty → A
  folded = fold-Ty A B step field_step

  abbrev field_folded : Field → B
  field_folded = fold-Field A B step field_step

  folded_con : (name : NameId) (ts : List Ty) → folded (ty.Con name ts) ≡ step (Con name (map folded ts))
  folded_con name ts = ap folded (sym (rolls-Con name ts)) ∙ fold-roll-Ty _ _ step field_step _

  folded_field : (label : List ℕ) (t : Ty) → field_folded (record { label = label; ty = t }) ≡ field_step (record { label = label; ty = folded t })
  folded_field label t = fold-roll-Field _ _ step field_step (record { label = label; ty = t })

  module _ (g : Ty → Ty) (inside : GoesInside g) (on_var : (v : VarId) → folded (g (ty.Var v)) ≡ folded (ty.Var v)) (on_con : (name : NameId) (ts : List Ty) → folded (g (ty.Con name ts)) ≡ folded (ty.Con name (map g ts))) where
    abbrev IsSame : Ty → Type 0
    IsSame t = folded (g t) ≡ folded t

    all_same : (ts : List Ty) → EachOf IsSame ts → map folded (map g ts) ≡ map folded ts
    all_same [] ihs = refl
    all_same (t ∷ ts) ihs = ap₂ ◌∷◌ ihs.0 (all_same ts ihs.1)

    fields_same : (fields : List Field) → EachOf (AtField IsSame) fields → map field_folded (map (at_type g) fields) ≡ map field_folded fields
    fields_same [] ihs = refl
    fields_same (field ∷ fields) ihs =
        ap₂ ◌∷◌ (folded_field field.label (g field.ty) ∙ ap (λ x. field_step (record { label = field.label; ty = x })) ihs.0 ∙ sym (folded_field field.label field.ty))
        (fields_same fields ihs.1)

    pub folded_same : (t : Ty) → folded (g t) ≡ folded t
    folded_same = induct_type IsSame
        on_var
        (λ name ts ihs. on_con name ts ∙ folded_con name (map g ts) ∙ ap (λ xs. step (Con name xs)) (all_same ts ihs) ∙ sym (folded_con name ts))
        (λ fields ihs. ap folded (inside.on_rec fields) ∙ ap folded (sym (rolls-Rec _)) ∙ fold-roll-Ty _ _ step field_step _ ∙ ap (λ xs. step (Rec xs)) (fields_same fields ihs)
        ∙ sym (ap folded (sym (rolls-Rec fields)) ∙ fold-roll-Ty _ _ step field_step _))
        (λ ts ihs. ap folded (inside.on_tup ts) ∙ ap folded (sym (rolls-Tup _)) ∙ fold-roll-Ty _ _ step field_step _ ∙ ap (λ xs. step (Tup xs)) (all_same ts ihs)
        ∙ sym (ap folded (sym (rolls-Tup ts)) ∙ fold-roll-Ty _ _ step field_step _))
        (λ a b p q. ap folded (inside.on_arrow a b) ∙ ap folded (sym (rolls-Arrow _ _)) ∙ fold-roll-Ty _ _ step field_step _ ∙ ap₂ (λ x y. step (Arrow x y)) p q
        ∙ sym (ap folded (sym (rolls-Arrow a b)) ∙ fold-roll-Ty _ _ step field_step _))

  pub folded_numbered : (f : ℕ → ℕ) → ((name : NameId) (xs : List A) → step (Con (record { 0 = f name.0 }) xs) ≡ step (Con name xs)) → (t : Ty) → folded (with_numbers f t) ≡ folded t
  folded_numbered f blind = folded_same (with_numbers f) (numbered_inside f)
      (λ v. ap folded (numbered_var f v))
      (λ name ts. ap folded (numbered_con f name ts) ∙ folded_con _ _ ∙ blind name _ ∙ sym (folded_con name _))

-- ---- the normal size, where sizes and the variables' counts stay
module _ (g : Ty → Ty) (inside : GoesInside g) (size_same : (t : Ty) → size_of (g t) ≡ size_of t)
    (count_of_var : (v : VarId) → coordinate_count (g (ty.Var v)) ≡ coordinate_count (ty.Var v)) (normal_of_var : (v : VarId) → normal_size_of (g (ty.Var v)) ≡ normal_size_of (ty.Var v))
    (count_of_con : (name : NameId) (ts : List Ty) → coordinate_count (g (ty.Con name ts)) ≡ coordinate_count (ty.Con name ts)) (normal_of_con : (name : NameId) (ts : List Ty) → normal_size_of (g (ty.Con name ts)) ≡ size_of (g (ty.Con name ts))) where
  record IsAsNormal (t : Ty) : Type 0 where
    count : coordinate_count (g t) ≡ coordinate_count t
    normal : normal_size_of (g t) ≡ normal_size_of t

  counts_same : (ts : List Ty) → EachOf IsAsNormal ts → map coordinate_count (map g ts) ≡ map coordinate_count ts
  counts_same [] ihs = refl
  counts_same (t ∷ ts) ihs = ap₂ ◌∷◌ (ihs.0).count (counts_same ts ihs.1)

  normals_same : (ts : List Ty) → EachOf IsAsNormal ts → map normal_size_of (map g ts) ≡ map normal_size_of ts
  normals_same [] ihs = refl
  normals_same (t ∷ ts) ihs = ap₂ ◌∷◌ (ihs.0).normal (normals_same ts ihs.1)

  as_normal : (t : Ty) → IsAsNormal t
  as_normal = induct_type IsAsNormal
      (λ v. record { count = count_of_var v; normal = normal_of_var v })
      (λ name ts ihs. record {
        count = count_of_con name ts;
        normal = normal_of_con name ts ∙ size_same (ty.Con name ts) ∙ sym (normal_size_con name ts);
      })
      (λ fields ihs. record {
        count = ap coordinate_count (inside.on_rec fields) ∙ count_rec _ ∙ sym (count_rec fields);
        normal = ap normal_size_of (inside.on_rec fields) ∙ normal_size_rec _ ∙ ap size_of (sym (inside.on_rec fields)) ∙ size_same (ty.Rec fields) ∙ sym (normal_size_rec fields);
      })
      (λ ts ihs. record {
        count = ap coordinate_count (inside.on_tup ts) ∙ count_tup _ ∙ ap sum_of (counts_same ts ihs) ∙ sym (count_tup ts);
        normal = ap normal_size_of (inside.on_tup ts) ∙ normal_size_tup _ ∙ ap sum_of (normals_same ts ihs) ∙ sym (normal_size_tup ts);
      })
      (λ a b p q. record {
        count = ap coordinate_count (inside.on_arrow a b) ∙ count_arrow _ _ ∙ q.count ∙ sym (count_arrow a b);
        normal = ap normal_size_of (inside.on_arrow a b) ∙ normal_size_arrow _ _ ∙ ap₂ ◌+◌ (ap₂ ◌*◌ q.count p.normal) q.normal ∙ sym (normal_size_arrow a b);
      })

  pub normal_same : (t : Ty) → normal_size_of (g t) ≡ normal_size_of t
  normal_same t = (as_normal t).normal

-- ---- names numbered anew
module _ (f : ℕ → ℕ) where
  pub size_numbered : (t : Ty) → size_of (with_numbers f t) ≡ size_of t
  size_numbered = folded_numbered size_step size_field_step f (λ name xs. refl)

  pub height_numbered : (t : Ty) → height_of (with_numbers f t) ≡ height_of t
  height_numbered = folded_numbered height_step height_field_step f (λ name xs. refl)

  pub labels_numbered : (t : Ty) → labels_of (with_numbers f t) ≡ labels_of t
  unfolding labels_of
  labels_numbered = folded_numbered labels_step labels_field_step f (λ name xs. refl)

  pub normal_size_numbered : (t : Ty) → normal_size_of (with_numbers f t) ≡ normal_size_of t
  normal_size_numbered = normal_same (with_numbers f) (numbered_inside f) size_numbered
      (λ v. ap coordinate_count (numbered_var f v))
      (λ v. ap normal_size_of (numbered_var f v))
      (λ name ts. ap coordinate_count (numbered_con f name ts) ∙ count_con _ _ ∙ sym (count_con name ts))
      (λ name ts. ap normal_size_of (numbered_con f name ts) ∙ normal_size_con _ _ ∙ ap size_of (sym (numbered_con f name ts)))

-- ---- numberings that agree on the names of a type
pub numberings_agree : (names : List TypeName) (f g : ℕ → ℕ) → ((n : ℕ) → n < length names → f n ≡ g n) → (t : Ty) → IsOver names t → with_numbers f t ≡ with_numbers g t
numberings_agree names f g same = agree (is_over names) (with_numbers f) (with_numbers g) (over_partwise names) (numbered_inside f) (numbered_inside g)
    (λ v e. numbered_var f v ∙ sym (numbered_var g v))
    (λ name ts e h. numbered_con f name ts
    ∙ ap₂ (λ n us. let id : NameId = record { 0 = n } in ty.Con id us) (same name.0 (known_within names name.0 (length ts) (takes_arguments names name ts e))) h
    ∙ sym (numbered_con g name ts))
