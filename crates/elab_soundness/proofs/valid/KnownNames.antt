-- Which names stand in types that are made of others.
use Rattle.std.proofs.Common.{◌≡◌, ℕ, zero, suc, ◌==◌, ◌&&◌, Bool, true, false, List, [], ◌∷◌, length, map, slice_get, refl, sym, ap, ◌∙◌}
use Rattle.std.proofs.lemmas.Bool.{and_parts, and_from}
use Rattle.std.proofs.lemmas.List.{length-map}
use Rattle.type_core.specs.declared.names.TypeName.{TypeName}
use Rattle.type_core.specs.declared.ty.Field.{Field}
use Rattle.type_core.specs.declared.ty.NameId.{NameId}
use Rattle.type_core.specs.declared.ty.Ty.{Ty}
use Rattle.type_core.specs.declared.ty.Ty.TheFolds.{fold-Field, fold-roll-Ty, fold-roll-Field}
use Rattle.type_core.specs.declared.ty.Ty.TheVariants as ty
use Rattle.type_core.specs.declared.ty.Ty.TheVariants.{rolls-Var, rolls-Con, rolls-Rec, rolls-Tup, rolls-Arrow}
use Rattle.type_core.specs.declared.ty.VarId.{VarId}
use Rattle.type_core.specs.Lists.{all_true}
use Rattle.type_core.specs.Renaming.{Renaming, renamed}
use Rattle.type_core.specs.Substitution.{or_variable, substituted}
use Rattle.type_core.specs.Types.{IsOver, is_over, takes}
use Rattle.type_core.proofs.Trees.{renamed_con, renamed_var, substituted_con, substituted_var}
use Rattle.type_core.proofs.TypeTests.{is_over_con, is_over_var}
use Rattle.elab_env.specs.declared.realization.Realization.{Realization}
use Rattle.elab_env.specs.Realizations.{replaced}
use Rattle.elab_env.proofs.Equations.{over_collects, replaced_inside, replaced_var, substituted_inside}
use Rattle.elab_env.proofs.Parts.{Collects, IsPartwise, at_type, map_map, nothing_inside, passes}
use Rattle.elab_env.proofs.Replacing.{by_cases}
use Rattle.elab_rules.specs.Copies.{with_numbers}
use Rattle.elab_soundness.specs.Soundness.{Known, names_field_step, names_known, names_step}
use Rattle.elab_rules.proofs.ClosedAgain.{renamed_inside}
use Rattle.elab_rules.proofs.Renumbered.{numbered_con, numbered_inside, numbered_var}
use Rattle.elab_env.proofs.Equations.{map_same}

-- ---- by the outermost form

module _ (known : Known) where
  pub names_var : (v : VarId) → names_known known (ty.Var v) ≡ true
  unfolding names_known
  names_var v = ap (names_known known) (sym (rolls-Var v)) ∙ fold-roll-Ty _ _ (names_step known) names_field_step _

  pub names_con : (name : NameId) (ts : List Ty) → names_known known (ty.Con name ts) ≡ (known name.0 (length ts) && all_true (map (names_known known) ts))
  unfolding names_known
  names_con name ts =
      ap (names_known known) (sym (rolls-Con name ts)) ∙ fold-roll-Ty _ _ (names_step known) names_field_step _
      ∙ ap (λ n. known name.0 n && all_true (map (names_known known) ts)) (length-map ts (names_known known))

  field_names : (field : Field) → fold-Field Bool Bool (names_step known) names_field_step field ≡ names_known known field.ty
  unfolding names_known
  field_names field = fold-roll-Field _ _ (names_step known) names_field_step (record { label = field.label; ty = field.ty })

  pub names_rec : (fields : List Field) → names_known known (ty.Rec fields) ≡ all_true (map (λ field. names_known known field.ty) fields)
  unfolding names_known
  names_rec fields = ap (names_known known) (sym (rolls-Rec fields)) ∙ fold-roll-Ty _ _ (names_step known) names_field_step _ ∙ ap all_true (map_same _ _ field_names fields)

  pub names_tup : (ts : List Ty) → names_known known (ty.Tup ts) ≡ all_true (map (names_known known) ts)
  unfolding names_known
  names_tup ts = ap (names_known known) (sym (rolls-Tup ts)) ∙ fold-roll-Ty _ _ (names_step known) names_field_step _

  pub names_arrow : (a b : Ty) → names_known known (ty.Arrow a b) ≡ (names_known known a && names_known known b)
  unfolding names_known
  names_arrow a b = ap (names_known known) (sym (rolls-Arrow a b)) ∙ fold-roll-Ty _ _ (names_step known) names_field_step _

  -- ---- the parts
  pub names_partwise : IsPartwise (names_known known)
  names_partwise = record {
    on_con = λ name ts e. (and_parts (known name.0 (length ts)) _ (sym (names_con name ts) ∙ e)).1;
    on_rec = λ fields e. sym (names_rec fields) ∙ e;
    on_tup = λ ts e. sym (names_tup ts) ∙ e;
    on_arrow = λ a b e. sym (names_arrow a b) ∙ e;
  }

  pub known_arguments : (name : NameId) (ts : List Ty) → names_known known (ty.Con name ts) ≡ true → known name.0 (length ts) ≡ true
  known_arguments name ts e = (and_parts (known name.0 (length ts)) _ (sym (names_con name ts) ∙ e)).0

  at_types : (f : Ty → Ty) (fields : List Field) → map (λ (field : Field). names_known known field.ty) (map (at_type f) fields) ≡ map (λ field. names_known known (f field.ty)) fields
  at_types f [] = refl
  at_types f (field ∷ fields) = ap (λ rest. names_known known (f field.ty) ∷ rest) (at_types f fields)

  pub names_collect : (f : Ty → Ty) (first : Ty → Bool) → Collects f first (names_known known)
  names_collect f first = record {
    on_rec = λ fields p e. names_rec _ ∙ ap all_true (at_types f fields) ∙ e;
    on_tup = λ ts p e. names_tup _ ∙ ap all_true (map_map (names_known known) f ts) ∙ e;
    on_arrow = λ a b p q. names_arrow _ _ ∙ and_from _ _ p q;
  }

  -- ---- types in place of variables
  in_place : (v : VarId) (by : List Ty) (n : ℕ) → all_true (map (names_known known) by) ≡ true → names_known known (or_variable v (slice_get by n)) ≡ true
  in_place v [] n e = names_var v
  in_place v (t ∷ ts) zero e = (and_parts (names_known known t) _ e).0
  in_place v (t ∷ ts) (suc n) e = in_place v ts n (and_parts (names_known known t) _ e).1

  mapped : (f : Ty → Ty) (ts : List Ty) → all_true (map (λ t. names_known known (f t)) ts) ≡ true → all_true (map (names_known known) (map f ts)) ≡ true
  mapped f ts e = ap all_true (map_map (names_known known) f ts) ∙ e

  pub names_substituted : (by : List Ty) → all_true (map (names_known known) by) ≡ true → (t : Ty) → names_known known t ≡ true → names_known known (substituted by t) ≡ true
  names_substituted by h = passes (substituted by) (names_known known) (names_known known) names_partwise (substituted_inside by) (names_collect (substituted by) (names_known known))
      (λ v e. ap (names_known known) (substituted_var by v) ∙ in_place v by v.n h)
      (λ name ts e k. ap (names_known known) (substituted_con by name ts) ∙ names_con name _
      ∙ and_from _ _ (ap (known name.0) (length-map ts (substituted by)) ∙ known_arguments name ts e) (mapped (substituted by) ts k))

  -- ---- other variables
  pub names_renamed : (r : Renaming) (t : Ty) → names_known known t ≡ true → names_known known (renamed r t) ≡ true
  names_renamed r = passes (renamed r) (names_known known) (names_known known) names_partwise (renamed_inside r) (names_collect (renamed r) (names_known known))
      (λ v e. ap (names_known known) (renamed_var r v) ∙ names_var (r v))
      (λ name ts e k. ap (names_known known) (renamed_con r name ts) ∙ names_con name _
      ∙ and_from _ _ (ap (known name.0) (length-map ts (renamed r)) ∙ known_arguments name ts e) (mapped (renamed r) ts k))

-- ---- other names
module _ (known after : Known) where
  pub names_weaker : ((n count : ℕ) → known n count ≡ true → after n count ≡ true) → (t : Ty) → names_known known t ≡ true → names_known after t ≡ true
  names_weaker more = passes (λ t. t) (names_known known) (names_known after) (names_partwise known) nothing_inside (names_collect after (λ t. t) (names_known known))
      (λ v e. names_var after v)
      (λ name ts e k. names_con after name ts ∙ and_from _ _ (more name.0 (length ts) (known_arguments known name ts e)) k)

  pub names_numbered : (f : ℕ → ℕ) → ((n count : ℕ) → known n count ≡ true → after (f n) count ≡ true) → (t : Ty) → names_known known t ≡ true → names_known after (with_numbers f t) ≡ true
  names_numbered f more = passes (with_numbers f) (names_known known) (names_known after) (names_partwise known) (numbered_inside f) (names_collect after (with_numbers f) (names_known known))
      (λ v e. ap (names_known after) (numbered_var f v) ∙ names_var after v)
      (λ name ts e k. ap (names_known after) (numbered_con f name ts) ∙ names_con after _ _
      ∙ and_from _ _ (ap (after (f name.0)) (length-map ts (with_numbers f)) ∙ more name.0 (length ts) (known_arguments known name ts e)) (mapped after (with_numbers f) ts k))

  pub names_replaced : (r : Realization) → names_known after r.fun.body ≡ true → ((n count : ℕ) → (n == r.name.0) ≡ false → known n count ≡ true → after n count ≡ true)
      → (t : Ty) → names_known known t ≡ true → names_known after (replaced r t) ≡ true
  names_replaced r body more = passes (replaced r) (names_known known) (names_known after) (names_partwise known) (replaced_inside r) (names_collect after (replaced r) (names_known known))
      (λ v e. ap (names_known after) (replaced_var r v) ∙ names_var after v)
      (λ name ts e k. let rest = mapped after (replaced r) ts k in by_cases r (λ t. names_known after t ≡ true) name ts
      (λ same. names_substituted after (map (replaced r) ts) rest r.fun.body body)
      (λ other. names_con after name _ ∙ and_from _ _ (ap (after name.0) (length-map ts (replaced r)) ∙ more name.0 (length ts) other (known_arguments known name ts e)) rest))

-- ---- names of a list
module _ (known : Known) (names : List TypeName) where
  pub names_over : ((n count : ℕ) → known n count ≡ true → takes (slice_get names n) count ≡ true) → (t : Ty) → names_known known t ≡ true → IsOver names t
  names_over more = passes (λ t. t) (names_known known) (is_over names) (names_partwise known) nothing_inside (over_collects (λ t. t) (names_known known) names)
      (λ v e. is_over_var names v)
      (λ name ts e k. is_over_con names name ts ∙ and_from _ _ (more name.0 (length ts) (known_arguments known name ts e)) k)
