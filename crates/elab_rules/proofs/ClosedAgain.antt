-- Schemes that are closed again after names were replaced in them.
use Rattle.std.proofs.Common.{◌≡◌, ℕ, zero, suc, ◌<◌, ◌==◌, ◌&&◌, ◌||◌, nat_lt, Bool, true, false, if◌then◌else◌, List, [], ◌∷◌, length, map, slice_get, refl, sym, ap, ap₂, ◌∙◌, subst, arith}
use Rattle.std.proofs.lemmas.Bool.{and_parts, eqb-true, ltb-true}
use Rattle.std.proofs.lemmas.List.{length-map}
use Rattle.type_core.specs.declared.names.TypeName.{TypeName}
use Rattle.type_core.specs.declared.ty.NameId.{NameId}
use Rattle.type_core.specs.declared.ty.Ty.{Ty}
use Rattle.type_core.specs.declared.ty.Ty.TheVariants as ty
use Rattle.type_core.specs.declared.ty.VarId.{VarId}
use Rattle.type_core.specs.Lists.{all_true}
use Rattle.type_core.specs.Renaming.{IsOneToOne, Renaming, field_renamed, renamed}
use Rattle.type_core.specs.Schemes.{closed, numbered_among}
use Rattle.type_core.specs.Substitution.{VariablesBelow, allows, each_variable, or_variable, substituted}
use Rattle.type_core.specs.TypeFunctions.{applied}
use Rattle.type_core.specs.Types.{IsOver, is_over}
use Rattle.type_core.specs.Variables.{by_first_occurrence, occurs, same_variable, variables}
use Rattle.type_core.proofs.Closed.{closed_renamed}
use Rattle.type_core.proofs.EachVariable.{each_variable_is_listed}
use Rattle.type_core.proofs.Places.{all_met, occurs_here, occurs_later, place_tells, same_is}
use Rattle.type_core.proofs.Trees.{each_variable_var, renamed_arrow, renamed_con, renamed_field, renamed_rec, renamed_tup, renamed_var, substituted_con, substituted_var}
use Rattle.elab_env.specs.declared.realization.Realization.{Realization}
use Rattle.elab_env.specs.Realizations.{replaced, resolved}
use Rattle.elab_env.specs.Sound.{AreRealizations, IsRealization}
use Rattle.elab_env.proofs.Equations.{over_partwise, replaced_con, replaced_inside, replaced_var, substituted_inside, variables_partwise}
use Rattle.elab_env.proofs.Parts.{GoesInside, agree, at_type, both_inside, map_map}
use Rattle.elab_env.proofs.Replacing.{fits, over_replaced, takes_arguments}
use Rattle.elab_env.proofs.Resolved.{resolved_variables}
use Rattle.elab_env.proofs.Equations.{map_same}

module _ (r : Renaming) where
  pub renamed_inside : GoesInside (renamed r)
  renamed_inside = record {
    on_rec = λ fields. renamed_rec r fields ∙ ap ty.Rec (map_same (field_renamed r) (at_type (renamed r)) (renamed_field r) fields);
    on_tup = renamed_tup r;
    on_arrow = renamed_arrow r;
  }

  -- ---- renaming what was put in place of variables
  in_place : (v : VarId) (by : List Ty) (n : ℕ) → n < length by → renamed r (or_variable v (slice_get by n)) ≡ or_variable v (slice_get (map (renamed r) by) n)
  in_place v [] n l = absurd (omega (arith, l))
  in_place v (t ∷ ts) zero l = refl
  in_place v (t ∷ ts) (suc n) l = in_place v ts n (omega (arith, l))

  below_var : (n : ℕ) (v : VarId) → each_variable (allows n true) (ty.Var v) ≡ true → v.n < n
  below_var n v e = ltb-true v.n n (and_parts (nat_lt v.n n) _ (sym (each_variable_var (allows n true) v) ∙ e)).0

  pub renamed_substituted : (by : List Ty) (t : Ty) → VariablesBelow (length by) t → renamed r (substituted by t) ≡ substituted (map (renamed r) by) t
  renamed_substituted by = agree (each_variable (allows (length by) true)) (λ t. renamed r (substituted by t)) (substituted (map (renamed r) by))
      (variables_partwise _) (both_inside (renamed r) (substituted by) renamed_inside (substituted_inside by)) (substituted_inside _)
      (λ v e. ap (renamed r) (substituted_var by v) ∙ in_place v by v.n (below_var (length by) v e) ∙ sym (substituted_var (map (renamed r) by) v))
      (λ name ts e h. ap (renamed r) (substituted_con by name ts) ∙ renamed_con r name _ ∙ ap (ty.Con name) (map_map (renamed r) (substituted by) ts ∙ h) ∙ sym (substituted_con (map (renamed r) by) name ts))

  -- ---- replacing in a renamed type
  pub replaced_renamed : (names : List TypeName) (s : Realization) → IsRealization names s → (t : Ty) → IsOver names t → replaced s (renamed r t) ≡ renamed r (replaced s t)
  replaced_renamed names s is_realization = agree (is_over names) (λ t. replaced s (renamed r t)) (λ t. renamed r (replaced s t)) (over_partwise names)
      (both_inside (replaced s) (renamed r) (replaced_inside s) renamed_inside) (both_inside (renamed r) (replaced s) renamed_inside (replaced_inside s))
      (λ v e. ap (replaced s) (renamed_var r v) ∙ replaced_var s (r v) ∙ sym (ap (renamed r) (replaced_var s v) ∙ renamed_var r v))
      (λ name ts e h. ap (replaced s) (renamed_con r name ts) ∙ replaced_con s name _ ∙ both_sides (name.0 == s.name.0) name ts refl e h ∙ sym (ap (renamed r) (replaced_con s name ts)))
    where
      both_sides : (b : Bool) (name : NameId) (ts : List Ty) → (name.0 == s.name.0) ≡ b → IsOver names (ty.Con name ts) → map (λ t. replaced s (renamed r t)) ts ≡ map (λ t. renamed r (replaced s t)) ts
          → (if b then applied s.fun (map (replaced s) (map (renamed r) ts)) else ty.Con name (map (replaced s) (map (renamed r) ts))) ≡ renamed r (if b then applied s.fun (map (replaced s) ts) else ty.Con name (map (replaced s) ts))
      both_sides true name ts is e h =
          let below = subst (λ n. VariablesBelow n s.fun.body) (sym (length-map ts (replaced s))) (fits names s name.0 (length ts) is_realization (eqb-true name.0 s.name.0 is) (takes_arguments names name ts e)) in
          ap (λ us. substituted us s.fun.body) (map_map (replaced s) (renamed r) ts ∙ h ∙ sym (map_map (renamed r) (replaced s) ts))
          ∙ sym (renamed_substituted (map (replaced s) ts) s.fun.body below)
      both_sides false name ts is e h =
          ap (ty.Con name) (map_map (replaced s) (renamed r) ts ∙ h ∙ sym (map_map (renamed r) (replaced s) ts))
          ∙ sym (renamed_con r name (map (replaced s) ts))

  pub resolved_renamed : (names : List TypeName) (rs : List Realization) (t : Ty) → AreRealizations names rs → IsOver names t → resolved rs (renamed r t) ≡ renamed r (resolved rs t)
  resolved_renamed names [] t h over = refl
  resolved_renamed names (s ∷ rs) t h over =
      ap (resolved rs) (replaced_renamed names s h.0 t over)
      ∙ resolved_renamed names rs (replaced s t) h.1 (over_replaced s names h.0 t over)

-- ---- the variables of a resolved type are among those of the type
listed_all : (is : VarId → Bool) (vs : List VarId) → ((v : VarId) → occurs v vs ≡ true → is v ≡ true) → all_true (map is vs) ≡ true
listed_all is [] each = refl
listed_all is (v ∷ vs) each = ap₂ ◌&&◌ (each v (occurs_here v vs)) (listed_all is vs (λ w o. each w (occurs_later w v vs o)))

listed_one : (is : VarId → Bool) (vs : List VarId) (v : VarId) → all_true (map is vs) ≡ true → occurs v vs ≡ true → is v ≡ true
listed_one is [] v all o = cc
listed_one is (w ∷ vs) v all o = by_case (λ later. listed_one is vs v (and_parts (is w) _ all).1 later) (same_variable v w) refl o
  where
    by_case : (occurs v vs ≡ true → is v ≡ true) → (b : Bool) → same_variable v w ≡ b → (b || occurs v vs) ≡ true → is v ≡ true
    by_case among true same o = ap is (same_is v w same) ∙ (and_parts (is w) _ all).0
    by_case among false differs o = among o

pub resolved_occurs : (names : List TypeName) (rs : List Realization) (t : Ty) (v : VarId) → AreRealizations names rs → IsOver names t → occurs v (variables (resolved rs t)) ≡ true → occurs v (variables t) ≡ true
resolved_occurs names rs t v h over o =
    let is : VarId → Bool = λ w. occurs w (variables t) in
    let all : each_variable is t ≡ true = each_variable_is_listed is t ∙ listed_all is (variables t) (λ w e. e) in
    listed_one is (variables (resolved rs t)) v (sym (each_variable_is_listed is (resolved rs t)) ∙ resolved_variables names rs is t h over all) o

numbering_is_one_to_one : (t : Ty) → IsOneToOne (numbered_among (by_first_occurrence t)) (variables t)
numbering_is_one_to_one t v w o p e = place_tells v w (by_first_occurrence t) (all_met [] (variables t) v o) (ap (λ (z : VarId). z.n) e)

-- resolving what was closed before, and closing it again, is to resolve and to close
pub closed_again : (names : List TypeName) (rs : List Realization) (t : Ty) → AreRealizations names rs → IsOver names t → closed (resolved rs (closed t).body) ≡ closed (resolved rs t)
closed_again names rs t h over =
    let r = numbered_among (by_first_occurrence t) in
    ap closed (resolved_renamed r names rs t h over)
    ∙ closed_renamed r (resolved rs t)
    (λ v w o p e. numbering_is_one_to_one t v w (resolved_occurs names rs t v h over o) (resolved_occurs names rs t w h over p) e)
    (λ v o. refl)
