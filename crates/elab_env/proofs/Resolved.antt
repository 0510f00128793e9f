-- What resolving is at each variant, and what it keeps.
use Rattle.std.proofs.Common.{◌≡◌, ℕ, ◌==◌, Bool, true, false, true≢false, if◌then◌else◌, IsTrue, List, [], ◌∷◌, ◌++◌, map, refl, sym, ap, ◌∙◌}
use Rattle.std.proofs.lemmas.Bool.{or_parts}
use Rattle.std.specs.List.{AllByRecursion}
use Rattle.type_core.specs.declared.ty.VarId.{VarId}
use Rattle.type_core.specs.declared.ty.NameId.{NameId}
use Rattle.type_core.specs.declared.ty.Ty.{Ty}
use Rattle.type_core.specs.declared.ty.Field.{Field}
use Rattle.type_core.specs.declared.ty.Ty.TheVariants as ty
use Rattle.type_core.specs.declared.names.TypeName.{TypeName}
use Rattle.type_core.specs.Substitution.{each_variable, substituted}
use Rattle.type_core.specs.Types.{IsOver, IsType}
use Rattle.elab_env.specs.declared.realization.Realization.{Realization}
use Rattle.elab_env.specs.Avoids.{Avoids}
use Rattle.elab_env.specs.Realizations.{field_resolved, replaced, resolved}
use Rattle.elab_env.specs.Sound.{AreRealizations, AreSettled, IsResolved}
use Rattle.elab_env.specs.Table.{is_realized}
use Rattle.elab_env.proofs.Parts.{at_type, map_map}
use Rattle.elab_env.proofs.Equations.{replaced_con, replaced_inside, replaced_var}
use Rattle.elab_env.proofs.Replacing.{avoids_replaced, over_replaced, replaced_substituted, still_avoids, type_replaced, untouched, variables_replaced}

same_types : (ts : List Ty) → map (resolved []) ts ≡ ts
same_types [] = refl
same_types (t ∷ ts) = ap (λ rest. t ∷ rest) (same_types ts)

same_fields : (fields : List Field) → map (field_resolved []) fields ≡ fields
same_fields [] = refl
same_fields (field ∷ fields) = ap (λ rest. field ∷ rest) (same_fields fields)

-- ---- one realization more
pub resolved_more : (rs : List Realization) (r : Realization) (t : Ty) → resolved (rs ++ r ∷ []) t ≡ replaced r (resolved rs t)
resolved_more [] r t = refl
resolved_more (s ∷ rs) r t = resolved_more rs r (replaced s t)

-- ---- the variants
pub resolved_var : (rs : List Realization) (v : VarId) → resolved rs (ty.Var v) ≡ ty.Var v
resolved_var [] v = refl
resolved_var (r ∷ rs) v = ap (resolved rs) (replaced_var r v) ∙ resolved_var rs v

pub resolved_rec : (rs : List Realization) (fields : List Field) → resolved rs (ty.Rec fields) ≡ ty.Rec (map (field_resolved rs) fields)
resolved_rec [] fields = sym (ap ty.Rec (same_fields fields))
resolved_rec (r ∷ rs) fields = ap (resolved rs) ((replaced_inside r).on_rec fields) ∙ resolved_rec rs _ ∙ ap ty.Rec (map_map (field_resolved rs) (at_type (replaced r)) fields)

pub resolved_tup : (rs : List Realization) (ts : List Ty) → resolved rs (ty.Tup ts) ≡ ty.Tup (map (resolved rs) ts)
resolved_tup [] ts = sym (ap ty.Tup (same_types ts))
resolved_tup (r ∷ rs) ts = ap (resolved rs) ((replaced_inside r).on_tup ts) ∙ resolved_tup rs _ ∙ ap ty.Tup (map_map (resolved rs) (replaced r) ts)

pub resolved_arrow : (rs : List Realization) (a b : Ty) → resolved rs (ty.Arrow a b) ≡ ty.Arrow (resolved rs a) (resolved rs b)
resolved_arrow [] a b = refl
resolved_arrow (r ∷ rs) a b = ap (resolved rs) ((replaced_inside r).on_arrow a b) ∙ resolved_arrow rs _ _

other_name : (b : Bool) (t u : Ty) → b ≡ false → (if b then t else u) ≡ u
other_name true t u e = absurd (true≢false e)
other_name false t u e = refl

pub resolved_other : (rs : List Realization) (name : NameId) (ts : List Ty) → is_realized rs name.0 ≡ false → resolved rs (ty.Con name ts) ≡ ty.Con name (map (resolved rs) ts)
resolved_other [] name ts e = sym (ap (ty.Con name) (same_types ts))
resolved_other (r ∷ rs) name ts e =
    let p = or_parts (name.0 == r.name.0) (is_realized rs name.0) e in
    ap (resolved rs) (replaced_con r name ts ∙ other_name (name.0 == r.name.0) _ _ p.0)
    ∙ resolved_other rs name _ p.1
    ∙ ap (ty.Con name) (map_map (resolved rs) (replaced r) ts)

-- ---- substitution
pub resolved_substituted : (names : List TypeName) (rs : List Realization) (by : List Ty) (t : Ty) → AreRealizations names rs → IsOver names t → resolved rs (substituted by t) ≡ substituted (map (resolved rs) by) (resolved rs t)
resolved_substituted names [] by t h over = sym (ap (λ us. substituted us t) (same_types by))
resolved_substituted names (r ∷ rs) by t h over =
    ap (resolved rs) (replaced_substituted r names h.0 by t over)
    ∙ resolved_substituted names rs (map (replaced r) by) (replaced r t) h.1 (over_replaced r names h.0 t over)
    ∙ ap (λ us. substituted us (resolved rs (replaced r t))) (map_map (resolved rs) (replaced r) by)

-- ---- what resolving keeps
pub resolved_over : (names : List TypeName) (rs : List Realization) (t : Ty) → AreRealizations names rs → IsOver names t → IsOver names (resolved rs t)
resolved_over names [] t h over = over
resolved_over names (r ∷ rs) t h over = resolved_over names rs (replaced r t) h.1 (over_replaced r names h.0 t over)

pub resolved_type : (names : List TypeName) (rs : List Realization) (t : Ty) → AreRealizations names rs → IsType t → IsType (resolved rs t)
resolved_type names [] t h is = is
resolved_type names (r ∷ rs) t h is = resolved_type names rs (replaced r t) h.1 (type_replaced r h.0.body.is_type t is)

pub resolved_variables : (names : List TypeName) (rs : List Realization) (is : VarId → Bool) (t : Ty) → AreRealizations names rs → IsOver names t → IsTrue (each_variable is t) → IsTrue (each_variable is (resolved rs t))
resolved_variables names [] is t h over each = each
resolved_variables names (r ∷ rs) is t h over each = resolved_variables names rs is (replaced r t) h.1 (over_replaced r names h.0 t over) (variables_replaced r names h.0 is t over each)

-- ---- no realized name is left
pub resolved_avoids : (n : ℕ) (rs : List Realization) (t : Ty) → AllByRecursion (λ r. Avoids n r.fun.body) rs → Avoids n t → Avoids n (resolved rs t)
resolved_avoids n [] t h a = a
resolved_avoids n (r ∷ rs) t h a = resolved_avoids n rs (replaced r t) h.1 (still_avoids r n h.0 t a)

pub resolved_is_resolved : (rs : List Realization) (t : Ty) → AreSettled rs → IsResolved rs (resolved rs t)
resolved_is_resolved [] t h = tt
resolved_is_resolved (r ∷ rs) t h = (resolved_avoids r.name.0 rs (replaced r t) h.0.1 (avoids_replaced r h.0.0 t), resolved_is_resolved rs (replaced r t) h.1)

pub resolved_again : (rs : List Realization) (t : Ty) → IsResolved rs t → resolved rs t ≡ t
resolved_again [] t h = refl
resolved_again (r ∷ rs) t h = ap (resolved rs) (untouched r t h.0) ∙ resolved_again rs t h.1
