-- Replacing commutes with substitution, and what it keeps.
use Rattle.std.proofs.Common.{◌≡◌, ℕ, zero, suc, ◌<◌, ◌==◌, ◌&&◌, Bool, true, false, true≢false, not, nat_lt, if◌then◌else◌, IsTrue, List, [], ◌∷◌, length, map, slice_get, Option, Some, None, refl, sym, ap, ◌∙◌, subst, arith}
use Rattle.std.proofs.lemmas.Bool.{and_parts, and_from, eqb-true, ltb-true}
use Rattle.std.proofs.lemmas.List.{length-map}
use Rattle.type_core.specs.declared.ty.VarId.{VarId}
use Rattle.type_core.specs.declared.ty.NameId.{NameId}
use Rattle.type_core.specs.declared.ty.Ty.{Ty}
use Rattle.type_core.specs.declared.ty.Ty.TheVariants as ty
use Rattle.type_core.specs.declared.names.TypeName.{TypeName}
use Rattle.type_core.specs.declared.type_fn.TypeFn.{TypeFn}
use Rattle.type_core.specs.Lists.{all_true}
use Rattle.type_core.specs.Substitution.{VariablesBelow, allows, each_variable, or_variable, substituted}
use Rattle.type_core.specs.TypeFunctions.{IsTypeFn, applied}
use Rattle.type_core.specs.Types.{IsOver, IsType, is_over, is_type, takes}
use Rattle.type_core.proofs.Trees.{each_variable_var, each_variable_con, substituted_var, substituted_con}
use Rattle.type_core.proofs.TypeTests.{is_over_var, is_over_con, is_type_var, is_type_con}
use Rattle.elab_env.specs.declared.realization.Realization.{Realization}
use Rattle.elab_env.specs.Avoids.{Avoids, avoids}
use Rattle.elab_env.specs.Realizations.{replaced}
use Rattle.elab_env.specs.Sound.{IsRealization}
use Rattle.elab_env.proofs.Parts.{agree, passes, map_map, anything_partwise, both_inside, both_partwise, nothing_inside}
use Rattle.elab_env.proofs.Equations.{avoids_collects, avoids_con, avoids_partwise, avoids_var, over_collects, over_partwise, replaced_con, replaced_inside, replaced_var, substituted_inside, type_collects, type_partwise, variables_collect, variables_partwise}

-- ---- what stands in a variable's place
pub in_place_mapped : (f : Ty → Ty) (v : VarId) → f (ty.Var v) ≡ ty.Var v → (by : List Ty) (n : ℕ) → f (or_variable v (slice_get by n)) ≡ or_variable v (slice_get (map f by) n)
in_place_mapped f v e [] n = e
in_place_mapped f v e (t ∷ ts) zero = refl
in_place_mapped f v e (t ∷ ts) (suc n) = in_place_mapped f v e ts n

in_place_within : (f : Ty → Ty) (v : VarId) (by : List Ty) (n : ℕ) → n < length by → f (or_variable v (slice_get by n)) ≡ or_variable v (slice_get (map f by) n)
in_place_within f v [] n l = absurd (omega (arith, l))
in_place_within f v (t ∷ ts) zero l = refl
in_place_within f v (t ∷ ts) (suc n) l = in_place_within f v ts n (omega (arith, l))

in_place_passes : (test : Ty → Bool) (v : VarId) (by : List Ty) (n : ℕ) → all_true (map test by) ≡ true → (n < length by → test (ty.Var v) ≡ true) → test (ty.Var v) ≡ true → test (or_variable v (slice_get by n)) ≡ true
in_place_passes test v [] n e l p = p
in_place_passes test v (t ∷ ts) zero e l p = (and_parts (test t) _ e).0
in_place_passes test v (t ∷ ts) (suc n) e l p = in_place_passes test v ts n (and_parts (test t) _ e).1 (λ _. p) p

in_place_among : (test : Ty → Bool) (v : VarId) (by : List Ty) (n : ℕ) → all_true (map test by) ≡ true → n < length by → test (or_variable v (slice_get by n)) ≡ true
in_place_among test v [] n e l = absurd (omega (arith, l))
in_place_among test v (t ∷ ts) zero e l = (and_parts (test t) _ e).0
in_place_among test v (t ∷ ts) (suc n) e l = in_place_among test v ts n (and_parts (test t) _ e).1 (omega (arith, l))

below : (n : ℕ) (v : VarId) → allows n true v ≡ true → v.n < n
below n v e = ltb-true v.n n (and_parts (nat_lt v.n n) _ e).0

below_var : (n : ℕ) (v : VarId) → each_variable (allows n true) (ty.Var v) ≡ true → v.n < n
below_var n v e = below n v (sym (each_variable_var (allows n true) v) ∙ e)

-- ---- substituting twice
pub substituted_substituted : (xs by : List Ty) (t : Ty) → VariablesBelow (length by) t → substituted xs (substituted by t) ≡ substituted (map (substituted xs) by) t
substituted_substituted xs by = agree (each_variable (allows (length by) true)) (λ t. substituted xs (substituted by t)) (substituted (map (substituted xs) by))
    (variables_partwise _) (both_inside (substituted xs) (substituted by) (substituted_inside xs) (substituted_inside by)) (substituted_inside _)
    (λ v e. ap (substituted xs) (substituted_var by v) ∙ in_place_within (substituted xs) v by v.n (below_var (length by) v e) ∙ sym (substituted_var (map (substituted xs) by) v))
    (λ name ts e h. ap (substituted xs) (substituted_con by name ts) ∙ substituted_con xs name _ ∙ ap (ty.Con name) (map_map (substituted xs) (substituted by) ts ∙ h) ∙ sym (substituted_con (map (substituted xs) by) name ts))

-- ---- what substitution keeps
passes_mapped : (test : Ty → Bool) (f : Ty → Ty) (ts : List Ty) → all_true (map (λ t. test (f t)) ts) ≡ true → all_true (map test (map f ts)) ≡ true
passes_mapped test f ts e = ap all_true (map_map test f ts) ∙ e

module _ (by : List Ty) where
  pub over_substituted : (names : List TypeName) → all_true (map (is_over names) by) ≡ true → (t : Ty) → IsOver names t → IsOver names (substituted by t)
  over_substituted names h = passes (substituted by) (is_over names) (is_over names) (over_partwise names) (substituted_inside by) (over_collects (substituted by) (is_over names) names)
      (λ v e. ap (is_over names) (substituted_var by v) ∙ in_place_passes (is_over names) v by v.n h (λ _. is_over_var names v) (is_over_var names v))
      (λ name ts e k. let p = and_parts (takes (slice_get names name.0) (length ts)) _ (sym (is_over_con names name ts) ∙ e) in
      ap (is_over names) (substituted_con by name ts) ∙ is_over_con names name _ ∙ and_from _ _ (ap (takes (slice_get names name.0)) (length-map ts (substituted by)) ∙ p.0) (passes_mapped (is_over names) (substituted by) ts k))

  pub type_substituted : all_true (map is_type by) ≡ true → (t : Ty) → IsType t → IsType (substituted by t)
  type_substituted h = passes (substituted by) is_type is_type type_partwise (substituted_inside by) (type_collects (substituted by))
      (λ v e. ap is_type (substituted_var by v) ∙ in_place_passes is_type v by v.n h (λ _. is_type_var v) (is_type_var v))
      (λ name ts e k. ap is_type (substituted_con by name ts) ∙ is_type_con name _ ∙ passes_mapped is_type (substituted by) ts k)

  pub variables_substituted : (is : VarId → Bool) → all_true (map (each_variable is) by) ≡ true → (t : Ty) → VariablesBelow (length by) t → IsTrue (each_variable is (substituted by t))
  variables_substituted is h = passes (substituted by) (each_variable (allows (length by) true)) (each_variable is) (variables_partwise _) (substituted_inside by) (variables_collect (substituted by) _ is)
      (λ v e. ap (each_variable is) (substituted_var by v) ∙ in_place_among (each_variable is) v by v.n h (below_var (length by) v e))
      (λ name ts e k. ap (each_variable is) (substituted_con by name ts) ∙ each_variable_con is name _ ∙ passes_mapped (each_variable is) (substituted by) ts k)

  pub avoids_substituted : (n : ℕ) → all_true (map (avoids n) by) ≡ true → (t : Ty) → Avoids n t → Avoids n (substituted by t)
  avoids_substituted n h = passes (substituted by) (avoids n) (avoids n) (avoids_partwise n) (substituted_inside by) (avoids_collects (substituted by) (avoids n) n)
      (λ v e. ap (avoids n) (substituted_var by v) ∙ in_place_passes (avoids n) v by v.n h (λ _. avoids_var n v) (avoids_var n v))
      (λ name ts e k. ap (avoids n) (substituted_con by name ts) ∙ avoids_con n name _ ∙ and_from _ _ (and_parts (not (name.0 == n)) _ (sym (avoids_con n name ts) ∙ e)).0 (passes_mapped (avoids n) (substituted by) ts k))

-- ---- a type function's variables are its parameters
without_mark : (n : ℕ) (v : VarId) → allows n false v ≡ true → allows n true v ≡ true
without_mark n v e = and_from (nat_lt v.n n) _ (and_parts (nat_lt v.n n) _ e).0 (any_mark v.eq)
  where
    any_mark : (mark : Bool) → (if mark then true else true) ≡ true
    any_mark true = refl
    any_mark false = refl

more_variables : (first second : VarId → Bool) → ((v : VarId) → first v ≡ true → second v ≡ true) → (t : Ty) → IsTrue (each_variable first t) → IsTrue (each_variable second t)
more_variables first second h = passes (λ t. t) (each_variable first) (each_variable second) (variables_partwise first) nothing_inside (variables_collect (λ t. t) _ second)
    (λ v e. each_variable_var second v ∙ h v (sym (each_variable_var first v) ∙ e))
    (λ name ts e k. each_variable_con second name ts ∙ k)

pub parameters_below : (f : TypeFn) → IsTypeFn f → VariablesBelow f.arity f.body
parameters_below f = more_variables (allows f.arity false) (allows f.arity true) (without_mark f.arity) f.body

-- ---- an application of the realized name has as many arguments as the type function has parameters
pub one_arity : (o : Option TypeName) (m n : ℕ) → takes o m ≡ true → takes o n ≡ true → m ≡ n
one_arity None m n p q = absurd (true≢false (sym p))
one_arity (Some name) m n p q = sym (eqb-true name.arity m p) ∙ eqb-true name.arity n q

pub takes_arguments : (names : List TypeName) (name : NameId) (ts : List Ty) → IsOver names (ty.Con name ts) → takes (slice_get names name.0) (length ts) ≡ true
takes_arguments names name ts e = (and_parts (takes (slice_get names name.0) (length ts)) _ (sym (is_over_con names name ts) ∙ e)).0

pub arguments_over : (names : List TypeName) (name : NameId) (ts : List Ty) → IsOver names (ty.Con name ts) → all_true (map (is_over names) ts) ≡ true
arguments_over names name ts e = (and_parts (takes (slice_get names name.0) (length ts)) _ (sym (is_over_con names name ts) ∙ e)).1

pub fits : (names : List TypeName) (r : Realization) (n count : ℕ) → IsRealization names r → n ≡ r.name.0 → takes (slice_get names n) count ≡ true → VariablesBelow count r.fun.body
fits names r n count h same e = subst (λ m. VariablesBelow m r.fun.body) (one_arity (slice_get names r.name.0) r.fun.arity count h.arity (subst (λ m. takes (slice_get names m) count ≡ true) same e)) (parameters_below r.fun h.function)

-- ---- replacing
module _ (r : Realization) where
  -- an application after replacing, in each of its cases
  pub by_cases : (P : Ty → Type 0) (name : NameId) (ts : List Ty) → (name.0 ≡ r.name.0 → P (substituted (map (replaced r) ts) r.fun.body)) → ((name.0 == r.name.0) ≡ false → P (ty.Con name (map (replaced r) ts))) → P (replaced r (ty.Con name ts))
  by_cases P name ts one other = subst P (sym (replaced_con r name ts)) (cases (name.0 == r.name.0) refl)
    where
      cases : (b : Bool) → (name.0 == r.name.0) ≡ b → P (if b then applied r.fun (map (replaced r) ts) else ty.Con name (map (replaced r) ts))
      cases true e = one (eqb-true name.0 r.name.0 e)
      cases false e = other e

  pub over_replaced : (names : List TypeName) → IsRealization names r → (t : Ty) → IsOver names t → IsOver names (replaced r t)
  over_replaced names h = passes (replaced r) (is_over names) (is_over names) (over_partwise names) (replaced_inside r) (over_collects (replaced r) (is_over names) names)
      (λ v e. ap (is_over names) (replaced_var r v) ∙ is_over_var names v)
      (λ name ts e k. let over = passes_mapped (is_over names) (replaced r) ts k in by_cases (IsOver names) name ts
      (λ same. over_substituted (map (replaced r) ts) names over r.fun.body h.body.over)
      (λ other. is_over_con names name _ ∙ and_from _ _ (ap (takes (slice_get names name.0)) (length-map ts (replaced r)) ∙ takes_arguments names name ts e) over))

  pub type_replaced : IsType r.fun.body → (t : Ty) → IsType t → IsType (replaced r t)
  type_replaced h = passes (replaced r) is_type is_type type_partwise (replaced_inside r) (type_collects (replaced r))
      (λ v e. ap is_type (replaced_var r v) ∙ is_type_var v)
      (λ name ts e k. let types = passes_mapped is_type (replaced r) ts k in by_cases IsType name ts
      (λ same. type_substituted (map (replaced r) ts) types r.fun.body h)
      (λ other. is_type_con name _ ∙ types))

  -- the realized name is gone
  pub avoids_replaced : Avoids r.name.0 r.fun.body → (t : Ty) → Avoids r.name.0 (replaced r t)
  avoids_replaced h t = passes (replaced r) (λ t. true) (avoids r.name.0) anything_partwise (replaced_inside r) (avoids_collects (replaced r) _ r.name.0)
      (λ v e. ap (avoids r.name.0) (replaced_var r v) ∙ avoids_var r.name.0 v)
      (λ name ts e k. let rest = passes_mapped (avoids r.name.0) (replaced r) ts k in by_cases (Avoids r.name.0) name ts
      (λ same. avoids_substituted (map (replaced r) ts) r.name.0 rest r.fun.body h)
      (λ other. avoids_con r.name.0 name _ ∙ and_from _ _ (ap not other) rest))
      t refl

  -- a name that neither stood there nor stands in the body doesn't stand there now
  pub still_avoids : (n : ℕ) → Avoids n r.fun.body → (t : Ty) → Avoids n t → Avoids n (replaced r t)
  still_avoids n h = passes (replaced r) (avoids n) (avoids n) (avoids_partwise n) (replaced_inside r) (avoids_collects (replaced r) (avoids n) n)
      (λ v e. ap (avoids n) (replaced_var r v) ∙ avoids_var n v)
      (λ name ts e k. let rest = passes_mapped (avoids n) (replaced r) ts k in by_cases (Avoids n) name ts
      (λ same. avoids_substituted (map (replaced r) ts) n rest r.fun.body h)
      (λ other. avoids_con n name _ ∙ and_from _ _ (and_parts (not (name.0 == n)) _ (sym (avoids_con n name ts) ∙ e)).0 rest))

  -- a type in which the name doesn't stand stays
  pub untouched : (t : Ty) → Avoids r.name.0 t → replaced r t ≡ t
  untouched = agree (avoids r.name.0) (replaced r) (λ t. t) (avoids_partwise r.name.0) (replaced_inside r) nothing_inside
      (λ v e. replaced_var r v)
      (λ name ts e h. replaced_con r name ts ∙ other_name (name.0 == r.name.0) _ _ _ _ (and_parts _ (all_true (map (avoids r.name.0) ts)) (sym (avoids_con r.name.0 name ts) ∙ e)).0 (h ∙ sym (same_types ts)))
    where
      same_types : (ts : List Ty) → ts ≡ map (λ (t : Ty). t) ts
      same_types [] = refl
      same_types (t ∷ ts) = ap (λ rest. t ∷ rest) (same_types ts)

      other_name : (b : Bool) (t : Ty) (name : NameId) (us ts : List Ty) → not b ≡ true → us ≡ ts → (if b then t else ty.Con name us) ≡ ty.Con name ts
      other_name true t name us ts e h = absurd (true≢false (sym e))
      other_name false t name us ts e h = ap (ty.Con name) h

  module _ (names : List TypeName) (is_realization : IsRealization names r) where
    pub variables_replaced : (is : VarId → Bool) (t : Ty) → IsOver names t → IsTrue (each_variable is t) → IsTrue (each_variable is (replaced r t))
    variables_replaced is t over each = passes (replaced r) (λ t. is_over names t && each_variable is t) (each_variable is) (both_partwise _ _ (over_partwise names) (variables_partwise is)) (replaced_inside r) (variables_collect (replaced r) _ is)
        (λ v e. ap (each_variable is) (replaced_var r v) ∙ (and_parts (is_over names (ty.Var v)) _ e).1)
        (λ name ts e k. let rest = passes_mapped (each_variable is) (replaced r) ts k in by_cases (λ t. IsTrue (each_variable is t)) name ts
        (λ same. variables_substituted (map (replaced r) ts) is rest r.fun.body (subst (λ n. VariablesBelow n r.fun.body) (sym (length-map ts (replaced r))) (fits names r name.0 (length ts) is_realization same (takes_arguments names name ts (and_parts (is_over names (ty.Con name ts)) _ e).0))))
        (λ other. each_variable_con is name _ ∙ rest))
        t (and_from _ _ over each)

    -- replacing within a type with others in place of its variables
    pub replaced_substituted : (by : List Ty) (t : Ty) → IsOver names t → replaced r (substituted by t) ≡ substituted (map (replaced r) by) (replaced r t)
    replaced_substituted by = agree (is_over names) (λ t. replaced r (substituted by t)) (λ t. substituted (map (replaced r) by) (replaced r t)) (over_partwise names)
        (both_inside (replaced r) (substituted by) (replaced_inside r) (substituted_inside by)) (both_inside (substituted _) (replaced r) (substituted_inside _) (replaced_inside r))
        (λ v e. ap (replaced r) (substituted_var by v) ∙ in_place_mapped (replaced r) v (replaced_var r v) by v.n ∙ sym (ap (substituted (map (replaced r) by)) (replaced_var r v) ∙ substituted_var (map (replaced r) by) v))
        (λ name ts e h. ap (replaced r) (substituted_con by name ts) ∙ replaced_con r name _ ∙ both_sides (name.0 == r.name.0) name ts refl e h ∙ sym (ap (substituted (map (replaced r) by)) (replaced_con r name ts)))
      where
        both_sides : (b : Bool) (name : NameId) (ts : List Ty) → (name.0 == r.name.0) ≡ b → IsOver names (ty.Con name ts) → map (λ t. replaced r (substituted by t)) ts ≡ map (λ t. substituted (map (replaced r) by) (replaced r t)) ts
            → (if b then applied r.fun (map (replaced r) (map (substituted by) ts)) else ty.Con name (map (replaced r) (map (substituted by) ts))) ≡ substituted (map (replaced r) by) (if b then applied r.fun (map (replaced r) ts) else ty.Con name (map (replaced r) ts))
        both_sides true name ts is e h =
            let below = subst (λ n. VariablesBelow n r.fun.body) (sym (length-map ts (replaced r))) (fits names r name.0 (length ts) is_realization (eqb-true name.0 r.name.0 is) (takes_arguments names name ts e)) in
            ap (λ us. substituted us r.fun.body) (map_map (replaced r) (substituted by) ts ∙ h ∙ sym (map_map (substituted (map (replaced r) by)) (replaced r) ts))
            ∙ sym (substituted_substituted (map (replaced r) by) (map (replaced r) ts) r.fun.body below)
        both_sides false name ts is e h =
            ap (ty.Con name) (map_map (replaced r) (substituted by) ts ∙ h ∙ sym (map_map (substituted (map (replaced r) by)) (replaced r) ts))
            ∙ sym (substituted_con (map (replaced r) by) name (map (replaced r) ts))
