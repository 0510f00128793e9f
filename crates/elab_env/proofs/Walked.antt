-- What is made of a type's parts by its walk, and how much less there is to do in them.
use Rattle.std.proofs.Common.{◌≡◌, ℕ, zero, suc, ◌+◌, ◌-◌, ◌<◌, ◌≤◌, Bool, true, IsTrue, List, [], ◌∷◌, ◌++◌, length, drop, take, map, get_or, slice_get, Option, refl, sym, ap, ap₂, ◌∙◌, subst, arith}
use Rattle.std.proofs.lemmas.Bool.{and_parts}
use Rattle.std.proofs.lemmas.List.{length-map, take_more}
use Rattle.type_core.specs.declared.ty.VarId.{VarId}
use Rattle.type_core.specs.declared.ty.NameId.{NameId}
use Rattle.type_core.specs.declared.ty.Ty.{Ty}
use Rattle.type_core.specs.declared.ty.Field.{Field}
use Rattle.type_core.specs.declared.ty.Ty.TheVariants as ty
use Rattle.type_core.specs.declared.ty.Ty.TheVariants.{rolls-Var, rolls-Rec, rolls-Tup, rolls-Arrow}
use Rattle.type_core.specs.declared.ty.Ty.TheFolds.{fold-Field, fold-roll-Ty, fold-roll-Field}
use Rattle.type_core.specs.declared.names.TypeName.{TypeName}
use Rattle.type_core.specs.Lists.{all_true, sum_of}
use Rattle.type_core.specs.Types.{IsOver, is_over, takes}
use Rattle.type_core.proofs.Trees.{induct_type}
use Rattle.elab_env.specs.declared.realization.Realization.{Realization}
use Rattle.elab_env.specs.Meaning.{IsFollowed, meant, meant_at, weigh_field_step, weigh_step, weighed}
use Rattle.elab_env.specs.Realizations.{field_resolved, resolved}
use Rattle.elab_env.specs.Sound.{AreRealizations}
use Rattle.elab_env.proofs.Meant.{later_realizations, resolved_con, weighed_con}
use Rattle.elab_env.proofs.Equations.{over_partwise}
use Rattle.elab_env.proofs.Replacing.{arguments_over, takes_arguments}
use Rattle.elab_env.proofs.Resolved.{resolved_arrow, resolved_rec, resolved_tup, resolved_var}

-- ---- the variants, as code meets them
module _ (rs : List Realization) (t : Ty) where
  pub walked_var : (v : VarId) → t ≡ ty.Var v → ty.Var v ≡ resolved rs t
  walked_var v e = sym (ap (resolved rs) e ∙ resolved_var rs v)

  pub walked_rec : (fields done : List Field) → t ≡ ty.Rec fields → done ≡ map (field_resolved rs) fields → ty.Rec done ≡ resolved rs t
  walked_rec fields done e d = ap ty.Rec d ∙ sym (ap (resolved rs) e ∙ resolved_rec rs fields)

  pub walked_tup : (ts done : List Ty) → t ≡ ty.Tup ts → done ≡ map (resolved rs) ts → ty.Tup done ≡ resolved rs t
  walked_tup ts done e d = ap ty.Tup d ∙ sym (ap (resolved rs) e ∙ resolved_tup rs ts)

  pub walked_arrow : (a b p q : Ty) → t ≡ ty.Arrow a b → p ≡ resolved rs a → q ≡ resolved rs b → ty.Arrow p q ≡ resolved rs t
  walked_arrow a b p q e d f = ap₂ ty.Arrow d f ∙ sym (ap (resolved rs) e ∙ resolved_arrow rs a b)

pub walked_con : (names : List TypeName) (rs : List Realization) (from : ℕ) (t : Ty) (name last : NameId) (ts done : List Ty) (place : Option ℕ) → AreRealizations names rs → IsOver names t → t ≡ ty.Con name ts
    → done ≡ map (resolved (drop from rs)) ts → IsFollowed names rs name last from place → meant_at rs last place done ≡ resolved (drop from rs) t
walked_con names rs from t name last ts done place are over e d followed =
    let over_con : IsOver names (ty.Con name ts) = subst (IsOver names) e over in
    let count : length done ≡ length ts = ap length d ∙ length-map ts (resolved (drop from rs)) in
    sym (followed.means done (ap (takes (slice_get names name.0)) count ∙ takes_arguments names name ts over_con))
    ∙ ap (meant (drop from rs) name) d
    ∙ sym (ap (resolved (drop from rs)) e ∙ resolved_con names (drop from rs) name ts (later_realizations names from rs are) over_con)

-- ---- what an application's arguments number
pub takes_done : (names : List TypeName) (t : Ty) (name : NameId) (ts done : List Ty) → IsOver names t → t ≡ ty.Con name ts → length done ≡ length ts → IsTrue (takes (slice_get names name.0) (length done))
takes_done names t name ts done over e count = ap (takes (slice_get names name.0)) count ∙ takes_arguments names name ts (subst (IsOver names) e over)

-- ---- weights
module _ (w : ℕ → ℕ) where
  field_weighed : (field : Field) → fold-Field ℕ ℕ (weigh_step w) weigh_field_step field ≡ weighed w field.ty
  field_weighed field = fold-roll-Field _ _ (weigh_step w) weigh_field_step (record { label = field.label; ty = field.ty })

  fields_weighed : (fields : List Field) → map (fold-Field ℕ ℕ (weigh_step w) weigh_field_step) fields ≡ map (λ field. weighed w field.ty) fields
  fields_weighed [] = refl
  fields_weighed (field ∷ fields) = ap₂ ◌∷◌ (field_weighed field) (fields_weighed fields)

  weighed_rec : (fields : List Field) → weighed w (ty.Rec fields) ≡ 1 + sum_of (map (λ field. weighed w field.ty) fields)
  weighed_rec fields = ap (weighed w) (sym (rolls-Rec fields)) ∙ fold-roll-Ty _ _ (weigh_step w) weigh_field_step _ ∙ ap (λ ns. 1 + sum_of ns) (fields_weighed fields)

  weighed_tup : (ts : List Ty) → weighed w (ty.Tup ts) ≡ 1 + sum_of (map (weighed w) ts)
  weighed_tup ts = ap (weighed w) (sym (rolls-Tup ts)) ∙ fold-roll-Ty _ _ (weigh_step w) weigh_field_step _

  weighed_arrow : (a b : Ty) → weighed w (ty.Arrow a b) ≡ 1 + (weighed w a + weighed w b)
  weighed_arrow a b = ap (weighed w) (sym (rolls-Arrow a b)) ∙ fold-roll-Ty _ _ (weigh_step w) weigh_field_step _

  pub arguments_weigh : (t : Ty) (name : NameId) (ts parts : List Ty) → t ≡ ty.Con name ts → parts ≡ ts → 1 + sum_of (map (weighed w) parts) ≤ weighed w t
  arguments_weigh t name ts parts e p =
      let all : weighed w t ≡ 1 + (w name.0 + sum_of (map (weighed w) ts)) = ap (weighed w) e ∙ weighed_con w name ts in
      let same : sum_of (map (weighed w) parts) ≡ sum_of (map (weighed w) ts) = ap (λ us. sum_of (map (weighed w) us)) p in
      omega (arith, all, same)

  pub name_weighs : (t : Ty) (name : NameId) (ts : List Ty) → t ≡ ty.Con name ts → 1 + w name.0 ≤ weighed w t
  name_weighs t name ts e =
      let all : weighed w t ≡ 1 + (w name.0 + sum_of (map (weighed w) ts)) = ap (weighed w) e ∙ weighed_con w name ts in
      omega (arith, all)

  pub application_weighs : (t : Ty) (name : NameId) (ts parts : List Ty) → t ≡ ty.Con name ts → parts ≡ ts → 1 + (w name.0 + sum_of (map (weighed w) parts)) ≤ weighed w t
  application_weighs t name ts parts e p =
      let all : weighed w t ≡ 1 + (w name.0 + sum_of (map (weighed w) ts)) = ap (weighed w) e ∙ weighed_con w name ts in
      let same : sum_of (map (weighed w) parts) ≡ sum_of (map (weighed w) ts) = ap (λ us. sum_of (map (weighed w) us)) p in
      omega (arith, all, same)

  pub fields_weigh : (t : Ty) (fields parts : List Field) → t ≡ ty.Rec fields → parts ≡ fields → 1 + sum_of (map (λ field. weighed w field.ty) parts) ≤ weighed w t
  fields_weigh t fields parts e p =
      let all : weighed w t ≡ 1 + sum_of (map (λ field. weighed w field.ty) fields) = ap (weighed w) e ∙ weighed_rec fields in
      let same : sum_of (map (λ field. weighed w field.ty) parts) ≡ sum_of (map (λ field. weighed w field.ty) fields) = ap (λ us. sum_of (map (λ field. weighed w field.ty) us)) p in
      omega (arith, all, same)

  pub components_weigh : (t : Ty) (ts parts : List Ty) → t ≡ ty.Tup ts → parts ≡ ts → 1 + sum_of (map (weighed w) parts) ≤ weighed w t
  components_weigh t ts parts e p =
      let all : weighed w t ≡ 1 + sum_of (map (weighed w) ts) = ap (weighed w) e ∙ weighed_tup ts in
      let same : sum_of (map (weighed w) parts) ≡ sum_of (map (weighed w) ts) = ap (λ us. sum_of (map (weighed w) us)) p in
      omega (arith, all, same)

  pub sides_weigh : (t a b : Ty) → t ≡ ty.Arrow a b → 1 + (weighed w a + weighed w b) ≤ weighed w t
  sides_weigh t a b e =
      let all : weighed w t ≡ 1 + (weighed w a + weighed w b) = ap (weighed w) e ∙ weighed_arrow a b in
      omega (arith, all)

  weighed_var : (v : VarId) → weighed w (ty.Var v) ≡ 1
  weighed_var v = ap (weighed w) (sym (rolls-Var v)) ∙ fold-roll-Ty _ _ (weigh_step w) weigh_field_step _

  -- each type weighs something
  pub weighs_something : (t : Ty) → 1 ≤ weighed w t
  weighs_something = induct_type (λ t. 1 ≤ weighed w t)
      (λ v. omega (arith, weighed_var v))
      (λ name ts hs. omega (arith, weighed_con w name ts))
      (λ fields hs. omega (arith, weighed_rec fields))
      (λ ts hs. omega (arith, weighed_tup ts))
      (λ a b p q. omega (arith, weighed_arrow a b))

sum_more : (ns : List ℕ) (n : ℕ) → sum_of (ns ++ n ∷ []) ≡ sum_of ns + n
sum_more [] n = omega arith
sum_more (m ∷ ns) n = let h = sum_more ns n in omega (arith, h)

map_more : {A B : Type 0} (f : A → B) (xs : List A) (x : A) → map f (xs ++ x ∷ []) ≡ map f xs ++ f x ∷ []
map_more f [] x = refl
map_more f (y ∷ xs) x = ap (λ rest. f y ∷ rest) (map_more f xs x)

-- the first elements and the last of them
pub last_taken : {A B : Type 0} (f : A → B) (xs : List A) (count : ℕ) (x : A) → (count ≡ 0 → ⊥) → count ≤ length xs → x ≡ get_or xs (count - 1) x → map f (take count xs) ≡ map f (take (count - 1) xs) ++ f x ∷ []
last_taken f xs count x some l e =
    ap (λ n. map f (take n xs)) (let one : count ≡ count - 1 + 1 = omega (arith, some) in one)
    ∙ ap (map f) (take_more xs (count - 1) x (omega (arith, some, l)) ∙ ap (λ y. take (count - 1) xs ++ y ∷ []) (sym e))
    ∙ map_more f (take (count - 1) xs) x

pub last_weighs : {A : Type 0} (f : A → ℕ) (xs : List A) (count : ℕ) (x : A) → (count ≡ 0 → ⊥) → count ≤ length xs → x ≡ get_or xs (count - 1) x → sum_of (map f (take count xs)) ≡ sum_of (map f (take (count - 1) xs)) + f x
last_weighs f xs count x some l e = ap sum_of (last_taken f xs count x some l e) ∙ sum_more (map f (take (count - 1) xs)) (f x)

-- one part weighs no more than all
pub part_weighs : {A : Type 0} (f : A → ℕ) (xs : List A) (i : ℕ) (x : A) → i < length xs → x ≡ get_or xs i x → f x ≤ sum_of (map f xs)
part_weighs f [] i x l e = absurd (omega (arith, l))
part_weighs f (y ∷ xs) zero x l e = let same : f x ≡ f y = ap f e in omega (arith, same)
part_weighs f (y ∷ xs) (suc i) x l e = let less : f x ≤ sum_of (map f xs) = part_weighs f xs i x (omega (arith, l)) e in omega (arith, less)

-- each part passes what all pass
pub part_passes : {A : Type 0} (test : A → Bool) (xs : List A) (i : ℕ) (x : A) → all_true (map test xs) ≡ true → i < length xs → x ≡ get_or xs i x → test x ≡ true
part_passes test [] i x h l e = absurd (omega (arith, l))
part_passes test (y ∷ xs) zero x h l e = ap test e ∙ (and_parts (test y) _ h).0
part_passes test (y ∷ xs) (suc i) x h l e = part_passes test xs i x (and_parts (test y) _ h).1 (omega (arith, l)) e

-- ---- what is over the names in a type over them
module _ (names : List TypeName) (t : Ty) (over : IsOver names t) where
  pub arguments_are_over : (name : NameId) (ts parts : List Ty) → t ≡ ty.Con name ts → parts ≡ ts → all_true (map (is_over names) parts) ≡ true
  arguments_are_over name ts parts e p = ap (λ us. all_true (map (is_over names) us)) p ∙ arguments_over names name ts (subst (IsOver names) e over)

  pub fields_are_over : (fields parts : List Field) → t ≡ ty.Rec fields → parts ≡ fields → all_true (map (λ field. is_over names field.ty) parts) ≡ true
  fields_are_over fields parts e p = ap (λ us. all_true (map (λ field. is_over names field.ty) us)) p ∙ (over_partwise names).on_rec fields (subst (IsOver names) e over)

  pub components_are_over : (ts parts : List Ty) → t ≡ ty.Tup ts → parts ≡ ts → all_true (map (is_over names) parts) ≡ true
  components_are_over ts parts e p = ap (λ us. all_true (map (is_over names) us)) p ∙ (over_partwise names).on_tup ts (subst (IsOver names) e over)

  pub sides_are_over : (a b : Ty) → t ≡ ty.Arrow a b → IsOver names a × IsOver names b
  sides_are_over a b e = and_parts (is_over names a) (is_over names b) ((over_partwise names).on_arrow a b (subst (IsOver names) e over))
