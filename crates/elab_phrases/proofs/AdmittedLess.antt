-- Where names lose equality, no more types admit it.
use Rattle.std.proofs.Common.{◌≡◌, ℕ, zero, suc, ◌+◌, Bool, true, false, List, [], ◌∷◌, map, refl, sym, ap, ◌∙◌, subst}
use Rattle.std.proofs.lemmas.Bool.{and_from, and_parts, true≢false}
use Rattle.elab_env.specs.Names.{equality_at, with_equality}
use Rattle.type_core.specs.declared.names.Equality.{Equality}
use Rattle.type_core.specs.declared.names.Equality.TheVariants.{Never, IfArgs, Always}
use Rattle.type_core.specs.declared.names.TypeName.{TypeName}
use Rattle.type_core.specs.declared.ty.VarId.{VarId}
use Rattle.type_core.specs.declared.ty.NameId.{NameId}
use Rattle.type_core.specs.declared.ty.Ty.{Ty}
use Rattle.type_core.specs.declared.ty.Field.{Field}
use Rattle.type_core.specs.declared.ty.Ty.TheVariants as ty
use Rattle.type_core.specs.declared.ty.Ty.TheVariants.{rolls-Var, rolls-Con, rolls-Rec, rolls-Tup, rolls-Arrow}
use Rattle.type_core.specs.declared.ty.Ty.TheFolds.{fold-roll-Ty, fold-roll-Field}
use Rattle.type_core.specs.AdmitsEquality.{by_attribute}
use Rattle.type_core.specs.Lists.{all_true}
use Rattle.type_core.proofs.Trees.{AtField, EachOf, induct_type}
use Rattle.elab_rules.specs.Equality.{admits, admits_field_step, admits_step, by_choice, field_admits, is_never, with_choice}
use Rattle.elab_rules.specs.Settling.{IsWithin}

-- a name either admits no equality, or is as it was
abbrev pub IsLess : Equality → Equality → Type 0
IsLess d e = is_never d ≡ false → d ≡ e

abbrev pub AreLess : List TypeName → List TypeName → Type 0
AreLess [] [] = Unit {0}
AreLess [] (b ∷ more) = ⊥
AreLess (a ∷ fewer) [] = ⊥
AreLess (a ∷ fewer) (b ∷ more) = IsLess a.equality b.equality × AreLess fewer more

pub less_same : (names : List TypeName) → AreLess names names
less_same [] = tt
less_same (name ∷ names) = (λ live. refl, less_same names)

less_settled : (n : ℕ) (d e : Equality) (fewer more : List TypeName) → IsLess d e → AreLess fewer more → AreLess (with_equality n d fewer) (with_equality n e more)
less_settled n d e [] [] less are = tt
less_settled n d e [] (b ∷ more) less are = absurd are
less_settled n d e (a ∷ fewer) [] less are = absurd are
less_settled zero d e (a ∷ fewer) (b ∷ more) less are = (less, are.1)
less_settled (suc n) d e (a ∷ fewer) (b ∷ more) less are = (are.0, less_settled n d e fewer more less are.1)

less_by_choice : (c d : Bool) → (c ≡ true → d ≡ true) → IsLess (by_choice c) (by_choice d)
less_by_choice true d within = λ live. ap by_choice (sym (within refl))
less_by_choice false d within = λ live. absurd (true≢false live)

pub less_chosen : (n : ℕ) (choice other : List Bool) (fewer more : List TypeName) → IsWithin choice other → AreLess fewer more → AreLess (with_choice n choice fewer) (with_choice n other more)
less_chosen n [] [] fewer more within are = are
less_chosen n [] (d ∷ ds) fewer more within are = absurd within
less_chosen n (c ∷ cs) [] fewer more within are = absurd within
less_chosen n (c ∷ cs) (d ∷ ds) fewer more within are =
    less_chosen (n + 1) cs ds _ _ within.1 (less_settled n (by_choice c) (by_choice d) fewer more (less_by_choice c d within.0) are)

less_there : (fewer more : List TypeName) (n : ℕ) → AreLess fewer more → IsLess (equality_at fewer n) (equality_at more n)
less_there [] [] n are = λ live. refl
less_there [] (b ∷ more) n are = absurd are
less_there (a ∷ fewer) [] n are = absurd are
less_there (a ∷ fewer) (b ∷ more) zero are = are.0
less_there (a ∷ fewer) (b ∷ more) (suc n) are = less_there fewer more n are.1

-- ---- whether a type admits equality, by its outermost form
module _ (names : List TypeName) where
  admits_var : (v : VarId) → admits names (ty.Var v) ≡ true
  admits_var v = ap (admits names) (sym (rolls-Var v)) ∙ fold-roll-Ty _ _ (admits_step names) admits_field_step _

  admits_con : (name : NameId) (ts : List Ty) → admits names (ty.Con name ts) ≡ by_attribute (equality_at names name.0) (map (admits names) ts)
  admits_con name ts = ap (admits names) (sym (rolls-Con name ts)) ∙ fold-roll-Ty _ _ (admits_step names) admits_field_step _

  admits_rec : (fields : List Field) → admits names (ty.Rec fields) ≡ all_true (map (field_admits names) fields)
  admits_rec fields = ap (admits names) (sym (rolls-Rec fields)) ∙ fold-roll-Ty _ _ (admits_step names) admits_field_step _

  admits_tup : (ts : List Ty) → admits names (ty.Tup ts) ≡ all_true (map (admits names) ts)
  admits_tup ts = ap (admits names) (sym (rolls-Tup ts)) ∙ fold-roll-Ty _ _ (admits_step names) admits_field_step _

  admits_arrow : (a b : Ty) → admits names (ty.Arrow a b) ≡ false
  admits_arrow a b = ap (admits names) (sym (rolls-Arrow a b)) ∙ fold-roll-Ty _ _ (admits_step names) admits_field_step _

  admits_field : (field : Field) → field_admits names field ≡ admits names field.ty
  admits_field field = fold-roll-Field _ _ (admits_step names) admits_field_step (record { label = field.label; ty = field.ty })

-- ---- types
less_applied : (d e : Equality) (xs ys : List Bool) → IsLess d e → (all_true xs ≡ true → all_true ys ≡ true) → by_attribute d xs ≡ true → by_attribute e ys ≡ true
less_applied Never e xs ys less parts passes = absurd (true≢false (sym passes))
less_applied IfArgs e xs ys less parts passes = subst (λ x. by_attribute x ys ≡ true) (less refl) (parts passes)
less_applied Always e xs ys less parts passes = subst (λ x. by_attribute x ys ≡ true) (less refl) refl

module _ (fewer more : List TypeName) (are : AreLess fewer more) where
  abbrev StillAdmits : Ty → Type 0
  StillAdmits t = admits fewer t ≡ true → admits more t ≡ true

  all_admit : (ts : List Ty) → EachOf StillAdmits ts → all_true (map (admits fewer) ts) ≡ true → all_true (map (admits more) ts) ≡ true
  all_admit [] hs passes = refl
  all_admit (t ∷ ts) hs passes = let p = and_parts _ _ passes in and_from _ _ (hs.0 p.0) (all_admit ts hs.1 p.1)

  fields_admit : (fields : List Field) → EachOf (AtField StillAdmits) fields → all_true (map (field_admits fewer) fields) ≡ true → all_true (map (field_admits more) fields) ≡ true
  fields_admit [] hs passes = refl
  fields_admit (field ∷ fields) hs passes =
      let p = and_parts _ _ passes in
      and_from _ _ (admits_field more field ∙ hs.0 (sym (admits_field fewer field) ∙ p.0)) (fields_admit fields hs.1 p.1)

  pub still_admits : (t : Ty) → admits fewer t ≡ true → admits more t ≡ true
  still_admits = induct_type StillAdmits
      (λ v passes. admits_var more v)
      (λ name ts hs passes. admits_con more name ts ∙ less_applied _ _ _ _ (less_there fewer more name.0 are) (all_admit ts hs) (sym (admits_con fewer name ts) ∙ passes))
      (λ fields hs passes. admits_rec more fields ∙ fields_admit fields hs (sym (admits_rec fewer fields) ∙ passes))
      (λ ts hs passes. admits_tup more ts ∙ all_admit ts hs (sym (admits_tup fewer ts) ∙ passes))
      (λ a b p q passes. absurd (true≢false (sym passes ∙ admits_arrow fewer a b)))
