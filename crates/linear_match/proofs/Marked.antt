-- What a variable with the mark is bound to admits equality where the type that obeys its meetings does.
use Rattle.std.proofs.Common.{◌≡◌, ◌<◌, true≢false, Option, Some, None, List, [], ◌∷◌, ◌++◌, length, map, refl, sym, ◌∙◌, subst}
use Rattle.type_core.specs.declared.names.TypeName.{TypeName}
use Rattle.type_core.specs.declared.ty.VarId.{VarId}
use Rattle.type_core.specs.declared.ty.Ty.{Ty}
use Rattle.type_core.specs.declared.ty.Ty.TheVariants as ty
use Rattle.type_core.specs.AdmitsEquality.{AdmitsEquality, admits_equality}
use Rattle.type_core.specs.Lists.{concatenated}
use Rattle.type_core.proofs.Trees.{EachOf, admits_arrow, admits_tup, induct_type}
use Rattle.iso_normal.specs.declared.factor.Factor.{Factor}
use Rattle.iso_normal.specs.declared.factor.Factor.TheVariants as factor
use Rattle.iso_normal.specs.declared.factor.Factor.TheVariants.{outs-Atom}
use Rattle.iso_normal.specs.declared.factor.Factor.TheOpen.{Factor-F, Atom}
use Rattle.iso_normal.specs.declared.factor.Factor.TheViews.{out-Factor}
use Rattle.iso_normal.specs.Agreement.{Agree, AreAlike, Takes, arrows, atoms, first, later, more, none}
use Rattle.iso_normal.specs.Factors.{factors, product, type_of_factor, type_of_factors}
use Rattle.iso_normal.proofs.Complete.{type_layer, type_out}
use Rattle.iso_normal.proofs.Readings.{factors_var, factors_con, factors_rec, factors_tup}
use Rattle.linear_match.specs.Meetings.{Meeting, Obeys, ObeysAll, binding, bound_to, first_factors, first_type, type_for}
use Rattle.linear_match.proofs.Bound.{In, after, factors_found, here, same_type, type_found}
use Rattle.linear_match.proofs.Properties.{all_pass, each_passes}

module _ (names : List TypeName) where
  abbrev pub Admits : Ty → Type 0
  Admits t = AdmitsEquality names t

  -- an atom that admits equality
  data IsPlain : Factor-F Factor → Type 0 where
    plain : (t : Ty) → Admits t → IsPlain (Atom t)

  abbrev ArePlain : List Factor → Type 0
  ArePlain fs = EachOf (λ f. IsPlain (out-Factor f)) fs

  plain_append : (fs gs : List Factor) → ArePlain fs → ArePlain gs → ArePlain (fs ++ gs)
  plain_append [] gs p q = q
  plain_append (f ∷ fs) gs p q = (p.0, plain_append fs gs p.1 q)

  -- the factors of a type that admits equality are such
  abbrev HasPlain : Ty → Type 0
  HasPlain t = Admits t → ArePlain (factors t)

  atom_plain : (t : Ty) → factors t ≡ factor.Atom t ∷ [] → HasPlain t
  atom_plain t e a = subst ArePlain (sym e) (subst IsPlain (sym (outs-Atom t)) (plain t a), tt)

  each_plain : (ts : List Ty) → EachOf HasPlain ts → EachOf Admits ts → ArePlain (concatenated (map factors ts))
  each_plain [] have p = tt
  each_plain (t ∷ ts) have p = plain_append (factors t) _ (have.0 p.0) (each_plain ts have.1 p.1)

  factors_plain : (t : Ty) → HasPlain t
  factors_plain = induct_type HasPlain
      (λ v. atom_plain (ty.Var v) (factors_var v))
      (λ name ts have. atom_plain (ty.Con name ts) (factors_con name ts))
      (λ fields have. atom_plain (ty.Rec fields) (factors_rec fields))
      (λ ts have a. subst ArePlain (sym (factors_tup ts))
      (each_plain ts have (each_passes (admits_equality names) ts (sym (admits_tup names ts) ∙ a))))
      (λ t u p q a. absurd (true≢false (sym a ∙ admits_arrow names t u)))

  -- agreement keeps them
  plain_taken : {g : Factor} {gs rest : List Factor} → Takes g gs rest → IsPlain (out-Factor g) → ArePlain rest
      → ArePlain gs
  plain_taken (first _) p all = (p, all)
  plain_taken (later _ t) p all = (all.0, plain_taken t p all.1)

  plain_alike : {x y : Factor-F Factor} → AreAlike x y → IsPlain x → IsPlain y
  plain_alike (atoms t) p = p
  plain_alike (arrows a b) p = elim p [ ]

  plain_agrees : {fs gs : List Factor} → Agree fs gs → ArePlain fs → ArePlain gs
  plain_agrees none p = p
  plain_agrees (more t s others) p = plain_taken t (plain_alike s p.0) (plain_agrees others p.1)

  -- and their product admits equality
  layer_admits : {x : Factor-F Factor} → IsPlain x → Admits (type_layer x)
  layer_admits (plain t a) = a

  types_admit : (fs : List Factor) → ArePlain fs → EachOf Admits (map type_of_factor fs)
  types_admit [] p = tt
  types_admit (f ∷ fs) p = (subst Admits (sym (type_out f)) (layer_admits p.0), types_admit fs p.1)

  product_admits : (ts : List Ty) → EachOf Admits ts → Admits (product ts)
  product_admits [] p = admits_tup names []
  product_admits (t ∷ []) p = p.0
  product_admits (t ∷ u ∷ ts) p = admits_tup names (t ∷ u ∷ ts) ∙ all_pass (admits_equality names) (t ∷ u ∷ ts) p

  -- so what agrees with a type that admits equality does
  pub product_of_plain : (t : Ty) (fs : List Factor) → Admits t → Agree (factors t) fs → Admits (type_of_factors fs)
  product_of_plain t fs a e =
      product_admits (map type_of_factor fs) (types_admit fs (plain_agrees e (factors_plain t a)))

  obeyed : (by : List Ty) {m : Meeting} {ms : List Meeting} → ObeysAll by ms → In m ms → Obeys by m
  obeyed by all (here _) = all.0
  obeyed by all (after _ i) = obeyed by all.1 i

  module _ (by : List Ty) (ms : List Meeting) (all : ObeysAll by ms) (v : VarId) (low : v.n < length by)
      (a : Admits (type_for by v)) where
    at : (w : VarId) → w.n ≡ v.n → Admits (type_for by w)
    at w e = subst Admits (same_type by v w low (sym e)) a

    bound_admits : (o : Option Ty) (l : Option (List Factor)) → first_type v.n ms ≡ o → first_factors v.n ms ≡ l
        → Admits (bound_to o l)
    bound_admits (Some t) l e g = let r = type_found v.n ms t e in subst Admits (obeyed by all r.2) (at r.0 r.1)
    bound_admits None (Some fs) e g = let r = factors_found v.n ms fs g in
        product_of_plain (type_for by r.0) fs (at r.0 r.1) (obeyed by all r.2)
    bound_admits None None e g = admits_tup names []

    pub binding_admits : Admits (binding ms v.n)
    binding_admits = bound_admits _ _ refl refl
