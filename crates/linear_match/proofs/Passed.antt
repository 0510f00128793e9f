-- What holds of the parts of a type holds of what the variables of a pattern meet there.
use Rattle.std.proofs.Common.{◌≡◌, ℕ, Option, Some, None, List, [], ◌∷◌, ◌++◌, map, refl, sym, ap, ◌∙◌, subst}
use Rattle.type_core.specs.declared.ty.NameId.{NameId}
use Rattle.type_core.specs.declared.ty.Ty.{Ty}
use Rattle.type_core.specs.declared.ty.Field.{Field}
use Rattle.type_core.specs.declared.ty.Ty.TheVariants as ty
use Rattle.type_core.specs.declared.ty.Ty.TheVariants.{rolls-Con, rolls-Rec, rolls-Tup, rolls-Arrow}
use Rattle.type_core.specs.declared.ty.Ty.TheOpen.{Ty-F}
use Rattle.type_core.specs.Lists.{concatenated}
use Rattle.type_core.proofs.Trees.{AtField, EachOf, induct_type}
use Rattle.iso_axioms.specs.Axioms.{◌⇒◌}
use Rattle.iso_normal.specs.declared.factor.Factor.{Factor}
use Rattle.iso_normal.specs.declared.factor.Factor.TheVariants as factor
use Rattle.iso_normal.specs.declared.factor.Factor.TheOpen.{Factor-F, Atom, Arr}
use Rattle.iso_normal.specs.declared.factor.Factor.TheViews.{out-Factor}
use Rattle.iso_normal.specs.Factors.{AreFactors, arrow_to, factors, factors_of_arrow, product, type_of_factor, type_of_factors}
use Rattle.iso_normal.proofs.Complete.{type_arr, type_atom}
use Rattle.iso_normal.proofs.Readings.{factors_var, factors_con, factors_rec, factors_tup, factors_arrow}
use Rattle.iso_normal.proofs.Reified.{arrow_factors}
use Rattle.linear_match.specs.Meetings.{MeetEach, MeetFields, Meeting, Meets, binding, bound_to, exactly, fields_more, fields_none, first_factors, first_type, loosely, meet_more, meet_none, meets_application, meets_arrow, meets_record, meets_tuple, meets_variable}
use Rattle.linear_match.specs.Splits.{SplitEach, Splits, split_application, split_arrow, split_more, split_none, split_other, split_record, split_tuple, split_variable}
use Rattle.linear_match.proofs.Bound.{IsRead, factors_found, of_each, type_found}
use Rattle.linear_match.proofs.Sound.{typed}
use Rattle.linear_match.proofs.Wholes.{IsOfEach, dealt_all, factors_of_each, is_arrow, is_atom, sorted_all, whole}

pub each_append : (P : Meeting → Type 0) (ms ns : List Meeting) → EachOf P ms → EachOf P ns
    → EachOf P (ms ++ ns)
each_append P [] ns p q = q
each_append P (m ∷ ms) ns p q = (p.0, each_append P ms ns p.1 q)

-- what passes from factors to the parts of a split, and from atoms to the types in them
pub record Passes (All : List Factor → Type 0) (P : Ty → Type 0) : Type 0 where
  pub listwise : IsOfEach All
  pub parts : {f : Factor} {arguments results : List Factor} → out-Factor f ≡ Arr arguments results → All (f ∷ [])
      → All arguments × All results
  pub arrow : (fs gs : List Factor) → All fs → All gs → All (factors_of_arrow fs gs)
  pub atom : {f : Factor} {t : Ty} → out-Factor f ≡ Atom t → All (f ∷ []) → P t
  pub con : (name : NameId) (ts : List Ty) → P (ty.Con name ts) → EachOf P ts
  pub rec : (fields : List Field) → P (ty.Rec fields) → EachOf (AtField P) fields
  pub tup : (ts : List Ty) → P (ty.Tup ts) → EachOf P ts
  pub sides : (a b : Ty) → P (a ⇒ b) → P a × P b

module _ {All : List Factor → Type 0} {P : Ty → Type 0} (K : Passes All P) where
  -- it holds of what is met
  abbrev pub Holds : Meeting → Type 0
  Holds (loosely v fs) = All fs
  Holds (exactly v t) = P t

  mutual
    met_passes : {x : Ty-F Ty Field} {t : Ty} {ms : List Meeting} → Meets x t ms → P t → EachOf Holds ms
    met_passes (meets_variable v t) p = (p, tt)
    met_passes (meets_application {ts} name e each) p =
        each_passes each (K.con name ts (subst P (typed e ∙ rolls-Con name ts) p))
    met_passes (meets_record {ts} e each) p = fields_pass each (K.rec ts (subst P (typed e ∙ rolls-Rec ts) p))
    met_passes (meets_tuple {ts} e each) p = each_passes each (K.tup ts (subst P (typed e ∙ rolls-Tup ts) p))
    met_passes (meets_arrow {u} {v} {ms} {ns} e m n) p = let s = K.sides u v (subst P (typed e ∙ rolls-Arrow u v) p) in
        each_append Holds ms ns (met_passes m s.0) (met_passes n s.1)

    each_passes : {ps ts : List Ty} {ms : List Meeting} → MeetEach ps ts ms → EachOf P ts → EachOf Holds ms
    each_passes meet_none all = tt
    each_passes (meet_more {ms} {ns} m each) all = each_append Holds ms ns (met_passes m all.0) (each_passes each all.1)

    fields_pass : {ps ts : List Field} {ms : List Meeting} → MeetFields ps ts ms → EachOf (AtField P) ts
        → EachOf Holds ms
    fields_pass fields_none all = tt
    fields_pass (fields_more {ms} {ns} l m each) all =
        each_append Holds ms ns (met_passes m all.0) (fields_pass each all.1)

  mutual
    pub split_passes : {x : Ty-F Ty Field} {fs : List Factor} {word : List ℕ} {ms : List Meeting} → Splits x fs word ms
        → All fs → EachOf Holds ms
    split_passes (split_variable v fs) a = (a, tt)
    split_passes (split_application name e m) a = met_passes m (K.atom e a)
    split_passes (split_record e m) a = met_passes m (K.atom e a)
    split_passes (split_tuple d each) a = pieces_pass each (dealt_all All K.listwise d a)
    split_passes (split_arrow {results} {kept} {ms} {ns} e s m n) a =
        let f = K.parts e a in
        let r = sorted_all All K.listwise s f.0 in
        each_append Holds ms ns (split_passes m r.0) (split_passes n (K.arrow kept results r.1 f.1))
    split_passes (split_other {ms} {ns} i m n) a =
        each_append Holds ms ns (split_passes m K.listwise.nil) (split_passes n a)

    pieces_pass : {ps : List Ty} {pieces : List (List Factor)} {word : List ℕ} {ms : List Meeting}
        → SplitEach ps pieces word ms → EachOf All pieces → EachOf Holds ms
    pieces_pass split_none all = tt
    pieces_pass (split_more {ms} {ns} m each) all =
        each_append Holds ms ns (split_passes m all.0) (pieces_pass each all.1)

-- that they are factors
nothing_each : (ts : List Ty) → EachOf (λ t. Unit {0}) ts
nothing_each [] = tt
nothing_each (t ∷ ts) = (tt, nothing_each ts)

nothing_fields : (fields : List Field) → EachOf (AtField (λ t. Unit {0})) fields
nothing_fields [] = tt
nothing_fields (field ∷ fields) = (tt, nothing_fields fields)

factors_pass : Passes AreFactors (λ t. Unit {0})
factors_pass = record {
  listwise = factors_of_each;
  parts = λ e are. let w = whole e are in (w.left, w.right);
  arrow = λ fs gs. arrow_factors;
  atom = λ e are. tt;
  con = λ name ts p. nothing_each ts;
  rec = λ fields p. nothing_fields fields;
  tup = λ ts p. nothing_each ts;
  sides = λ a b p. (tt, tt);
}

are_read : (ms : List Meeting) → EachOf (Holds factors_pass) ms → EachOf IsRead ms
are_read [] all = tt
are_read (loosely v fs ∷ ms) all = (all.0, are_read ms all.1)
are_read (exactly v t ∷ ms) all = (tt, are_read ms all.1)

pub split_read : {x : Ty-F Ty Field} {fs : List Factor} {word : List ℕ} {ms : List Meeting} → Splits x fs word ms
    → AreFactors fs → EachOf IsRead ms
split_read {ms} s are = are_read ms (split_passes factors_pass s are)

-- a property that a type has where its parts have it
pub record IsHereditary (P : Ty → Type 0) : Type 0 where
  pub con : (name : NameId) (ts : List Ty) → P (ty.Con name ts) → EachOf P ts
  pub rec : (fields : List Field) → P (ty.Rec fields) → EachOf (AtField P) fields
  pub tup : (ts : List Ty) → P (ty.Tup ts) → EachOf P ts
  pub sides : (a b : Ty) → P (a ⇒ b) → P a × P b
  pub arrow : (a b : Ty) → P a → P b → P (a ⇒ b)
  pub to_product : (ts : List Ty) → EachOf P ts → P (product ts)

module _ {P : Ty → Type 0} (H : IsHereditary P) where
  -- the types of the factors have it
  abbrev pub AllHave : List Factor → Type 0
  AllHave fs = EachOf P (map type_of_factor fs)

  of_product : (ts : List Ty) → P (product ts) → EachOf P ts
  of_product [] p = tt
  of_product (t ∷ []) p = (p, tt)
  of_product (t ∷ u ∷ ts) p = H.tup (t ∷ u ∷ ts) p

  have_append : (fs gs : List Factor) → AllHave fs → AllHave gs → AllHave (fs ++ gs)
  have_append [] gs p q = q
  have_append (f ∷ fs) gs p q = (p.0, have_append fs gs p.1 q)

  arr_has : (fs gs : List Factor) → AllHave fs → AllHave gs → P (type_of_factor (factor.Arr fs gs))
  arr_has fs gs p q = subst P (sym (type_arr fs gs)) (H.arrow _ _ (H.to_product _ p) (H.to_product _ q))

  arr_parts : (fs gs : List Factor) → P (type_of_factor (factor.Arr fs gs)) → AllHave fs × AllHave gs
  arr_parts fs gs p = let s = H.sides (type_of_factors fs) (type_of_factors gs) (subst P (type_arr fs gs) p) in
      (of_product _ s.0, of_product _ s.1)

  parts_have : (f : Factor) {arguments results : List Factor} → out-Factor f ≡ Arr arguments results → AllHave (f ∷ [])
      → AllHave arguments × AllHave results
  parts_have f {arguments} {results} e p =
      arr_parts arguments results (subst (λ g. P (type_of_factor g)) (is_arrow e) p.0)

  to_one_has : (fs : List Factor) (f : Factor) (x : Factor-F Factor) → out-Factor f ≡ x → AllHave fs → AllHave (f ∷ [])
      → P (type_of_factor (arrow_to fs x))
  to_one_has fs f (Atom t) e p q = arr_has fs (factor.Atom t ∷ []) p (subst (λ g. AllHave (g ∷ [])) (is_atom e) q)
  to_one_has fs f (Arr own results) e p q = let r = parts_have f e q in
      arr_has (fs ++ own) results (have_append fs own p r.0) r.1

  arrow_has : (fs gs : List Factor) → AllHave fs → AllHave gs → AllHave (factors_of_arrow fs gs)
  arrow_has [] gs p q = q
  arrow_has (f ∷ fs) [] p q = (arr_has (f ∷ fs) [] p tt, tt)
  arrow_has (f ∷ fs) (g ∷ []) p q = (to_one_has (f ∷ fs) g (out-Factor g) refl p q, tt)
  arrow_has (f ∷ fs) (g ∷ h ∷ gs) p q = (arr_has (f ∷ fs) (g ∷ h ∷ gs) p q, tt)

  have_of_each : IsOfEach AllHave
  have_of_each = record { nil = tt; cons = λ p q. (p.0, q); head = λ p. (p.0, tt); tail = λ p. p.1 }

  pub hereditary_passes : Passes AllHave P
  hereditary_passes = record {
    listwise = have_of_each;
    parts = λ {f} e p. parts_have f e p;
    arrow = arrow_has;
    atom = λ {f} {t} e p. subst P (ap type_of_factor (is_atom e) ∙ type_atom t) p.0;
    con = H.con;
    rec = H.rec;
    tup = H.tup;
    sides = H.sides;
  }

  -- so do those of a type that has it
  abbrev pub IsShared : Ty → Type 0
  IsShared t = P t → AllHave (factors t)

  atom_has : (t : Ty) → factors t ≡ factor.Atom t ∷ [] → IsShared t
  atom_has t e p = subst AllHave (sym e) (subst P (sym (type_atom t)) p, tt)

  each_has : (ts : List Ty) → EachOf IsShared ts → EachOf P ts → AllHave (concatenated (map factors ts))
  each_has [] share p = tt
  each_has (t ∷ ts) share p = have_append (factors t) _ (share.0 p.0) (each_has ts share.1 p.1)

  pub factors_have : (t : Ty) → IsShared t
  factors_have = induct_type IsShared
      (λ v. atom_has (ty.Var v) (factors_var v))
      (λ name ts share. atom_has (ty.Con name ts) (factors_con name ts))
      (λ fields share. atom_has (ty.Rec fields) (factors_rec fields))
      (λ ts share p. subst AllHave (sym (factors_tup ts)) (each_has ts share (H.tup ts p)))
      (λ a b p q r. let s = H.sides a b r in
      subst AllHave (sym (factors_arrow a b)) (arrow_has (factors a) (factors b) (p s.0) (q s.1)))

  -- and what a variable is bound to by the meetings
  bound_has : (n : ℕ) (ms : List Meeting) → EachOf (Holds hereditary_passes) ms
      → (o : Option Ty) (l : Option (List Factor)) → first_type n ms ≡ o
      → first_factors n ms ≡ l → P (bound_to o l)
  bound_has n ms all (Some t) l e g = of_each (Holds hereditary_passes) all (type_found n ms t e).2
  bound_has n ms all None (Some fs) e g =
      H.to_product _ (of_each (Holds hereditary_passes) all (factors_found n ms fs g).2)
  bound_has n ms all None None e g = H.to_product [] tt

  pub binding_has : (n : ℕ) (ms : List Meeting) → EachOf (Holds hereditary_passes) ms → P (binding ms n)
  binding_has n ms all = bound_has n ms all _ _ refl refl
