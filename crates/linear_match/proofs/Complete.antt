-- Where the factors of a pattern with types for its variables agree with a list, some word splits the list so that
-- these types obey.
use Rattle.std.proofs.Common.{◌≡◌, ◌⊎◌, inl, inr, ℕ, suc, List, [], ◌∷◌, ◌++◌, map, length, refl, sym, ap, ◌∙◌, subst, append-nil}
use Rattle.type_core.specs.declared.ty.Ty.{Ty}
use Rattle.type_core.specs.declared.ty.Field.{Field}
use Rattle.type_core.specs.declared.ty.Ty.TheVariants as ty
use Rattle.type_core.specs.declared.ty.Ty.TheVariants.{outs-Var, outs-Con, outs-Rec, outs-Tup, outs-Arrow, rolls-Var}
use Rattle.type_core.specs.declared.ty.Ty.TheOpen.{Ty-F, Tup, Arrow}
use Rattle.type_core.specs.declared.ty.Ty.TheViews.{out-Ty}
use Rattle.type_core.specs.Lists.{concatenated}
use Rattle.type_core.specs.Substitution.{field_substituted, substituted}
use Rattle.type_core.proofs.Trees.{AtField, EachOf, induct_type, substituted_var, substituted_con, substituted_rec, substituted_tup, substituted_arrow, substituted_field}
use Rattle.iso_normal.specs.declared.factor.Factor.{Factor}
use Rattle.iso_normal.specs.declared.factor.Factor.TheVariants as factor
use Rattle.iso_normal.specs.declared.factor.Factor.TheVariants.{outs-Atom, outs-Arr}
use Rattle.iso_normal.specs.declared.factor.Factor.TheOpen.{Factor-F, Atom, Arr}
use Rattle.iso_normal.specs.declared.factor.Factor.TheViews.{out-Factor}
use Rattle.iso_normal.specs.Agreement.{Agree, AreAlike, arrows, atoms, first, later, more, none}
use Rattle.iso_normal.specs.Factors as facts
use Rattle.iso_normal.specs.Factors.{AreFactors, IsNotOneArrow, arrow_to, factors, factors_of_arrow}
use Rattle.iso_normal.proofs.Agreeing.{agree_arrow, agree_of_eq, agree_refl, agree_sym, agree_trans}
use Rattle.iso_normal.proofs.Reified.{are_factors}
use Rattle.linear_match.specs.Meetings.{MeetEach, MeetFields, Meeting, Meets, ObeysAll, fields_more, fields_none, loosely, meet_more, meet_none, meets_application, meets_arrow, meets_record, meets_tuple, meets_variable}
use Rattle.linear_match.specs.Splits.{Sorted, SplitEach, Splits, split_application, split_arrow, split_more, split_none, split_other, split_record, split_tuple, split_variable}
use Rattle.linear_match.proofs.Dealing.{AllAgree, all_more, all_none, dealing, sorting}
use Rattle.linear_match.proofs.Sound.{arrow_parts, con_alone, given, given_out, obeys_both, rec_alone, tup_parts}
use Rattle.linear_match.proofs.Wholes.{IsOneArrow, arr_same, arrow_or_not, is_atom, not_arr, whole}

-- what agrees with one factor is one factor
record Single (f : Factor) (fs : List Factor) : Type 0 where
  other : Factor
  is : fs ≡ other ∷ []
  like : AreAlike (out-Factor f) (out-Factor other)

single : {f : Factor} {fs : List Factor} → Agree (f ∷ []) fs → Single f fs
single (more (first _) s none) = record { other = _; is = refl; like = s }
single (more (later _ _) s others) = elim others [ ]

like_atom : {t : Ty} {x y : Factor-F Factor} → x ≡ Atom t → AreAlike x y → y ≡ Atom t
like_atom e (atoms u) = e
like_atom e (arrows a b) = absurd (not_arr (sym e))

single_atom : {t : Ty} {fs : List Factor} → Agree (factor.Atom t ∷ []) fs
    → (f : Factor) × (fs ≡ f ∷ []) × (out-Factor f ≡ Atom t)
single_atom {t} a = let s = single a in (s.other, s.is, like_atom (outs-Atom t) s.like)

-- what is like an arrow is one
record LikeArrow (xs ps : List Factor) (y : Factor-F Factor) : Type 0 where
  ys : List Factor
  qs : List Factor
  is : y ≡ Arr ys qs
  left : Agree xs ys
  right : Agree ps qs

like_arrow : {xs ps : List Factor} {x y : Factor-F Factor} → x ≡ Arr xs ps → AreAlike x y → LikeArrow xs ps y
like_arrow e (atoms t) = absurd (not_arr e)
like_arrow e (arrows {ys} {qs} a b) = let same = arr_same e in
    record {
      ys = ys;
      qs = qs;
      is = refl;
      left = subst (λ l. Agree l ys) same.0 a;
      right = subst (λ l. Agree l qs) same.1 b;
    }

-- an arrow from at least one factor, opened
record Opened (x : Factor) (xs fs : List Factor) : Type 0 where
  arrow : Factor
  is : factors_of_arrow (x ∷ xs) fs ≡ arrow ∷ []
  own : List Factor
  to : List Factor
  out : out-Factor arrow ≡ Arr ((x ∷ xs) ++ own) to
  again : fs ≡ factors_of_arrow own to

opened_many : (x : Factor) (xs : List Factor) {fs : List Factor}
    → factors_of_arrow (x ∷ xs) fs ≡ factor.Arr (x ∷ xs) fs ∷ [] → Opened x xs fs
opened_many x xs {fs} e = record {
  arrow = factor.Arr (x ∷ xs) fs;
  is = e;
  own = [];
  to = fs;
  out = outs-Arr (x ∷ xs) fs ∙ ap (λ l. Arr l fs) (sym (append-nil (x ∷ xs)));
  again = refl;
}

opened_one : (x : Factor) (xs : List Factor) {f : Factor} (y : Factor-F Factor) → out-Factor f ≡ y
    → AreFactors (f ∷ []) → Opened x xs (f ∷ [])
opened_one x xs {f} (Atom t) e m = subst (λ g. Opened x xs (g ∷ [])) (sym (is_atom e))
    (opened_many x xs {fs = factor.Atom t ∷ []} (ap (λ y. arrow_to (x ∷ xs) y ∷ []) (outs-Atom t)))
opened_one x xs {f} (Arr own results) e m = record {
  arrow = factor.Arr ((x ∷ xs) ++ own) results;
  is = ap (λ y. arrow_to (x ∷ xs) y ∷ []) e;
  own = own;
  to = results;
  out = outs-Arr ((x ∷ xs) ++ own) results;
  again = sym (whole e m).again;
}

opened : (x : Factor) (xs : List Factor) {fs : List Factor} → AreFactors fs → Opened x xs fs
opened x xs facts.none = opened_many x xs refl
opened x xs (facts.more {f = g} m facts.none) = opened_one x xs (out-Factor g) refl (facts.more m facts.none)
opened x xs (facts.more m (facts.more n k)) = opened_many x xs refl

module _ (by : List Ty) where
  -- a pattern beside itself with these types
  record Met (p : Ty) : Type 0 where
    meetings : List Meeting
    meets : Meets (out-Ty p) (substituted by p) meetings
    obeys : ObeysAll by meetings

  record MetEach (ps : List Ty) : Type 0 where
    meetings : List Meeting
    meets : MeetEach ps (map (substituted by) ps) meetings
    obeys : ObeysAll by meetings

  record MetFields (ps : List Field) : Type 0 where
    meetings : List Meeting
    meets : MeetFields ps (map (field_substituted by) ps) meetings
    obeys : ObeysAll by meetings

  met_at : {p : Ty} {x : Ty-F Ty Field} {ms : List Meeting} → out-Ty p ≡ x → Meets x (substituted by p) ms
      → ObeysAll by ms → Met p
  met_at {p} {ms} e m o = record {
    meetings = ms;
    meets = subst (λ y. Meets y (substituted by p) ms) (sym e) m;
    obeys = o;
  }

  meet_each : (ps : List Ty) → EachOf Met ps → MetEach ps
  meet_each [] all = record { meetings = []; meets = meet_none; obeys = tt }
  meet_each (p ∷ ps) all = let rest = meet_each ps all.1 in
      record {
        meetings = all.0.meetings ++ rest.meetings;
        meets = meet_more all.0.meets rest.meets;
        obeys = obeys_both by all.0.meetings rest.meetings all.0.obeys rest.obeys;
      }

  meet_fields : (ps : List Field) → EachOf (AtField Met) ps → MetFields ps
  meet_fields [] all = record { meetings = []; meets = fields_none; obeys = tt }
  meet_fields (p ∷ ps) all = let rest = meet_fields ps all.1 in
      let e = sym (substituted_field by p) in
      record {
        meetings = all.0.meetings ++ rest.meetings;
        meets = fields_more {t = field_substituted by p} (ap (λ (g : Field). g.label) e)
            (subst (λ (g : Field). Meets (out-Ty p.ty) g.ty all.0.meetings) e all.0.meets) rest.meets;
        obeys = obeys_both by all.0.meetings rest.meetings all.0.obeys rest.obeys;
      }

  meet : (p : Ty) → Met p
  meet = induct_type Met
      (λ v. met_at (outs-Var v) (meets_variable v (substituted by (ty.Var v))) (sym (substituted_var by v), tt))
      (λ name ps all. let each = meet_each ps all in
      met_at (outs-Con name ps) (meets_application name (ap out-Ty (substituted_con by name ps)
      ∙ outs-Con name _) each.meets) each.obeys)
      (λ ps all. let each = meet_fields ps all in
      met_at (outs-Rec ps) (meets_record (ap out-Ty (substituted_rec by ps) ∙ outs-Rec _) each.meets) each.obeys)
      (λ ps all. let each = meet_each ps all in
      met_at (outs-Tup ps) (meets_tuple (ap out-Ty (substituted_tup by ps) ∙ outs-Tup _) each.meets) each.obeys)
      (λ p q m n. met_at (outs-Arrow p q) (meets_arrow (ap out-Ty (substituted_arrow by p q)
      ∙ outs-Arrow _ _) m.meets n.meets) (obeys_both by m.meetings n.meetings m.obeys n.obeys))

  -- a word whose meetings are obeyed
  pub record Matched (x : Ty-F Ty Field) (fs : List Factor) : Type 0 where
    pub word : List ℕ
    pub meetings : List Meeting
    pub split : Splits x fs word meetings
    pub obeys : ObeysAll by meetings

  record MatchedEach (ps : List Ty) (pieces : List (List Factor)) : Type 0 where
    word : List ℕ
    meetings : List Meeting
    split : SplitEach ps pieces word meetings
    obeys : ObeysAll by meetings

  abbrev pub IsFound : Ty → Type 0
  IsFound p = (fs : List Factor) → Agree (factors (substituted by p)) fs → Matched (out-Ty p) fs

  given_at : (p : Ty) {x : Ty-F Ty Field} → out-Ty p ≡ x → given by x ≡ substituted by p
  given_at p e = ap (given by) (sym e) ∙ given_out by p

  -- what is met inside an atom is met by the atom
  find_atom : (p : Ty) {x : Ty-F Ty Field} → out-Ty p ≡ x → factors (given by x) ≡ factor.Atom (given by x) ∷ []
      → ((f : Factor) (t : Ty) (ms : List Meeting) → out-Factor f ≡ Atom t → Meets x t ms → Splits x (f ∷ []) [] ms)
      → IsFound p
  find_atom p {x} e alone split fs a =
      let m = meet p in
      let s =
      single_atom (subst (λ l. Agree l fs) (subst (λ t. factors t ≡ factor.Atom t ∷ []) (given_at p e) alone) a) in
      subst (Matched (out-Ty p)) (sym s.1) (record {
        word = [];
        meetings = m.meetings;
        obeys = m.obeys;
        split =
            subst (λ y. Splits y (s.0 ∷ []) [] m.meetings) (sym e)
            (split s.0 (substituted by p) m.meetings s.2
            (subst (λ y. Meets y (substituted by p) m.meetings) e m.meets));
      })

  find_each : (ps : List Ty) → EachOf IsFound ps → {pieces : List (List Factor)}
      → AllAgree pieces (map factors (map (substituted by) ps)) → MatchedEach ps pieces
  find_each [] all all_none = record { word = []; meetings = []; split = split_none; obeys = tt }
  find_each (p ∷ ps) all (all_more {fs} a rest) =
      let m = all.0 fs (agree_sym a) in
      let n = find_each ps all.1 rest in
      record {
        word = m.word ++ n.word;
        meetings = m.meetings ++ n.meetings;
        split = split_more m.split n.split;
        obeys = obeys_both by m.meetings n.meetings m.obeys n.obeys;
      }

  same_length : (ps : List Ty) → length ps ≡ length (map factors (map (substituted by) ps))
  same_length [] = refl
  same_length (p ∷ ps) = ap suc (same_length ps)

  find_tuple : (ps : List Ty) → EachOf IsFound ps → {fs : List Factor}
      → Agree (concatenated (map factors (map (substituted by) ps))) fs → Matched (Tup ps) fs
  find_tuple ps all a =
      let d = dealing (agree_sym a) (length ps) 0 _ (same_length ps) refl in
      let m = find_each ps all d.agree in
      record { word = d.letters ++ m.word; meetings = m.meetings; split = split_tuple d.dealt m.split; obeys = m.obeys }

  find_other : {p q : Ty} {fs : List Factor} → IsNotOneArrow fs → Matched (out-Ty p) [] → Matched (out-Ty q) fs
      → Matched (Arrow p q) fs
  find_other n a b = record {
    word = a.word ++ b.word;
    meetings = a.meetings ++ b.meetings;
    split = split_other n a.split b.split;
    obeys = obeys_both by a.meetings b.meetings a.obeys b.obeys;
  }

  find_arrow : {p q : Ty} {f : Factor} {arguments results sent kept : List Factor} {letters : List ℕ}
      → out-Factor f ≡ Arr arguments results → Sorted letters arguments sent kept
      → Matched (out-Ty p) sent → Matched (out-Ty q) (factors_of_arrow kept results) → Matched (Arrow p q) (f ∷ [])
  find_arrow {letters} e s a b = record {
    word = letters ++ (a.word ++ b.word);
    meetings = a.meetings ++ b.meetings;
    split = split_arrow e s a.split b.split;
    obeys = obeys_both by a.meetings b.meetings a.obeys b.obeys;
  }

  -- the left side has no factors, and the list is one single arrow
  kept_all : {p q : Ty} → IsFound p → IsFound q → factors (substituted by p) ≡ [] → {f : Factor}
      → Agree (factors (substituted by q)) (f ∷ [])
      → {arguments results : List Factor} → out-Factor f ≡ Arr arguments results → Matched (Arrow p q) (f ∷ [])
  kept_all {p} {q} F G none_left a {arguments} {results} e =
      let g = single (agree_sym a) in
      let l = like_arrow e g.like in
      let w = whole l.is (subst AreFactors g.is (are_factors (substituted by q))) in
      let r = sorting (agree_refl arguments) [] arguments refl in
      find_arrow e r.sorted (F r.sent (agree_trans (agree_of_eq none_left) (agree_sym r.left)))
      (G (factors_of_arrow r.kept results) (agree_trans (agree_of_eq (g.is
      ∙ sym w.again)) (agree_arrow (agree_sym (agree_trans r.right l.left)) (agree_sym l.right))))

  none_sent : {p q : Ty} → IsFound p → IsFound q → factors (substituted by p) ≡ [] → (fs : List Factor)
      → Agree (factors (substituted by q)) fs
      → IsOneArrow fs ⊎ IsNotOneArrow fs → Matched (Arrow p q) fs
  none_sent F G none_left fs a (inr n) = find_other n (F [] (agree_of_eq none_left)) (G fs a)
  none_sent {p} {q} F G none_left fs a (inl one) =
      subst (Matched (Arrow p q)) (sym one.is)
      (kept_all F G none_left (subst (Agree (factors (substituted by q))) one.is a) one.out)

  -- the left side has factors
  some_sent : {p q : Ty} → IsFound p → IsFound q → {x : Factor} {xs : List Factor}
      → factors (substituted by p) ≡ x ∷ xs → Opened x xs (factors (substituted by q))
      → {fs : List Factor} → Agree (factors_of_arrow (x ∷ xs) (factors (substituted by q))) fs → Matched (Arrow p q) fs
  some_sent {p} {q} F G {x} {xs} left o {fs} a =
      let f = single (subst (λ l. Agree l fs) o.is a) in
      let l = like_arrow o.out f.like in
      let r = sorting (agree_sym l.left) (x ∷ xs) o.own refl in
      subst (Matched (Arrow p q)) (sym f.is)
      (find_arrow l.is r.sorted (F r.sent (agree_trans (agree_of_eq left) (agree_sym r.left)))
      (G (factors_of_arrow r.kept l.qs) (agree_trans (agree_of_eq o.again) (agree_arrow (agree_sym r.right) l.right))))

  by_sent : {p q : Ty} → IsFound p → IsFound q → (ps : List Factor) → factors (substituted by p) ≡ ps
      → {fs : List Factor} → Agree (factors_of_arrow ps (factors (substituted by q))) fs → Matched (Arrow p q) fs
  by_sent F G [] left {fs} a = none_sent F G left fs a (arrow_or_not fs)
  by_sent {q} F G (x ∷ xs) left a = some_sent F G left (opened x xs (are_factors (substituted by q))) a

  pub found : (p : Ty) → IsFound p
  found = induct_type IsFound
      (λ v fs a. subst (λ x. Matched x fs) (sym (outs-Var v))
      (record {
        word = [];
        meetings = loosely v fs ∷ [];
        split = split_variable v fs;
        obeys = (subst (λ t. Agree (factors t) fs) (substituted_var by v) a, tt);
      }))
      (λ name ps all. find_atom (ty.Con name ps) (outs-Con name ps) (con_alone by name ps)
      (λ f t ms. split_application name))
      (λ ps all. find_atom (ty.Rec ps) (outs-Rec ps) (rec_alone by ps) (λ f t ms. split_record))
      (λ ps all fs a. subst (λ x. Matched x fs) (sym (outs-Tup ps))
      (find_tuple ps all (subst (λ l. Agree l fs) (ap factors (sym (given_at (ty.Tup ps) (outs-Tup ps)))
      ∙ tup_parts by ps) a)))
      (λ p q F G fs a. subst (λ x. Matched x fs) (sym (outs-Arrow p q))
      (by_sent F G (factors (substituted by p)) refl
      (subst (λ l. Agree l fs) (ap factors (sym (given_at (ty.Arrow p q) (outs-Arrow p q))) ∙ arrow_parts by p q) a)))
