-- The words of two splits of one list along one pattern are the same where they begin alike, and a word tells its
-- meetings.
use Rattle.std.proofs.Common.{◌≡◌, ℕ, ◌+◌, ◌%◌, List, [], ◌∷◌, ◌++◌, refl, sym, ap, ap₂, ◌∙◌, subst, append-nil, append_assoc, arith}
use Rattle.type_core.specs.declared.ty.NameId.{NameId}
use Rattle.type_core.specs.declared.ty.Ty.{Ty}
use Rattle.type_core.specs.declared.ty.Field.{Field}
use Rattle.type_core.specs.declared.ty.Ty.TheOpen.{Ty-F, Con, Rec, Tup, Arrow}
use Rattle.type_core.specs.declared.ty.Ty.TheViews.{out-Ty}
use Rattle.iso_normal.specs.declared.factor.Factor.{Factor}
use Rattle.iso_normal.specs.declared.factor.Factor.TheOpen.{Factor-F, Atom}
use Rattle.iso_normal.specs.Factors.{factors_of_arrow}
use Rattle.linear_match.specs.Meetings.{MeetEach, MeetFields, Meeting, Meets, fields_more, fields_none, meet_more, meet_none, meets_application, meets_arrow, meets_record, meets_tuple, meets_variable}
use Rattle.linear_match.specs.Splits.{Dealt, Sorted, SplitEach, Splits, dealt_more, dealt_none, keep, put_at, send, sorted_none, split_application, split_arrow, split_more, split_none, split_other, split_record, split_tuple, split_variable}
use Rattle.linear_match.proofs.Wholes.{arr_same, not_both}

-- two words that begin two equal lists are equal, and so is what comes after them and what they tell
pub record Alike {A : Type 0} (w v r q : List ℕ) (x y : A) : Type 0 where
  pub word : w ≡ v
  pub rest : r ≡ q
  pub told : x ≡ y

head_same : {a b : ℕ} {r s : List ℕ} → a ∷ r ≡ b ∷ s → a ≡ b
head_same e = cc e

tail_same : {a b : ℕ} {r s : List ℕ} → a ∷ r ≡ b ∷ s → r ≡ s
tail_same e = cc e

zero_not_one : {r s : List ℕ} → 0 ∷ r ≡ 1 ∷ s → ⊥
zero_not_one e = let h : 0 ≡ 1 = head_same e in omega (h, arith)

regroup : (w w' r v v' q : List ℕ) → (w ++ w') ++ r ≡ (v ++ v') ++ q → w ++ (w' ++ r) ≡ v ++ (v' ++ q)
regroup w w' r v v' q e = sym (append_assoc w w' r) ∙ e ∙ append_assoc v v' q

dealt_alike : {n j : ℕ} {fs : List Factor} {w v : List ℕ} {x y : List (List Factor)} (r q : List ℕ) → Dealt n j w fs x
    → Dealt n j v fs y → w ++ r ≡ v ++ q → Alike w v r q x y
dealt_alike r q (dealt_none j) (dealt_none _) e = record { word = refl; rest = e; told = refl }
dealt_alike {n} {j} r q (dealt_more l f b d) (dealt_more k _ c g) e =
    let a = dealt_alike r q d g (tail_same e) in
    let h = head_same e in
    record { word = ap₂ ◌∷◌ h a.word; rest = a.rest; told = ap₂ (λ i x. put_at ((j + i) % n) f x) h a.told }

sorted_alike : {fs : List Factor} {w v : List ℕ} {x y xs ys : List Factor} (r q : List ℕ) → Sorted w fs x xs
    → Sorted v fs y ys → w ++ r ≡ v ++ q → Alike w v r q x y × (xs ≡ ys)
sorted_alike r q sorted_none sorted_none e = (record { word = refl; rest = e; told = refl }, refl)
sorted_alike r q (send f s) (send _ t) e = let a = sorted_alike r q s t (tail_same e) in
    (record { word = ap (λ w. 0 ∷ w) a.0.word; rest = a.0.rest; told = ap (λ x. f ∷ x) a.0.told }, a.1)
sorted_alike r q (keep f s) (keep _ t) e = let a = sorted_alike r q s t (tail_same e) in
    (record { word = ap (λ w. 1 ∷ w) a.0.word; rest = a.0.rest; told = a.0.told }, ap (λ x. f ∷ x) a.1)
sorted_alike r q (send f s) (keep _ t) e = absurd (zero_not_one e)
sorted_alike r q (keep f s) (send _ t) e = absurd (zero_not_one (sym e))

-- the parts of equal levels
con_same : {n m : NameId} {ts us : List Ty} → ◌≡◌ {A = Ty-F Ty Field} (Con n ts) (Con m us) → ts ≡ us
con_same e = cc e

rec_same : {ts us : List Field} → ◌≡◌ {A = Ty-F Ty Field} (Rec ts) (Rec us) → ts ≡ us
rec_same e = cc e

tup_same : {ts us : List Ty} → ◌≡◌ {A = Ty-F Ty Field} (Tup ts) (Tup us) → ts ≡ us
tup_same e = cc e

arrow_same : {a b c d : Ty} → ◌≡◌ {A = Ty-F Ty Field} (Arrow a b) (Arrow c d) → (a ≡ c) × (b ≡ d)
arrow_same e = (cc e, cc e)

atom_same : {t u : Ty} → ◌≡◌ {A = Factor-F Factor} (Atom t) (Atom u) → t ≡ u
atom_same e = cc e

-- a pattern and a type tell the meetings
mutual
  pub met_once : {x : Ty-F Ty Field} {t : Ty} {ms ns : List Meeting} → Meets x t ms → Meets x t ns → ms ≡ ns
  met_once (meets_variable v t) (meets_variable _ _) = refl
  met_once (meets_application {ps} name e each) (meets_application {ms = ns} _ g all) =
      each_once each (subst (λ ts. MeetEach ps ts ns) (con_same (sym g ∙ e)) all)
  met_once (meets_record {ps} e each) (meets_record {ms = ns} g all) =
      fields_once each (subst (λ ts. MeetFields ps ts ns) (rec_same (sym g ∙ e)) all)
  met_once (meets_tuple {ps} e each) (meets_tuple {ms = ns} g all) =
      each_once each (subst (λ ts. MeetEach ps ts ns) (tup_same (sym g ∙ e)) all)
  met_once (meets_arrow {p} {q} e m n) (meets_arrow {ms = ms2} {ns = ns2} g k l) = let s = arrow_same (sym g ∙ e) in
      ap₂ ◌++◌ (met_once m (subst (λ t. Meets (out-Ty p) t ms2) s.0 k))
      (met_once n (subst (λ t. Meets (out-Ty q) t ns2) s.1 l))

  each_once : {ps ts : List Ty} {ms ns : List Meeting} → MeetEach ps ts ms → MeetEach ps ts ns → ms ≡ ns
  each_once meet_none meet_none = refl
  each_once (meet_more m each) (meet_more n all) = ap₂ ◌++◌ (met_once m n) (each_once each all)

  fields_once : {ps ts : List Field} {ms ns : List Meeting} → MeetFields ps ts ms → MeetFields ps ts ns → ms ≡ ns
  fields_once fields_none fields_none = refl
  fields_once (fields_more l m each) (fields_more k n all) = ap₂ ◌++◌ (met_once m n) (fields_once each all)

-- words and lists tell the meetings
mutual
  pub alike : {x : Ty-F Ty Field} {fs : List Factor} {w v : List ℕ} {ms ns : List Meeting} (r q : List ℕ)
      → Splits x fs w ms → Splits x fs v ns → w ++ r ≡ v ++ q → Alike w v r q ms ns
  alike r q (split_variable v fs) (split_variable _ _) e = record { word = refl; rest = e; told = refl }
  alike r q (split_application {ps} name i m) (split_application {ms = ns} _ j n) e =
      record {
        word = refl;
        rest = e;
        told =
            met_once m (subst (λ t. Meets (Con name ps) t ns) (atom_same (sym j ∙ i)) n);
      }
  alike r q (split_record {ps} i m) (split_record {ms = ns} j n) e =
      record { word = refl; rest = e; told = met_once m (subst (λ t. Meets (Rec ps) t ns) (atom_same (sym j ∙ i)) n) }
  alike r q (split_tuple {ps} {letters} {word} d each) (split_tuple {letters = letters2} {word = word2} {ms =
      ns} d2 all) e =
      let a = dealt_alike (word ++ r) (word2 ++ q) d d2 (regroup letters word r letters2 word2 q e) in
      let b = each_alike r q each (subst (λ x. SplitEach ps x word2 ns) (sym a.told) all) a.rest in
      record { word = ap₂ ◌++◌ a.word b.word; rest = b.rest; told = b.told }
  alike r q (split_arrow {p} {q =
      t} {arguments} {results} {sent} {kept} {letters} {word} {last} i s m n) (split_arrow {arguments = a2} {results =
      r2} {sent = s2} {kept = k2} {letters = l2} {word = w2} {last = z2} {ms = ms2} {ns = ns2} j s' k l) e =
      let same = arr_same (sym j ∙ i) in
      let h =
      sorted_alike ((word ++ last) ++ r) ((w2 ++ z2) ++ q) s (subst (λ xs. Sorted l2 xs s2 k2) same.0 s')
      (regroup letters (word ++ last) r l2 (w2 ++ z2) q e) in
      let a =
      alike (last ++ r) (z2 ++ q) m (subst (λ xs. Splits (out-Ty p) xs w2 ms2) (sym h.0.told) k)
      (regroup word last r w2 z2 q h.0.rest) in
      let b =
      alike r q n (subst (λ xs. Splits (out-Ty t) xs z2 ns2) (ap₂ factors_of_arrow (sym h.1) same.1) l) a.rest in
      record { word = ap₂ ◌++◌ h.0.word (ap₂ ◌++◌ a.word b.word); rest = b.rest; told = ap₂ ◌++◌ a.told b.told }
  alike r q (split_arrow i s m n) (split_other j k l) e = absurd (not_both i j)
  alike r q (split_other j k l) (split_arrow i s m n) e = absurd (not_both i j)
  alike r q (split_other {word} {last} i m n) (split_other {word = w2} {last = z2} j k l) e =
      let a = alike (last ++ r) (z2 ++ q) m k (regroup word last r w2 z2 q e) in
      let b = alike r q n l a.rest in
      record { word = ap₂ ◌++◌ a.word b.word; rest = b.rest; told = ap₂ ◌++◌ a.told b.told }

  each_alike : {ps : List Ty} {pieces : List (List Factor)} {w v : List ℕ} {ms ns : List Meeting} (r q : List ℕ)
      → SplitEach ps pieces w ms → SplitEach ps pieces v ns → w ++ r ≡ v ++ q → Alike w v r q ms ns
  each_alike r q split_none split_none e = record { word = refl; rest = e; told = refl }
  each_alike r q (split_more {word} {last} m each) (split_more {word = w2} {last = z2} n all) e =
      let a = alike (last ++ r) (z2 ++ q) m n (regroup word last r w2 z2 q e) in
      let b = each_alike r q each all a.rest in
      record { word = ap₂ ◌++◌ a.word b.word; rest = b.rest; told = ap₂ ◌++◌ a.told b.told }

-- no proper prefix
pub no_prefix : {x : Ty-F Ty Field} {fs : List Factor} {w v : List ℕ} {ms ns : List Meeting} (q : List ℕ)
    → Splits x fs w ms → Splits x fs v ns → w ≡ v ++ q → q ≡ []
no_prefix {w} q m n e = sym (alike [] q m n (append-nil w ∙ e)).rest

-- a word tells its meetings
pub told_once : {x : Ty-F Ty Field} {fs : List Factor} {w v : List ℕ} {ms ns : List Meeting} → Splits x fs w ms
    → Splits x fs v ns → w ≡ v → ms ≡ ns
told_once m n e = (alike [] [] m n (ap (λ w. w ++ []) e)).told
