-- What splits a list of factors along a pattern of one form.
use Rattle.std.proofs.Common.{◌≡◌, ℕ, List, [], ◌∷◌, ◌++◌, length, refl, sym, ap, ◌∙◌, subst, append-nil, append_assoc, arith}
use Rattle.type_core.specs.declared.ty.VarId.{VarId}
use Rattle.type_core.specs.declared.ty.Ty.{Ty}
use Rattle.type_core.specs.declared.ty.Field.{Field}
use Rattle.type_core.specs.declared.ty.Ty.TheOpen.{Ty-F, Var, Tup, Arrow}
use Rattle.type_core.specs.declared.ty.Ty.TheViews.{out-Ty}
use Rattle.iso_normal.specs.declared.factor.Factor.{Factor}
use Rattle.iso_normal.specs.declared.factor.Factor.TheOpen.{Factor-F, Atom, Arr}
use Rattle.iso_normal.specs.declared.factor.Factor.TheViews.{out-Factor}
use Rattle.iso_normal.specs.Factors.{IsNotOneArrow, factors_of_arrow}
use Rattle.linear_match.specs.Meetings.{Meeting, Meets, loosely}
use Rattle.linear_match.specs.Splits.{Dealt, Sorted, SplitEach, Splits, split_application, split_arrow, split_more, split_none, split_other, split_record, split_tuple, split_variable}
use Rattle.linear_match.specs.search.Tasks.{IsRigid, application, labelled}
use Rattle.linear_match.proofs.Wholes.{not_both}

-- a variable takes the list
pub record OfVariable (v : VarId) (fs : List Factor) (word : List ℕ) (ms : List Meeting) : Type 0 where
  pub empty : word ≡ []
  pub meetings : ms ≡ loosely v fs ∷ []

pub of_variable : {v : VarId} {fs : List Factor} {word : List ℕ} {ms : List Meeting} → Splits (Var v) fs word ms
    → OfVariable v fs word ms
of_variable (split_variable v fs) = record { empty = refl; meetings = refl }

-- an application or a record meets the one atom
pub record OfAtom (x : Ty-F Ty Field) (fs : List Factor) (word : List ℕ) (ms : List Meeting) : Type 0 where
  pub factor : Factor
  pub type : Ty
  pub one : fs ≡ factor ∷ []
  pub atom : out-Factor factor ≡ Atom type
  pub empty : word ≡ []
  pub meets : Meets x type ms

pub of_atom : {x : Ty-F Ty Field} → IsRigid x → {fs : List Factor} {word : List ℕ} {ms : List Meeting}
    → Splits x fs word ms → OfAtom x fs word ms
of_atom (application name ts) (split_application {f} {t} _ e m) =
    record { factor = f; type = t; one = refl; atom = e; empty = refl; meets = m }
of_atom (labelled fields) (split_record {f} {t} e m) =
    record { factor = f; type = t; one = refl; atom = e; empty = refl; meets = m }

pub to_atom : {x : Ty-F Ty Field} → IsRigid x → {f : Factor} {t : Ty} {ms : List Meeting} → out-Factor f ≡ Atom t
    → Meets x t ms → Splits x (f ∷ []) [] ms
to_atom (application name ts) e m = split_application name e m
to_atom (labelled fields) e m = split_record e m

-- a tuple's letters deal the factors
pub record OfTuple (ps : List Ty) (fs : List Factor) (word : List ℕ) (ms : List Meeting) : Type 0 where
  pub letters : List ℕ
  pub rest : List ℕ
  pub pieces : List (List Factor)
  pub is : word ≡ letters ++ rest
  pub dealt : Dealt (length ps) 0 letters fs pieces
  pub split : SplitEach ps pieces rest ms

pub of_tuple : {ps : List Ty} {fs : List Factor} {word : List ℕ} {ms : List Meeting} → Splits (Tup ps) fs word ms
    → OfTuple ps fs word ms
of_tuple (split_tuple {letters} {word} {pieces} d each) =
    record { letters = letters; rest = word; pieces = pieces; is = refl; dealt = d; split = each }

-- an arrow over one arrow sorts its arguments
pub record OfArrow (p q : Ty) (arguments results : List Factor) (word : List ℕ) (ms : List Meeting) : Type 0 where
  pub letters : List ℕ
  pub rest : List ℕ
  pub sent : List Factor
  pub kept : List Factor
  pub is : word ≡ letters ++ rest
  pub sorted : Sorted letters arguments sent kept
  pub split : SplitEach (p ∷ q ∷ []) (sent ∷ factors_of_arrow kept results ∷ []) rest ms

pub both_sides : {p q : Ty} {xs ys : List Factor} {word last : List ℕ} {ms ns : List Meeting}
    → Splits (out-Ty p) xs word ms → Splits (out-Ty q) ys last ns
    → SplitEach (p ∷ q ∷ []) (xs ∷ ys ∷ []) (word ++ last) (ms ++ ns)
both_sides {p} {q} {xs} {ys} {word} {last} {ms} {ns} m n =
    subst (λ w. SplitEach (p ∷ q ∷ []) (xs ∷ ys ∷ []) (word ++ w) (ms ++ ns)) (append-nil last)
    (subst (λ k. SplitEach (p ∷ q ∷ []) (xs ∷ ys ∷ []) (word ++ (last ++ [])) (ms ++ k)) (append-nil ns)
    (split_more m (split_more n split_none)))

arr_parts : {xs ys ps qs : List Factor} → ◌≡◌ {A = Factor-F Factor} (Arr xs ps) (Arr ys qs) → (xs ≡ ys) × (ps ≡ qs)
arr_parts e = (cc e, cc e)

pub of_arrow : {p q : Ty} {f : Factor} {arguments results : List Factor} {word : List ℕ} {ms : List Meeting}
    → out-Factor f ≡ Arr arguments results → Splits (Arrow p q) (f ∷ []) word ms
    → OfArrow p q arguments results word ms
of_arrow {p} {q} e (split_arrow {arguments} {results} {sent} {kept} {letters} {word} {last} {ms} {ns} i s m n) =
    let same = arr_parts (sym i ∙ e) in
    record {
      letters = letters;
      rest = word ++ last;
      sent = sent;
      kept = kept;
      is = refl;
      sorted = subst (λ xs. Sorted letters xs sent kept) same.0 s;
      split = subst (λ rs. SplitEach (p ∷ q ∷ []) (sent ∷ factors_of_arrow kept rs ∷ []) (word ++ last) (ms ++ ns))
          same.1 (both_sides m n);
    }
of_arrow e (split_other i m n) = absurd (not_both e i)

-- over another list the left side gets no factors
pub of_other : {p q : Ty} {fs : List Factor} {word : List ℕ} {ms : List Meeting} → IsNotOneArrow fs
    → Splits (Arrow p q) fs word ms → SplitEach (p ∷ q ∷ []) ([] ∷ fs ∷ []) word ms
of_other i (split_arrow e s m n) = absurd (not_both e i)
of_other i (split_other _ m n) = both_sides m n

-- patterns one after the other
pub joined_splits : {ps qs : List Ty} {pieces others : List (List Factor)} {w v : List ℕ} {ms ns : List Meeting}
    → SplitEach ps pieces w ms → SplitEach qs others v ns
    → SplitEach (ps ++ qs) (pieces ++ others) (w ++ v) (ms ++ ns)
joined_splits split_none two = two
joined_splits {ps} {qs} {pieces} {others} {v} {ns = ks}
    (split_more {p} {ps = rs} {fs} {pieces = more} {word} {last} {ms} {ns} m each) two =
    subst (λ w. SplitEach (p ∷ (rs ++ qs)) (fs ∷ (more ++ others)) w ((ms ++ ns) ++ ks))
    (sym (append_assoc word last v))
    (subst (SplitEach (p ∷ (rs ++ qs)) (fs ∷ (more ++ others)) (word ++ (last ++ v))) (sym (append_assoc ms ns ks))
    (split_more m (joined_splits each two)))

pub record InTwo (ps qs : List Ty) (pieces others : List (List Factor)) (word : List ℕ) (ms : List Meeting) : Type 0
  where
    pub front : List ℕ
    pub back : List ℕ
    pub fronts : List Meeting
    pub backs : List Meeting
    pub is : word ≡ front ++ back
    pub told : ms ≡ fronts ++ backs
    pub one : SplitEach ps pieces front fronts
    pub two : SplitEach qs others back backs

pub in_two : (ps qs : List Ty) (pieces others : List (List Factor)) {word : List ℕ} {ms : List Meeting}
    → length ps ≡ length pieces → SplitEach (ps ++ qs) (pieces ++ others) word ms
    → InTwo ps qs pieces others word ms
in_two [] qs [] others {word} {ms} e each =
    record { front = []; back = word; fronts = []; backs = ms; is = refl; told = refl; one = split_none; two = each }
in_two [] qs (piece ∷ pieces) others e each = absurd (omega (e, arith))
in_two (p ∷ ps) qs [] others e each = absurd (omega (e, arith))
in_two (p ∷ ps) qs (piece ∷ pieces) others e (split_more {word} {last} {ms} {ns} m each) =
    let r = in_two ps qs pieces others (omega (e, arith)) each in
    record {
      front = word ++ r.front;
      back = r.back;
      fronts = ms ++ r.fronts;
      backs = r.backs;
      is = ap (λ x. word ++ x) r.is ∙ sym (append_assoc word r.front r.back);
      told = ap (λ x. ms ++ x) r.told ∙ sym (append_assoc ms r.fronts r.backs);
      one = split_more m r.one;
      two = r.two;
    }
