-- What the words of a task are, by the form of its pattern, and what they are while factors are dealt and sorted.
use Rattle.std.proofs.Common.{◌≡◌, ℕ, zero, suc, ◌+◌, ◌%◌, ◌<◌, List, [], ◌∷◌, ◌++◌, length, replicate, refl, sym, ap, ap₂, ◌∙◌, subst, append-nil, append_assoc, arith}
use Rattle.type_core.specs.declared.ty.VarId.{VarId}
use Rattle.type_core.specs.declared.ty.Ty.{Ty}
use Rattle.type_core.specs.declared.ty.Field.{Field}
use Rattle.type_core.specs.declared.ty.Ty.TheOpen.{Ty-F, Var, Tup, Arrow}
use Rattle.type_core.specs.declared.ty.Ty.TheViews.{out-Ty}
use Rattle.iso_normal.specs.declared.factor.Factor.{Factor}
use Rattle.iso_normal.specs.declared.factor.Factor.TheOpen.{Atom, Arr}
use Rattle.iso_normal.specs.declared.factor.Factor.TheViews.{out-Factor}
use Rattle.iso_normal.specs.Factors.{IsNotOneArrow, factors_of_arrow}
use Rattle.linear_match.specs.declared.search.Task.{Task}
use Rattle.linear_match.specs.Meetings.{Meeting, Meets, loosely}
use Rattle.linear_match.specs.Splits.{Dealt, Sorted, SplitEach, Splits, dealt_more, dealt_none, keep, put_at, send, sorted_none, split_arrow, split_more, split_other, split_tuple, split_variable}
use Rattle.linear_match.specs.search.Tasks.{DealsOn, IsRigid, SortsOn, Wanted, each_before, patterns_of, pieces_of}
use Rattle.linear_match.proofs.Best.{After, BeginsBelow, Within}
use Rattle.linear_match.proofs.Dealing.{dealt_length}
use Rattle.linear_match.proofs.Inverted.{in_two, joined_splits, of_arrow, of_atom, of_other, of_tuple, of_variable, to_atom}

-- patterns, the first of which is p, over pieces, the first of which is fs
abbrev pub Matches : List Ty → List (List Factor) → Wanted
Matches ps pieces word ms = SplitEach ps pieces word ms

at_out : {x : Ty-F Ty Field} (p : Ty) {fs : List Factor} {word : List ℕ} {ms : List Meeting} → out-Ty p ≡ x
    → Splits (out-Ty p) fs word ms → Splits x fs word ms
at_out p {fs} {word} {ms} e s = subst (λ x. Splits x fs word ms) e s

from_out : {x : Ty-F Ty Field} (p : Ty) {fs : List Factor} {word : List ℕ} {ms : List Meeting} → out-Ty p ≡ x
    → Splits x fs word ms → Splits (out-Ty p) fs word ms
from_out p {fs} {word} {ms} e s = subst (λ x. Splits x fs word ms) (sym e) s

module _ (p : Ty) (qs : List Ty) (fs : List Factor) (others : List (List Factor)) where
  abbrev First : Wanted
  First = Matches (p ∷ qs) (fs ∷ others)

  abbrev Rest : Wanted
  Rest = Matches qs others

  at_word : {w v : List ℕ} {ms ns : List Meeting} → v ≡ w → ns ≡ ms → First v ns → First w ms
  at_word {w} {ns} e f s = subst (First w) f (subst (λ v. First v ns) e s)

  -- a variable
  module _ (v : VarId) (e : out-Ty p ≡ Var v) where
    pub variable_first : Within (After (loosely v fs ∷ []) Rest) First
    variable_first w ns a = at_word refl (sym a.is) (split_more (from_out p e (split_variable v fs)) a.wanted)

    pub first_variable : Within First (After (loosely v fs ∷ []) Rest)
    first_variable w ns (split_more {last} {ns = ks} s each) =
        let o = of_variable (at_out p e s) in
        record {
          rest = ks;
          is = ap (λ ms. ms ++ ks) o.meetings;
          wanted =
              subst (λ w. Rest w ks) (sym (ap (λ w. w ++ last) o.empty)) each;
        }

  -- an application or a record
  module _ (rigid : IsRigid (out-Ty p)) where
    pub atom_first : {f : Factor} {t : Ty} {ks : List Meeting} → fs ≡ f ∷ [] → out-Factor f ≡ Atom t
        → Meets (out-Ty p) t ks → Within (After ks Rest) First
    atom_first {ks} i e m w ns a =
        at_word refl (sym a.is) (split_more (subst (λ fs. Splits (out-Ty p) fs [] ks) (sym i) (to_atom rigid e m))
        a.wanted)

    pub first_atom : {w : List ℕ} {ns : List Meeting} → First w ns
        → (f : Factor) × (t : Ty) × (fs ≡ f ∷ []) × (out-Factor f ≡ Atom t) × (ks : List Meeting) × Meets (out-Ty p) t
        ks × After ks Rest w ns
    first_atom (split_more {last} {ms} {ns = ks} s each) =
        let o = of_atom rigid s in (
          o.factor,
          o.type,
          o.one,
          o.atom,
          ms,
          o.meets,
          record
              { rest = ks; is = refl; wanted = subst (λ w. Rest w ks) (sym (ap (λ w. w ++ last) o.empty)) each },
        )

-- a tuple
before_none : (pieces : List (List Factor)) → each_before pieces (replicate (length pieces) []) ≡ pieces
before_none [] = refl
before_none (piece ∷ pieces) = ap₂ ◌∷◌ (append-nil piece) (before_none pieces)

none_before : (n : ℕ) (pieces : List (List Factor)) → length pieces ≡ n → each_before (replicate n []) pieces ≡ pieces
none_before zero [] e = refl
none_before zero (piece ∷ pieces) e = absurd (omega (e, arith))
none_before (suc n) [] e = absurd (omega (e, arith))
none_before (suc n) (piece ∷ pieces) e = ap (λ x. piece ∷ x) (none_before n pieces (omega (e, arith)))

module _ (tasks : List Task) (p : Ty) (ps : List Ty) (fs : List Factor) (e : out-Ty p ≡ Tup ps) where
  abbrev Tuples : Wanted
  Tuples = Matches (p ∷ patterns_of tasks) (fs ∷ pieces_of tasks)

  pub first_tuple : Within Tuples (DealsOn ps 0 fs (replicate (length ps) []) tasks)
  first_tuple w ns (split_more {word} {last} s each) =
      let o = of_tuple (at_out p e s) in
      record {
        letters = o.letters;
        rest = o.rest ++ last;
        more = o.pieces;
        is = ap (λ w. w ++ last) o.is ∙ append_assoc o.letters o.rest last;
        dealt = o.dealt;
        split = subst (λ x. SplitEach (ps ++ patterns_of tasks) (x ++ pieces_of tasks) (o.rest ++ last) ns)
            (sym (none_before (length ps) o.pieces (dealt_length o.dealt)))
            (joined_splits o.split each);
      }

  pub tuple_first : Within (DealsOn ps 0 fs (replicate (length ps) []) tasks) Tuples
  tuple_first w ns d =
      let same = none_before (length ps) d.more (dealt_length d.dealt) in
      let t = in_two ps (patterns_of tasks) d.more (pieces_of tasks) (sym (dealt_length d.dealt))
      (subst (λ x. SplitEach (ps ++ patterns_of tasks) (x ++ pieces_of tasks) d.rest ns) same d.split) in
      let s = split_more {p = p} (from_out p e (split_tuple d.dealt t.one)) t.two in
      subst (λ w. Tuples w ns) (append_assoc d.letters t.front t.back ∙ ap (λ x. d.letters ++ x) (sym t.is)
      ∙ sym d.is) (subst (Tuples ((d.letters ++ t.front) ++ t.back)) (sym t.told) s)

-- an arrow
module _ (tasks : List Task) (r p q : Ty) (e : out-Ty r ≡ Arrow p q) where
  module _ (f : Factor) (arguments results : List Factor) (i : out-Factor f ≡ Arr arguments results) where
    abbrev Arrows : Wanted
    Arrows = Matches (r ∷ patterns_of tasks) ((f ∷ []) ∷ pieces_of tasks)

    pub first_arrow : Within Arrows (SortsOn p q arguments results [] [] tasks)
    first_arrow w ns (split_more {last} s each) =
        let o = of_arrow i (at_out r e s) in
        record {
          letters = o.letters;
          rest = o.rest ++ last;
          sends = o.sent;
          keeps = o.kept;
          is = ap (λ w. w ++ last) o.is ∙ append_assoc o.letters o.rest last;
          sorted = o.sorted;
          split = joined_splits o.split each;
        }

    pub arrow_first : Within (SortsOn p q arguments results [] [] tasks) Arrows
    arrow_first w ns d = two_sides d.split where
      two_sides : SplitEach (p ∷ q ∷ patterns_of tasks) (d.sends ∷ factors_of_arrow d.keeps results ∷ pieces_of tasks)
          d.rest ns → Arrows w ns
      two_sides x = by_parts x refl refl where
        by_parts : {v : List ℕ} {ks : List Meeting}
            → SplitEach (p ∷ q ∷ patterns_of tasks) (d.sends ∷ factors_of_arrow d.keeps results ∷ pieces_of tasks) v
            ks → v ≡ d.rest → ks ≡ ns → Arrows w ns
        by_parts (split_more {word} {ms} m (split_more {word = last} {last = end} {ms = ks} {ns = others} n each)) a b
            =
            subst (λ w. Arrows w ns)
            (append_assoc d.letters (word ++ last) end ∙ ap (λ x. d.letters ++ x) (append_assoc word last end ∙ a)
            ∙ sym d.is)
            (subst (Arrows ((d.letters ++ (word ++ last)) ++ end)) (append_assoc ms ks others ∙ b)
            (split_more {p = r} (from_out r e (split_arrow i d.sorted m n)) each))

  module _ (fs : List Factor) (i : IsNotOneArrow fs) where
    abbrev Others : Wanted
    Others = Matches (r ∷ patterns_of tasks) (fs ∷ pieces_of tasks)

    abbrev Both : Wanted
    Both = Matches (p ∷ q ∷ patterns_of tasks) ([] ∷ fs ∷ pieces_of tasks)

    pub first_other : Within Others Both
    first_other w ns (split_more s each) = joined_splits (of_other i (at_out r e s)) each

    pub other_first : Within Both Others
    other_first w ns (split_more {word} {ms} m (split_more {word = last} {last = end} {ms = ks} {ns = others} n each))
        =
        subst (λ w. Others w (ms ++ (ks ++ others))) (append_assoc word last end)
        (subst (Others ((word ++ last) ++ end)) (append_assoc ms ks others)
        (split_more {p = r} (from_out r e (split_other i m n)) each))

-- dealing, letter by letter
abbrev pub added_at : ℕ → Factor → List (List Factor) → List (List Factor)
added_at k f [] = []
added_at zero f (piece ∷ pieces) = (piece ++ f ∷ []) ∷ pieces
added_at (suc k) f (piece ∷ pieces) = piece ∷ added_at k f pieces

moved : (k : ℕ) (f : Factor) (pieces more : List (List Factor))
    → each_before pieces (put_at k f more) ≡ each_before (added_at k f pieces) more
moved zero f [] more = refl
moved (suc k) f [] more = refl
moved zero f (a ∷ pieces) [] = refl
moved (suc k) f (a ∷ pieces) [] = refl
moved zero f (a ∷ pieces) (b ∷ more) = ap (λ x. x ∷ each_before pieces more) (sym (append_assoc a (f ∷ []) b))
moved (suc k) f (a ∷ pieces) (b ∷ more) = ap (λ x. (a ++ b) ∷ x) (moved k f pieces more)

module _ (ps : List Ty) (j : ℕ) (f : Factor) (fs : List Factor) (pieces : List (List Factor)) (tasks : List Task)
  where
    pub deals_begin : (w : List ℕ) (ns : List Meeting) → DealsOn ps j (f ∷ fs) pieces tasks w ns
        → BeginsBelow (length ps) w
    deals_begin w ns d = go d.dealt refl where
      go : {letters : List ℕ} {more : List (List Factor)} → Dealt (length ps) j letters (f ∷ fs) more
          → letters ≡ d.letters → BeginsBelow (length ps) w
      go (dealt_more {letters} l _ b _) e = (l, letters ++ d.rest, b, d.is ∙ ap (λ x. x ++ d.rest) (sym e))

    module _ (l : ℕ) where
      abbrev Later : Wanted
      Later = DealsOn ps (suc j) fs (added_at ((j + l) % length ps) f pieces) tasks

      pub deal_to : l < length ps → (w : List ℕ) (ns : List Meeting) → Later w ns
          → DealsOn ps j (f ∷ fs) pieces tasks (l ∷ w) ns
      deal_to b w ns d = record {
        letters = l ∷ d.letters;
        rest = d.rest;
        more = put_at ((j + l) % length ps) f d.more;
        is = ap (λ x. l ∷ x) d.is;
        dealt = dealt_more l f b d.dealt;
        split = subst (λ x. SplitEach (ps ++ patterns_of tasks) (x ++ pieces_of tasks) d.rest ns)
            (sym (moved ((j + l) % length ps) f pieces d.more)) d.split;
      }

      pub deal_from : (w : List ℕ) (ns : List Meeting) → DealsOn ps j (f ∷ fs) pieces tasks (l ∷ w) ns → Later w ns
      deal_from w ns d = go d.dealt d.is d.split where
        go : {letters : List ℕ} {more : List (List Factor)} → Dealt (length ps) j letters (f ∷ fs) more
            → l ∷ w ≡ letters ++ d.rest
            → SplitEach (ps ++ patterns_of tasks) (each_before pieces more ++ pieces_of tasks) d.rest ns → Later w ns
        go (dealt_more {letters} {pieces = more} k _ b rest) e s = record {
          letters = letters;
          rest = d.rest;
          more = more;
          is = tail e;
          dealt = rest;
          split = subst (λ x. SplitEach (ps ++ patterns_of tasks) (x ++ pieces_of tasks) d.rest ns)
              (moved ((j + k) % length ps) f pieces more
              ∙ ap (λ k. each_before (added_at ((j + k) % length ps) f pieces) more) (sym (head e))) s;
        } where
          head : {a b : ℕ} {r s : List ℕ} → a ∷ r ≡ b ∷ s → a ≡ b
          head e = cc e

          tail : {a b : ℕ} {r s : List ℕ} → a ∷ r ≡ b ∷ s → r ≡ s
          tail e = cc e

module _ (ps : List Ty) (j : ℕ) (pieces : List (List Factor)) (tasks : List Task) (long : length pieces ≡ length ps)
  where
    abbrev Pieces : Wanted
    Pieces = Matches (ps ++ patterns_of tasks) (pieces ++ pieces_of tasks)

    all_before : each_before pieces (replicate (length ps) []) ≡ pieces
    all_before = ap (λ n. each_before pieces (replicate n [])) (sym long) ∙ before_none pieces

    pub deal_ends : Within (DealsOn ps j [] pieces tasks) Pieces
    deal_ends w ns d = go d.dealt d.is d.split where
      go : {letters : List ℕ} {more : List (List Factor)} → Dealt (length ps) j letters [] more → w ≡ letters ++ d.rest
          → SplitEach (ps ++ patterns_of tasks) (each_before pieces more ++ pieces_of tasks) d.rest ns → Pieces w ns
      go (dealt_none _) e s = subst (λ w. Pieces w ns) (sym e)
          (subst (λ x. SplitEach (ps ++ patterns_of tasks) (x ++ pieces_of tasks) d.rest ns) all_before s)

    pub ends_deal : Within Pieces (DealsOn ps j [] pieces tasks)
    ends_deal w ns s = record {
      letters = [];
      rest = w;
      more = replicate (length ps) [];
      is = refl;
      dealt = dealt_none j;
      split = subst (λ x. SplitEach (ps ++ patterns_of tasks) (x ++ pieces_of tasks) w ns) (sym all_before) s;
    }

-- sorting, letter by letter
module _ (p q : Ty) (results : List Factor) (tasks : List Task) where
  abbrev Sorts : List Factor → List Factor → List Factor → Wanted
  Sorts fs sent kept = SortsOn p q fs results sent kept tasks

  abbrev Sides : List Factor → List Factor → Wanted
  Sides sent kept = Matches (p ∷ q ∷ patterns_of tasks) (sent ∷ factors_of_arrow kept results ∷ pieces_of tasks)

  again : {xs ys zs us : List Factor} {w : List ℕ} {ns : List Meeting} → xs ≡ ys → zs ≡ us → Sides xs zs w ns
      → Sides ys us w ns
  again {ys} {zs} {w} {ns} e f s = subst (λ zs. Sides ys zs w ns) f (subst (λ xs. Sides xs zs w ns) e s)

  module _ (f : Factor) (fs sent kept : List Factor) where
    pub sorts_begin : (w : List ℕ) (ns : List Meeting) → Sorts (f ∷ fs) sent kept w ns → BeginsBelow 2 w
    sorts_begin w ns d = go d.sorted refl where
      go : {letters : List ℕ} {xs ys : List Factor} → Sorted letters (f ∷ fs) xs ys → letters ≡ d.letters
          → BeginsBelow 2 w
      go (send {letters} _ s) e = (0, letters ++ d.rest, omega arith, d.is ∙ ap (λ x. x ++ d.rest) (sym e))
      go (keep {letters} _ s) e = (1, letters ++ d.rest, omega arith, d.is ∙ ap (λ x. x ++ d.rest) (sym e))

    pub send_to : (w : List ℕ) (ns : List Meeting) → Sorts fs (sent ++ f ∷ []) kept w ns
        → Sorts (f ∷ fs) sent kept (0 ∷ w) ns
    send_to w ns d = record {
      letters = 0 ∷ d.letters;
      rest = d.rest;
      sends = f ∷ d.sends;
      keeps = d.keeps;
      is = ap (λ x. 0 ∷ x) d.is;
      sorted = send f d.sorted;
      split = again (append_assoc sent (f ∷ []) d.sends) refl d.split;
    }

    pub keep_to : (w : List ℕ) (ns : List Meeting) → Sorts fs sent (kept ++ f ∷ []) w ns
        → Sorts (f ∷ fs) sent kept (1 ∷ w) ns
    keep_to w ns d = record {
      letters = 1 ∷ d.letters;
      rest = d.rest;
      sends = d.sends;
      keeps = f ∷ d.keeps;
      is = ap (λ x. 1 ∷ x) d.is;
      sorted = keep f d.sorted;
      split = again refl (append_assoc kept (f ∷ []) d.keeps) d.split;
    }

    heads : {a b : ℕ} {r s : List ℕ} → a ∷ r ≡ b ∷ s → a ≡ b
    heads e = cc e

    tails : {a b : ℕ} {r s : List ℕ} → a ∷ r ≡ b ∷ s → r ≡ s
    tails e = cc e

    pub send_from : (w : List ℕ) (ns : List Meeting) → Sorts (f ∷ fs) sent kept (0 ∷ w) ns
        → Sorts fs (sent ++ f ∷ []) kept w ns
    send_from w ns d = go d.sorted d.is d.split where
      go : {letters : List ℕ} {xs ys : List Factor} → Sorted letters (f ∷ fs) xs ys → 0 ∷ w ≡ letters ++ d.rest
          → Sides (sent ++ xs) (kept ++ ys) d.rest ns → Sorts fs (sent ++ f ∷ []) kept w ns
      go (send {letters} {sent = xs} {kept = ys} _ s) e x =
          record {
            letters = letters;
            rest = d.rest;
            sends = xs;
            keeps = ys;
            is = tails e;
            sorted = s;
            split =
                again (sym (append_assoc sent (f ∷ []) xs)) refl x;
          }
      go (keep _ s) e x = absurd (omega (heads e, arith))

    pub keep_from : (w : List ℕ) (ns : List Meeting) → Sorts (f ∷ fs) sent kept (1 ∷ w) ns
        → Sorts fs sent (kept ++ f ∷ []) w ns
    keep_from w ns d = go d.sorted d.is d.split where
      go : {letters : List ℕ} {xs ys : List Factor} → Sorted letters (f ∷ fs) xs ys → 1 ∷ w ≡ letters ++ d.rest
          → Sides (sent ++ xs) (kept ++ ys) d.rest ns → Sorts fs sent (kept ++ f ∷ []) w ns
      go (send _ s) e x = absurd (omega (heads e, arith))
      go (keep {letters} {sent = xs} {kept = ys} _ s) e x =
          record {
            letters = letters;
            rest = d.rest;
            sends = xs;
            keeps = ys;
            is = tails e;
            sorted = s;
            split =
                again refl (sym (append_assoc kept (f ∷ []) ys)) x;
          }

  module _ (sent kept : List Factor) where
    pub sort_ends : Within (Sorts [] sent kept) (Sides sent kept)
    sort_ends w ns d = go d.sorted d.is d.split where
      go : {letters : List ℕ} {xs ys : List Factor} → Sorted letters [] xs ys → w ≡ letters ++ d.rest
          → Sides (sent ++ xs) (kept ++ ys) d.rest ns → Sides sent kept w ns
      go sorted_none e x = subst (λ w. Sides sent kept w ns) (sym e) (again (append-nil sent) (append-nil kept) x)

    pub ends_sort : Within (Sides sent kept) (Sorts [] sent kept)
    ends_sort w ns s = record {
      letters = [];
      rest = w;
      sends = [];
      keeps = [];
      is = refl;
      sorted = sorted_none;
      split = again (sym (append-nil sent)) (sym (append-nil kept)) s;
    }
