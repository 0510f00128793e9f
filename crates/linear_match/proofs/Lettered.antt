-- What is found letter by letter.
use Rattle.std.proofs.Common.{◌≡◌, ℕ, zero, suc, ◌+◌, ◌%◌, ◌<◌, ◌≤◌, List, [], ◌∷◌, ◌++◌, drop, get_or, length, Some, slice_get, slice_set, take, refl, sym, ap, ap₂, ◌∙◌, subst, arith}
use Rattle.std.proofs.Math.Seq.{take-append_seam}
use Rattle.std.proofs.lemmas.Option.{slice_get-get_or}
use Rattle.std.proofs.lemmas.List.{drop_more, get_or-set_same, set-get_or, take_more}
use Rattle.type_core.specs.declared.names.TypeName.{TypeName}
use Rattle.type_core.specs.declared.ty.Ty.{Ty}
use Rattle.type_core.specs.declared.ty.Ty.TheViews.{out-Ty}
use Rattle.iso_normal.specs.declared.factor.Factor.{Factor}
use Rattle.iso_normal.specs.Factors.{factors_of_arrow}
use Rattle.linear_match.specs.declared.bindings.Met.{Met}
use Rattle.linear_match.specs.declared.search.Dealing.{Dealing}
use Rattle.linear_match.specs.declared.search.Sorting.{Sorting}
use Rattle.linear_match.specs.declared.search.Task.{Task}
use Rattle.linear_match.specs.Meetings.{Meeting}
use Rattle.linear_match.specs.Splits.{SplitEach, Splits, split_more}
use Rattle.linear_match.specs.search.Bindings.{meetings_of}
use Rattle.linear_match.specs.search.Cutting.{IsTakenByNone, NoneBefore}
use Rattle.linear_match.specs.search.Tasks.{Beginning, DealingFrom, DealsOn, Finds, HasNone, IsRigid, IsSameDealing, SortingFrom, SortsOn}
use Rattle.linear_match.specs.search.Weights.{AreHeld, AreWithin, count, counts}
use Rattle.linear_match.proofs.Best.{BeginsBelow, Within, finds_at, finds_iff, finds_next, none_at_all, none_at_first, none_at_next, none_iff, none_next}
use Rattle.linear_match.proofs.Bound.{some_is}
use Rattle.linear_match.proofs.Cut.{kept_some, none_behind, second}
use Rattle.linear_match.proofs.Likeness.{at_slice}
use Rattle.linear_match.proofs.Searched.{deals_moved, sorts_moved}
use Rattle.linear_match.proofs.Steps.{added_at, deal_from, deal_to, deals_begin, keep_from, keep_to, send_from, send_to, sorts_begin}
use Rattle.linear_match.proofs.Weights.{counts_append}

-- the first of what is left
first_of : (fs : List Factor) (i : ℕ) → i < length fs → (f : Factor) × (drop i fs ≡ f ∷ drop (i + 1) fs)
first_of [] i l = absurd (omega (arith, l))
first_of (f ∷ fs) i l = (get_or (f ∷ fs) i f, drop_more (f ∷ fs) i f l)

next_of : (fs : List Factor) (i : ℕ) (f d : Factor) → i < length fs → f ≡ get_or fs i d
    → drop i fs ≡ f ∷ drop (i + 1) fs
next_of fs i f d l e = drop_more fs i d l ∙ ap (λ x. x ∷ drop (i + 1) fs) (sym e)

pub one_at : (fs : List Factor) (i : ℕ) → i < length fs → (f : Factor) × (f ≡ get_or fs i f)
one_at [] i l = absurd (omega (arith, l))
one_at (g ∷ fs) i l = (
  get_or (g ∷ fs) i g,
  some_is (sym (slice_get-get_or (g ∷ fs) i g l) ∙ slice_get-get_or (g ∷ fs) i (get_or (g ∷ fs) i g) l),
)

counts_next : (fs : List Factor) (i : ℕ) (f d : Factor) → i < length fs → f ≡ get_or fs i d
    → counts (take (i + 1) fs) ≡ counts (take i fs) + count f
counts_next fs i f d l e =
    let more = ap counts (take_more fs i d l ∙ ap (λ x. take i fs ++ x ∷ []) (sym e)) in
    omega (arith, more, counts_append (take i fs) (f ∷ []))

-- pieces with one factor more
pub added_set : (k : ℕ) (f : Factor) (d : List Factor) (pieces : List (List Factor))
    → added_at k f pieces ≡ slice_set pieces k (get_or pieces k d ++ f ∷ [])
added_set zero f d [] = refl
added_set (suc k) f d [] = refl
added_set zero f d (piece ∷ pieces) = refl
added_set (suc k) f d (piece ∷ pieces) = ap (λ x. piece ∷ x) (added_set k f d pieces)

pub length_added : (k : ℕ) (f : Factor) (pieces : List (List Factor)) → length (added_at k f pieces) ≡ length pieces
length_added zero f [] = refl
length_added (suc k) f [] = refl
length_added zero f (piece ∷ pieces) = refl
length_added (suc k) f (piece ∷ pieces) = ap suc (length_added k f pieces)

within_more : (m n : ℕ) (pieces : List (List Factor)) → m ≤ n → AreWithin m pieces → AreWithin n pieces
within_more m n [] l w = tt
within_more m n (piece ∷ pieces) l w = (omega (arith, l, w.0), within_more m n pieces l w.1)

within_added : (n : ℕ) (k : ℕ) (f : Factor) (pieces : List (List Factor)) → AreWithin n pieces
    → AreWithin (n + count f) (added_at k f pieces)
within_added n zero f [] w = tt
within_added n (suc k) f [] w = tt
within_added n zero f (piece ∷ pieces) w =
    (omega (arith, w.0, counts_append piece (f ∷ [])), within_more n (n + count f) pieces (omega arith) w.1)
within_added n (suc k) f (piece ∷ pieces) w = (omega (arith, w.0), within_added n k f pieces w.1)

-- a factor is dealt
module _ (dealing next : Dealing) (at l : ℕ) (tasks : List Task) (f d : Factor)
    (more : at < length dealing.factors.now) (is : f ≡ get_or dealing.factors.now at d)
    (below : l < length dealing.parts.now)
    (a : next.parts.now ≡ dealing.parts.now) (b : next.factors.now ≡ dealing.factors.now)
    (c : next.pieces.items ≡ added_at ((at + l) % length dealing.parts.now) f dealing.pieces.items) where
  one_on : at + 1 ≡ suc at
  one_on = omega arith

  next_dealt : (w : List ℕ) (ns : List Meeting) → DealingFrom next (at + 1) tasks w ns
      → DealingFrom dealing at tasks (l ∷ w) ns
  next_dealt w ns x =
      subst (λ fs. DealsOn dealing.parts.now at fs dealing.pieces.items tasks (l ∷ w) ns)
      (sym (next_of dealing.factors.now at f d more is))
      (deal_to dealing.parts.now at f (drop (at + 1) dealing.factors.now) dealing.pieces.items tasks l below w ns
      (subst (λ j. DealsOn dealing.parts.now j (drop (at + 1) dealing.factors.now)
      (added_at ((at + l) % length dealing.parts.now) f dealing.pieces.items) tasks w ns) one_on
      (deals_moved next.parts.now dealing.parts.now (at + 1) (drop (at + 1) next.factors.now)
      (drop (at + 1) dealing.factors.now) next.pieces.items
      (added_at ((at + l) % length dealing.parts.now) f dealing.pieces.items) tasks
      a (ap (drop (at + 1)) b) c w ns x)))

  dealt_next : (w : List ℕ) (ns : List Meeting) → DealingFrom dealing at tasks (l ∷ w) ns
      → DealingFrom next (at + 1) tasks w ns
  dealt_next w ns x =
      deals_moved dealing.parts.now next.parts.now (at + 1) (drop (at + 1) dealing.factors.now)
      (drop (at + 1) next.factors.now) (added_at ((at + l) % length dealing.parts.now) f dealing.pieces.items)
      next.pieces.items tasks
      (sym a) (ap (drop (at + 1)) (sym b)) (sym c) w ns
      (subst (λ j. DealsOn dealing.parts.now j (drop (at + 1) dealing.factors.now)
      (added_at ((at + l) % length dealing.parts.now) f dealing.pieces.items) tasks w ns) (sym one_on)
      (deal_from dealing.parts.now at f (drop (at + 1) dealing.factors.now) dealing.pieces.items tasks l w ns
      (subst (λ fs. DealsOn dealing.parts.now at fs dealing.pieces.items tasks (l ∷ w) ns)
      (next_of dealing.factors.now at f d more is) x)))

  pub deal_found : {names : List TypeName} {old new : List Met} {before mid after : List ℕ} → mid ≡ before ++ l ∷ []
      → Finds names old new mid after (DealingFrom next (at + 1) tasks)
      → Finds names old new before after (Beginning l (DealingFrom dealing at tasks))
  deal_found e found = finds_next l (DealingFrom next (at + 1) tasks) (DealingFrom dealing at tasks) next_dealt
      dealt_next e found

  pub deal_none : {names : List TypeName} (old : List Met)
      → HasNone names (meetings_of old) (DealingFrom next (at + 1) tasks)
      → HasNone names (meetings_of old) (Beginning l (DealingFrom dealing at tasks))
  deal_none old none = none_next l (DealingFrom next (at + 1) tasks) (DealingFrom dealing at tasks) next_dealt
      dealt_next (meetings_of old) none

  pub deal_held : AreWithin (counts (take at dealing.factors.now)) dealing.pieces.items
      → AreWithin (counts (take (at + 1) next.factors.now)) next.pieces.items
  deal_held w =
      subst (λ fs. AreWithin (counts (take (at + 1) fs)) next.pieces.items) (sym b)
      (subst (λ n. AreWithin n next.pieces.items) (sym (counts_next dealing.factors.now at f d more is))
      (subst (AreWithin (counts (take at dealing.factors.now) + count f)) (sym c)
      (within_added (counts (take at dealing.factors.now)) ((at + l) % length dealing.parts.now) f
      dealing.pieces.items w)))

  pub deal_long : length dealing.pieces.items ≡ length dealing.parts.now
      → length next.pieces.items ≡ length next.parts.now
  deal_long e = ap length c ∙ length_added ((at + l) % length dealing.parts.now) f dealing.pieces.items ∙ e
      ∙ ap length (sym a)

-- letters of a factor
module _ (names : List TypeName) (old : List Met) (dealing : Dealing) (at : ℕ) (tasks : List Task)
    (more : at < length dealing.factors.now) where
  letters_begin : (w : List ℕ) (ns : List Meeting) → DealingFrom dealing at tasks w ns
      → BeginsBelow (length dealing.parts.now) w
  letters_begin w ns d =
      let first = first_of dealing.factors.now at more in
      deals_begin dealing.parts.now at first.0 (drop (at + 1) dealing.factors.now) dealing.pieces.items tasks w ns
      (subst (λ fs. DealsOn dealing.parts.now at fs dealing.pieces.items tasks w ns) first.1 d)

  module _ (k : ℕ) (other : Dealing) (others : List Task) (met : List Met) (same : IsSameDealing other dealing)
      (one : others ≡ tasks) (mid : met ≡ old) where
    as_before : Within (Beginning k (DealingFrom other at others)) (Beginning k (DealingFrom dealing at tasks))
    as_before w ns x = (
      x.0,
      x.1,
      deals_moved other.parts.now dealing.parts.now at (drop at other.factors.now) (drop at dealing.factors.now)
          other.pieces.items dealing.pieces.items tasks
          same.0 (ap (drop at) same.1) same.2 w ns (subst (λ ts. DealingFrom other at ts w ns) one x.2),
    )

    before_as : Within (Beginning k (DealingFrom dealing at tasks)) (Beginning k (DealingFrom other at others))
    before_as w ns x = (
      x.0,
      x.1,
      subst (λ ts. DealingFrom other at ts w ns) (sym one)
          (deals_moved dealing.parts.now other.parts.now at (drop at dealing.factors.now) (drop at other.factors.now)
          dealing.pieces.items other.pieces.items tasks (sym same.0) (ap (drop at) (sym same.1)) (sym same.2) w ns
          x.2),
    )

    pub never_as : HasNone names (meetings_of old) (Beginning k (DealingFrom dealing at tasks))
        → HasNone names (meetings_of met) (Beginning k (DealingFrom other at others))
    never_as none = subst (λ m. HasNone names (meetings_of m) (Beginning k (DealingFrom other at others))) (sym mid)
        (none_iff (meetings_of old) as_before none)

    pub letter_found : NoneBefore names (meetings_of old) (DealingFrom dealing at tasks) k
        → {new : List Met} {before word after : List ℕ} → word ≡ before
        → Finds names met new word after (Beginning k (DealingFrom other at others))
        → Finds names old new before after (DealingFrom dealing at tasks)
    letter_found none {new} {word} {after} e found =
        finds_at names (meetings_of old) (DealingFrom dealing at tasks) (length dealing.parts.now) letters_begin k
        none refl
        (finds_iff as_before before_as
        (subst (λ word. Finds names old new word after (Beginning k (DealingFrom other at others))) e
        (subst (λ m. Finds names m new word after (Beginning k (DealingFrom other at others))) mid found)))

    pub letter_next : NoneBefore names (meetings_of old) (DealingFrom dealing at tasks) k
        → HasNone names (meetings_of met) (Beginning k (DealingFrom other at others))
        → NoneBefore names (meetings_of old) (DealingFrom dealing at tasks) (k + 1)
    letter_next none never =
        none_at_next names (meetings_of old) (DealingFrom dealing at tasks) k none
        (none_iff (meetings_of old) before_as
        (subst (λ m. HasNone names (meetings_of m) (Beginning k (DealingFrom other at others))) mid never))

  pub letter_none : (k : ℕ) → length dealing.parts.now ≤ k
      → NoneBefore names (meetings_of old) (DealingFrom dealing at tasks) k
      → HasNone names (meetings_of old) (DealingFrom dealing at tasks)
  letter_none k past none = none_at_all names (meetings_of old) (DealingFrom dealing at tasks)
      (length dealing.parts.now) letters_begin (λ j l. none j (omega (arith, l, past)))

-- a piece that gets a factor and loses it again is as before
set_twice : {A : Type 0} (k : ℕ) (x y : A) (xs : List A) → slice_set (slice_set xs k x) k y ≡ slice_set xs k y
set_twice zero x y [] = refl
set_twice (suc k) x y [] = refl
set_twice zero x y (z ∷ xs) = refl
set_twice (suc k) x y (z ∷ xs) = ap (λ ys. z ∷ ys) (set_twice k x y xs)

pub piece_back : (k : ℕ) (f : Factor) (xs now ys : List (List Factor)) (d g e : List Factor) (n : ℕ) → k < length xs
    → now ≡ slice_set xs k (get_or xs k d ++ f ∷ []) → n ≡ length (get_or xs k g)
    → ys ≡ slice_set now k (take n (get_or now k e)) → ys ≡ xs
piece_back k f xs now ys d g e n l a b c =
    let either : get_or xs k g ≡ get_or xs k d =
    some_is (sym (slice_get-get_or xs k g l) ∙ slice_get-get_or xs k d l) in
    let there = ap (λ zs. get_or zs k e) a ∙ get_or-set_same xs k (get_or xs k d ++ f ∷ []) e l in
    let back = ap₂ take (b ∙ ap length either) there ∙ take-append_seam (get_or xs k d) (f ∷ []) in
    c ∙ ap₂ (λ zs z. slice_set zs k z) a back ∙ set_twice k (get_or xs k d ++ f ∷ []) (get_or xs k d) xs
    ∙ set-get_or xs k d

-- of two arguments that are the same, the first may be sent and the second kept, as well as the other way round
sent_kept : (p q : Ty) (results : List Factor) (tasks : List Task) (f : Factor) (fs sent kept : List Factor)
    (w : List ℕ) (ns : List Meeting) → SortsOn p q (f ∷ fs) results sent (kept ++ f ∷ []) tasks (0 ∷ w) ns
    → SortsOn p q (f ∷ f ∷ fs) results sent kept tasks (0 ∷ 1 ∷ w) ns
sent_kept p q results tasks f fs sent kept w ns s =
    send_to p q results tasks f (f ∷ fs) sent kept (1 ∷ w) ns
    (keep_to p q results tasks f fs (sent ++ f ∷ []) kept w ns
    (send_from p q results tasks f fs sent (kept ++ f ∷ []) w ns s))

begun : {p : Ty} {ps : List Ty} {fs : List Factor} {pieces : List (List Factor)} {word : List ℕ} {ms : List Meeting}
    → SplitEach (p ∷ ps) (fs ∷ pieces) word ms → (v : List ℕ) × (ks : List Meeting) × Splits (out-Ty p) fs v ks
begun (split_more s rest) = (_, _, s)

-- an argument is sorted
module _ (sorting next : Sorting) (at : ℕ) (tasks : List Task) (f d : Factor)
    (more : at < length sorting.arguments.now) (is : f ≡ get_or sorting.arguments.now at d)
    (a : next.from.now ≡ sorting.from.now) (b : next.to.now ≡ sorting.to.now)
    (c : next.arguments.now ≡ sorting.arguments.now) (r : next.results.now ≡ sorting.results.now) where
  moved_to : (sent kept : List Factor) → next.sent ≡ sent → next.kept ≡ kept → (w : List ℕ) (ns : List Meeting)
      → SortingFrom next (at + 1) tasks w ns
      → SortsOn sorting.from.now sorting.to.now (drop (at + 1) sorting.arguments.now) sorting.results.now sent kept
      tasks w ns
  moved_to sent kept e g w ns s =
      sorts_moved next.from.now next.to.now sorting.from.now sorting.to.now (drop (at + 1) next.arguments.now)
      (drop (at + 1) sorting.arguments.now) next.results.now sorting.results.now next.sent sent next.kept kept
      tasks
      a b (ap (drop (at + 1)) c) r e g w ns s

  moved_from : (sent kept : List Factor) → next.sent ≡ sent → next.kept ≡ kept → (w : List ℕ) (ns : List Meeting)
      → SortsOn sorting.from.now sorting.to.now (drop (at + 1) sorting.arguments.now) sorting.results.now sent kept
      tasks w ns → SortingFrom next (at + 1) tasks w ns
  moved_from sent kept e g w ns s =
      sorts_moved sorting.from.now sorting.to.now next.from.now next.to.now (drop (at + 1) sorting.arguments.now)
      (drop (at + 1) next.arguments.now) sorting.results.now next.results.now sent next.sent kept next.kept tasks
      (sym a) (sym b) (ap (drop (at + 1)) (sym c)) (sym r) (sym e) (sym g) w ns s

  at_drop : (l : ℕ) (w : List ℕ) (ns : List Meeting)
      → SortsOn sorting.from.now sorting.to.now (f ∷ drop (at + 1) sorting.arguments.now) sorting.results.now
      sorting.sent sorting.kept tasks (l ∷ w) ns
      → SortingFrom sorting at tasks (l ∷ w) ns
  at_drop l w ns s = subst
      (λ fs. SortsOn sorting.from.now sorting.to.now fs sorting.results.now sorting.sent sorting.kept tasks (l ∷ w)
      ns) (sym (next_of sorting.arguments.now at f d more is)) s

  of_drop : (l : ℕ) (w : List ℕ) (ns : List Meeting) → SortingFrom sorting at tasks (l ∷ w) ns
      → SortsOn sorting.from.now sorting.to.now (f ∷ drop (at + 1) sorting.arguments.now) sorting.results.now
      sorting.sent sorting.kept tasks (l ∷ w) ns
  of_drop l w ns s = subst
      (λ fs. SortsOn sorting.from.now sorting.to.now fs sorting.results.now sorting.sent sorting.kept tasks (l ∷ w)
      ns) (next_of sorting.arguments.now at f d more is) s

  -- the left side doesn't take it
  pub none_taken : IsTakenByNone sorting.from.now (sorting.sent ++ f ∷ []) → {names : List TypeName}
      (ms : List Meeting) → HasNone names ms (Beginning 0 (SortingFrom sorting at tasks))
  none_taken taken ms w ns x good =
      let s = send_from sorting.from.now sorting.to.now sorting.results.now tasks f
      (drop (at + 1) sorting.arguments.now) sorting.sent sorting.kept x.0 ns
      (of_drop 0 x.0 ns (subst (λ w. SortingFrom sorting at tasks w ns) x.1 x.2)) in
      let r = begun s.split in taken s.sends r.0 r.1 r.2

  -- the right side takes no arrow
  pub none_kept : IsRigid (out-Ty sorting.to.now) → {names : List TypeName} (ms : List Meeting)
      → HasNone names ms (Beginning 1 (SortingFrom sorting at tasks))
  none_kept rigid ms w ns x good =
      let s = keep_from sorting.from.now sorting.to.now sorting.results.now tasks f
      (drop (at + 1) sorting.arguments.now) sorting.sent sorting.kept x.0 ns
      (of_drop 1 x.0 ns (subst (λ w. SortingFrom sorting at tasks w ns) x.1 x.2)) in
      let r = second s.split in
      let some = kept_some sorting.kept f s.keeps in
      none_behind sorting.to.now rigid some.0 some.1 sorting.results.now r.0 r.1
      (subst (λ gs. Splits (out-Ty sorting.to.now) (factors_of_arrow gs sorting.results.now) r.0 r.1) some.2 r.2)

  -- it is sent
  module _ (e : next.sent ≡ sorting.sent ++ f ∷ []) (g : next.kept ≡ sorting.kept) where
    next_sent : (w : List ℕ) (ns : List Meeting) → SortingFrom next (at + 1) tasks w ns
        → SortingFrom sorting at tasks (0 ∷ w) ns
    next_sent w ns s =
        at_drop 0 w ns (send_to sorting.from.now sorting.to.now sorting.results.now tasks f
        (drop (at + 1) sorting.arguments.now) sorting.sent sorting.kept w ns
        (moved_to (sorting.sent ++ f ∷ []) sorting.kept e g w ns s))

    sent_next : (w : List ℕ) (ns : List Meeting) → SortingFrom sorting at tasks (0 ∷ w) ns
        → SortingFrom next (at + 1) tasks w ns
    sent_next w ns s =
        moved_from (sorting.sent ++ f ∷ []) sorting.kept e g w ns
        (send_from sorting.from.now sorting.to.now sorting.results.now tasks f
        (drop (at + 1) sorting.arguments.now) sorting.sent sorting.kept w ns (of_drop 0 w ns s))

    pub sent_found : {names : List TypeName} {old new : List Met} {before mid after : List ℕ} → mid ≡ before ++ 0 ∷ []
        → Finds names old new mid after (SortingFrom next (at + 1) tasks)
        → Finds names old new before after (Beginning 0 (SortingFrom sorting at tasks))
    sent_found x found = finds_next 0 (SortingFrom next (at + 1) tasks) (SortingFrom sorting at tasks) next_sent
        sent_next x found

    pub sent_none : {names : List TypeName} (old : List Met)
        → HasNone names (meetings_of old) (SortingFrom next (at + 1) tasks)
        → HasNone names (meetings_of old) (Beginning 0 (SortingFrom sorting at tasks))
    sent_none old none = none_next 0 (SortingFrom next (at + 1) tasks) (SortingFrom sorting at tasks) next_sent
        sent_next (meetings_of old) none

    pub sent_held : AreHeld sorting at → AreHeld next (at + 1)
    sent_held held =
        let all = ap (λ xs. counts (take (at + 1) xs)) c in (
          omega (
            arith,
            held.0,
            all,
            ap counts e,
            counts_append sorting.sent (f ∷ []),
            counts_next
                sorting.arguments.now at f d more is,
          ),
          omega (arith, held.1, all, ap counts g, counts_next sorting.arguments.now at f d more is),
        )

  -- it is kept
  module _ (e : next.sent ≡ sorting.sent) (g : next.kept ≡ sorting.kept ++ f ∷ []) where
    next_kept : (w : List ℕ) (ns : List Meeting) → SortingFrom next (at + 1) tasks w ns
        → SortingFrom sorting at tasks (1 ∷ w) ns
    next_kept w ns s =
        at_drop 1 w ns (keep_to sorting.from.now sorting.to.now sorting.results.now tasks f
        (drop (at + 1) sorting.arguments.now) sorting.sent sorting.kept w ns
        (moved_to sorting.sent (sorting.kept ++ f ∷ []) e g w ns s))

    kept_next : (w : List ℕ) (ns : List Meeting) → SortingFrom sorting at tasks (1 ∷ w) ns
        → SortingFrom next (at + 1) tasks w ns
    kept_next w ns s =
        moved_from sorting.sent (sorting.kept ++ f ∷ []) e g w ns
        (keep_from sorting.from.now sorting.to.now sorting.results.now tasks f
        (drop (at + 1) sorting.arguments.now) sorting.sent sorting.kept w ns (of_drop 1 w ns s))

    pub kept_found : {names : List TypeName} {old new : List Met} {before mid after : List ℕ} → mid ≡ before ++ 1 ∷ []
        → Finds names old new mid after (SortingFrom next (at + 1) tasks)
        → Finds names old new before after (Beginning 1 (SortingFrom sorting at tasks))
    kept_found x found = finds_next 1 (SortingFrom next (at + 1) tasks) (SortingFrom sorting at tasks) next_kept
        kept_next x found

    pub kept_none : {names : List TypeName} (old : List Met)
        → HasNone names (meetings_of old) (SortingFrom next (at + 1) tasks)
        → HasNone names (meetings_of old) (Beginning 1 (SortingFrom sorting at tasks))
    kept_none old none = none_next 1 (SortingFrom next (at + 1) tasks) (SortingFrom sorting at tasks) next_kept
        kept_next (meetings_of old) none

    -- and the next, which is the same, may as well be
    pub kept_tried : slice_get sorting.arguments.now (at + 1) ≡ slice_get sorting.arguments.now at
        → {names : List TypeName} (ms : List Meeting) → HasNone names ms (Beginning 0 (SortingFrom sorting at tasks))
        → HasNone names ms (Beginning 0 (SortingFrom next (at + 1) tasks))
    kept_tried same ms none w ns x good =
        let again = at_slice sorting.arguments.now (at + 1) f
        (same ∙ slice_get-get_or sorting.arguments.now at d more ∙ ap Some (sym is)) in
        let s = moved_to sorting.sent (sorting.kept ++ f ∷ []) e g (0 ∷ x.0) ns
        (subst (λ w. SortingFrom next (at + 1) tasks w ns) x.1 x.2) in
        let two = sent_kept sorting.from.now sorting.to.now sorting.results.now tasks f
        (drop (at + 1 + 1) sorting.arguments.now) sorting.sent sorting.kept x.0 ns
        (subst (λ fs. SortsOn sorting.from.now sorting.to.now fs sorting.results.now sorting.sent
        (sorting.kept ++ f ∷ []) tasks (0 ∷ x.0) ns) again s) in
        none (0 ∷ 1 ∷ x.0) ns (
          1 ∷ x.0,
          refl,
          at_drop 0 (1 ∷ x.0) ns
              (subst (λ fs. SortsOn sorting.from.now sorting.to.now (f ∷ fs) sorting.results.now sorting.sent sorting.kept tasks
              (0 ∷ 1 ∷ x.0) ns) (sym again) two),
        ) good

    pub kept_held : AreHeld sorting at → AreHeld next (at + 1)
    kept_held held =
        let all = ap (λ xs. counts (take (at + 1) xs)) c in (
          omega (arith, held.0, all, ap counts e, counts_next sorting.arguments.now at f d more is),
          omega (
            arith,
            held.1,
            all,
            ap counts g,
            counts_append sorting.kept (f ∷ []),
            counts_next
                sorting.arguments.now at f d more is,
          ),
        )

-- nothing is changed in between
module _ (at l : ℕ) (old met : List Met) (sorting other : Sorting) (tasks others : List Task) (mid : met ≡ old)
    (same : other ≡ sorting) (one : others ≡ tasks) where
  pub same_found : {names : List TypeName} {new : List Met} {before word after : List ℕ} → word ≡ before
      → Finds names met new word after (Beginning l (SortingFrom other at others))
      → Finds names old new before after (Beginning l (SortingFrom sorting at tasks))
  same_found {names} {new} {before} {word} {after} e found =
      subst (λ ts. Finds names old new before after (Beginning l (SortingFrom sorting at ts))) one
      (subst (λ x. Finds names old new before after (Beginning l (SortingFrom x at others))) same
      (subst (λ w. Finds names old new w after (Beginning l (SortingFrom other at others))) e
      (subst (λ m. Finds names m new word after (Beginning l (SortingFrom other at others))) mid found)))

  pub same_none : {names : List TypeName}
      → HasNone names (meetings_of met) (Beginning l (SortingFrom other at others))
      → HasNone names (meetings_of old) (Beginning l (SortingFrom sorting at tasks))
  same_none {names} none =
      subst (λ ts. HasNone names (meetings_of old) (Beginning l (SortingFrom sorting at ts))) one
      (subst (λ x. HasNone names (meetings_of old) (Beginning l (SortingFrom x at others))) same
      (subst (λ m. HasNone names (meetings_of m) (Beginning l (SortingFrom other at others))) mid none))

-- both letters of an argument
module _ (names : List TypeName) (old : List Met) (sorting : Sorting) (at : ℕ) (tasks : List Task)
    (more : at < length sorting.arguments.now) where
  sorts : (w : List ℕ) (ns : List Meeting) → SortingFrom sorting at tasks w ns → BeginsBelow 2 w
  sorts w ns s =
      let first = first_of sorting.arguments.now at more in
      sorts_begin sorting.from.now sorting.to.now sorting.results.now tasks first.0
      (drop (at + 1) sorting.arguments.now) sorting.sent sorting.kept w ns
      (subst (λ fs. SortsOn sorting.from.now sorting.to.now fs sorting.results.now sorting.sent sorting.kept tasks w
      ns) first.1 s)

  pub send_first : {new : List Met} {before after : List ℕ}
      → Finds names old new before after (Beginning 0 (SortingFrom sorting at tasks))
      → Finds names old new before after (SortingFrom sorting at tasks)
  send_first found = finds_at names (meetings_of old) (SortingFrom sorting at tasks) 2 sorts 0
      (none_at_first names (meetings_of old) (SortingFrom sorting at tasks)) refl found

  none_sent : HasNone names (meetings_of old) (Beginning 0 (SortingFrom sorting at tasks))
      → NoneBefore names (meetings_of old) (SortingFrom sorting at tasks) 1
  none_sent none = none_at_next names (meetings_of old) (SortingFrom sorting at tasks) 0
      (none_at_first names (meetings_of old) (SortingFrom sorting at tasks)) none

  pub keep_then : HasNone names (meetings_of old) (Beginning 0 (SortingFrom sorting at tasks))
      → {new : List Met} {before after : List ℕ}
      → Finds names old new before after (Beginning 1 (SortingFrom sorting at tasks))
      → Finds names old new before after (SortingFrom sorting at tasks)
  keep_then none found = finds_at names (meetings_of old) (SortingFrom sorting at tasks) 2 sorts 1 (none_sent none)
      refl found

  pub neither : HasNone names (meetings_of old) (Beginning 0 (SortingFrom sorting at tasks))
      → HasNone names (meetings_of old) (Beginning 1 (SortingFrom sorting at tasks))
      → HasNone names (meetings_of old) (SortingFrom sorting at tasks)
  neither none never = none_at_all names (meetings_of old) (SortingFrom sorting at tasks) 2 sorts
      (none_at_next names (meetings_of old) (SortingFrom sorting at tasks) 1 (none_sent none) never)
