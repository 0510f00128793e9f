-- A factor that is the same as the one before it needs no place that the one before had in vain.
use Rattle.std.proofs.Common.{◌≡◌, ℕ, zero, suc, ◌+◌, ◌%◌, ◌<◌, ◌⊎◌, inl, inr, Bool, true, false, true≢false, List, [], ◌∷◌, replicate, drop, get_or, length, Some, slice_get, refl, sym, ap, ◌∙◌, subst, arith}
use Rattle.std.proofs.Math.Nat.{add-mod-mod, mod-lt}
use Rattle.std.proofs.lemmas.Option.{slice_get-get_or, slice_get_within}
use Rattle.type_core.specs.declared.names.TypeName.{TypeName}
use Rattle.type_core.specs.declared.ty.Ty.{Ty}
use Rattle.iso_normal.specs.declared.factor.Factor.{Factor}
use Rattle.linear_match.specs.declared.search.Dealing.{Dealing}
use Rattle.linear_match.specs.declared.search.Task.{Task}
use Rattle.linear_match.specs.Meetings.{Meeting}
use Rattle.linear_match.specs.search.Cutting.{ArePassedOn, NoneBefore, NoneMarked}
use Rattle.linear_match.specs.search.Tasks.{Beginning, DealingFrom, DealsOn, HasNone, Wanted}
use Rattle.linear_match.proofs.Bound.{some_is}
use Rattle.linear_match.proofs.Dealing.{letter_from}
use Rattle.linear_match.proofs.Likeness.{at_slice}
use Rattle.linear_match.proofs.Searched.{deals_moved}
use Rattle.linear_match.proofs.Steps.{added_at, deal_from, deal_to}

added_twice : (p r : ℕ) (f : Factor) (pieces : List (List Factor))
    → added_at p f (added_at r f pieces) ≡ added_at r f (added_at p f pieces)
added_twice zero zero f [] = refl
added_twice zero (suc r) f [] = refl
added_twice (suc p) zero f [] = refl
added_twice (suc p) (suc r) f [] = refl
added_twice zero zero f (piece ∷ pieces) = refl
added_twice zero (suc r) f (piece ∷ pieces) = refl
added_twice (suc p) zero f (piece ∷ pieces) = refl
added_twice (suc p) (suc r) f (piece ∷ pieces) = ap (λ xs. piece ∷ xs) (added_twice p r f pieces)

-- the two change places
exchanged : (ps : List Ty) (j : ℕ) (f : Factor) (fs : List Factor) (pieces : List (List Factor)) (tasks : List Task)
    (l m : ℕ) → l < length ps → (w : List ℕ) (ns : List Meeting)
    → DealsOn ps (suc j) (f ∷ fs) (added_at ((j + l) % length ps) f pieces) tasks (m ∷ w) ns
    → (v : List ℕ) × DealsOn ps j (f ∷ f ∷ fs) pieces tasks (((m + 1) % length ps) ∷ v) ns
exchanged ps j f fs pieces tasks l m below w ns d =
    let n = length ps in
    let next = deal_from ps (suc j) f fs (added_at ((j + l) % n) f pieces) tasks m w ns d in
    let letter = letter_from j n ((j + l) % n) l below refl in
    let turned = subst (λ x. DealsOn ps (suc (suc j)) fs x tasks w ns)
    (added_twice ((suc j + m) % n) ((j + l) % n) f pieces
    ∙ ap (λ k. added_at k f (added_at ((suc j + m) % n) f pieces)) (sym letter.goes)) next in
    let one = deal_to ps (suc j) f fs (added_at ((suc j + m) % n) f pieces) tasks letter.letter letter.bound w ns turned in
    let sum : suc j + m ≡ j + (m + 1) = omega arith in
    let place : (suc j + m) % n ≡ (j + (m + 1) % n) % n = ap (λ k. k % n) sum ∙ sym (add-mod-mod j (m + 1) n) in
    let some : 0 < n = omega (arith, below) in (
      letter.letter ∷ w,
      deal_to ps j f (f ∷ fs) pieces tasks ((m + 1) % n) (mod-lt (m + 1) some) (letter.letter ∷ w) ns
          (subst (λ k. DealsOn ps (suc j) (f ∷ fs) (added_at k f pieces) tasks (letter.letter ∷ w) ns) place one),
    )

module _ (dealing next : Dealing) (at l : ℕ) (tasks : List Task) (f d : Factor)
    (more : at < length dealing.factors.now) (is : f ≡ get_or dealing.factors.now at d)
    (below : l < length dealing.parts.now)
    (a : next.parts.now ≡ dealing.parts.now) (b : next.factors.now ≡ dealing.factors.now)
    (c : next.pieces.items ≡ added_at ((at + l) % length dealing.parts.now) f dealing.pieces.items) where
  here : slice_get dealing.factors.now at ≡ Some f
  here = slice_get-get_or dealing.factors.now at d more ∙ ap Some (sym is)

  one_on : at + 1 ≡ suc at
  one_on = omega arith

  -- where they are the same
  module _ (same : slice_get dealing.factors.now (at + 1) ≡ slice_get dealing.factors.now at) where
    again : drop (at + 1) dealing.factors.now ≡ f ∷ drop (at + 1 + 1) dealing.factors.now
    again = at_slice dealing.factors.now (at + 1) f (same ∙ here)

    back : (m : ℕ) (w : List ℕ) (ns : List Meeting) → DealingFrom next (at + 1) tasks (m ∷ w) ns
        → (v : List ℕ) × DealingFrom dealing at tasks (((m + 1) % length dealing.parts.now) ∷ v) ns
    back m w ns x =
        let moved = subst (λ j. DealsOn dealing.parts.now j (drop (at + 1) dealing.factors.now)
        (added_at ((at + l) % length dealing.parts.now) f dealing.pieces.items) tasks (m ∷ w) ns) one_on
        (deals_moved next.parts.now dealing.parts.now (at + 1) (drop (at + 1) next.factors.now)
        (drop (at + 1) dealing.factors.now) next.pieces.items
        (added_at ((at + l) % length dealing.parts.now) f dealing.pieces.items) tasks
        a (ap (drop (at + 1)) b) c (m ∷ w) ns x) in
        let r = exchanged dealing.parts.now at f (drop (at + 1 + 1) dealing.factors.now) dealing.pieces.items tasks l m
        below w ns (subst (λ fs. DealsOn dealing.parts.now (suc at) fs
        (added_at ((at + l) % length dealing.parts.now) f dealing.pieces.items) tasks (m ∷ w) ns) again moved) in (
          r.0,
          subst (λ fs. DealsOn dealing.parts.now at fs dealing.pieces.items tasks
              (((m + 1) % length dealing.parts.now) ∷ r.0) ns)
              (sym (at_slice dealing.factors.now at f here ∙ ap (λ fs. f ∷ fs) again)) r.1,
        )

  pub still_tried : {names : List TypeName} (ms : List Meeting) (marks after : List Bool)
      → length marks ≡ length dealing.parts.now → NoneMarked names ms (DealingFrom dealing at tasks) marks
      → NoneBefore names ms (DealingFrom dealing at tasks) l → ArePassedOn dealing.factors.now at l marks after
      → NoneMarked names ms (DealingFrom next (at + 1) tasks) after
  still_tried {names} ms marks after long tried before on m marked v ns x good =
      let same = on m marked in
      let r = back same.0 m x.0 ns (subst (λ v. DealingFrom next (at + 1) tasks v ns) x.1 x.2) in
      subst (λ n. HasNone names ms (Beginning ((m + 1) % n) (DealingFrom dealing at tasks))) long (either same.1)
      (((m + 1) % length dealing.parts.now) ∷ r.0) ns (r.0, refl, r.1) good
    where
      either : ((m + 1) % length marks < l) ⊎ (slice_get marks ((m + 1) % length marks) ≡ Some true)
          → HasNone names ms (Beginning ((m + 1) % length marks) (DealingFrom dealing at tasks))
      either (inl e) = before ((m + 1) % length marks) e
      either (inr e) = tried ((m + 1) % length marks) e

-- marks, one after the other
no_mark : (n l : ℕ) → slice_get (replicate n false) l ≡ Some true → ⊥
no_mark zero l e = omega (arith, slice_get_within [] l true e)
no_mark (suc n) zero e = true≢false (sym (some_is e))
no_mark (suc n) (suc l) e = no_mark n l e

pub none_marked : (n : ℕ) (marks : List Bool) (names : List TypeName) (ms : List Meeting) (wanted : Wanted)
    → marks ≡ replicate n false → NoneMarked names ms wanted marks
none_marked n marks names ms wanted e l marked = absurd (no_mark n l (subst (λ xs. slice_get xs l ≡ Some true) e marked))
