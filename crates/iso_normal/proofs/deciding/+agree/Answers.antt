use Rattle.std.proofs.Common.{◌↔◌, ◌∙◌, IfOk, IsTrue, Some, ap, arith, refl, rules, slice_get, subst₂, sym, true≢false}
use Rattle.std.proofs.lemmas.Option.{slice_get-get_or, slice_get_within}
use Rattle.iso_normal.specs.Agreement.{Agree}
use Rattle.iso_normal.proofs.Untaken.{agree_length, all_left, arrows_alike, atoms_alike, free_at, left_first, left_next, like_next, like_none, none_if_taken, none_if_unlike, none_left, some_like}
use Rattle.iso_normal.proofs.deciding.+agree.Goals as goal
use Rattle.iso_normal.proofs.deciding.+agree.Goals.{place_of_like-else-not-taken-j-via-then-not-taken-j+in_ok-alike+else-branch, place_of_like-else-not-taken-j-via-else-not-taken-j}

pub agree-returns-then-fs-gs : goal.agree-returns-then-fs-gs
agree-returns-then-fs-gs t c = record { value = (λ e. absurd (true≢false (sym e)), λ a. absurd (c.if-fs-gs.true (agree_length a))) }

pub agree-loop-f-init : goal.agree-loop-f-init
agree-loop-f-init t c = left_first c.args.fs.now c.args.gs.now c.in_ok-taken.taken.items (c.in_ok-taken.ensures.items_if_clones_equal (λ y e. e))

pub agree-index_mut-requires : goal.agree-index_mut-requires
agree-index_mut-requires t c =
    let like = some_like c.f-item.result c.args.gs.now c.in-Some.is c.as_slice.ensures.value c.in_ok-place.ensures.found in
    let within = slice_get_within c.loop-f.taken.items c.in-Some.place _ like.1 in
    search (rules, within)

pub agree-returns-in-None : goal.agree-returns-in-None
agree-returns-in-None t c = record {
  value = (
    λ e. absurd (true≢false (sym e)),
    λ a. absurd (none_left c.args.fs.now c.args.gs.now c.loop-f.f-index c.loop-f.taken.items c.loop-f.invariant c.f-item.result c.loop-f-test.true c.f-item.is
        (λ k is. c.in_ok-place.ensures.none c.in-None.is k is.0 (ap (λ ms. slice_get ms k) c.as_slice.ensures.value ∙ is.1) is.2 is.3) a),
  );
}

pub agree-loop-f-preserved : goal.agree-loop-f-preserved
agree-loop-f-preserved t c =
    left_next c.args.fs.now c.args.gs.now c.loop-f.f-index c.loop-f.taken.items c.loop-f.invariant c.f-item.result c.loop-f-test.true c.f-item.is c.in-Some.place _
    (some_like c.f-item.result c.args.gs.now c.in-Some.is c.as_slice.ensures.value c.in_ok-place.ensures.found) refl

pub agree-returns : goal.agree-returns
agree-returns t c = record {
  value = (λ e. all_left c.args.fs.now c.args.gs.now c.loop-f.f-index c.loop-f.taken.items c.loop-f.invariant c.if-fs-gs.false c.loop-f-test.false, λ a. refl);
}

pub alike-returns-in-Atom-Atom : goal.alike-returns-in-Atom-Atom
alike-returns-in-Atom-Atom t c = record { value = atoms_alike c.same.result c.in-Atom-Atom.is-0 c.in-Atom-Atom.is-1 c.same.ensures.value }

pub alike-returns-else-not-branch : goal.alike-returns-else-not-branch
alike-returns-else-not-branch t c = record {
  value = arrows_alike c.in-Arr-Arr.arguments c.in-Arr-Arr.others c.in-Arr-Arr.results c.in-Arr-Arr.other_results c.in-Arr-Arr.is-0 c.in-Arr-Arr.is-1
      (subst₂ Agree c.as_slice.ensures.value c.as_slice-in-Arr-Arr.ensures.value (c.in_ok-agree-in-Arr-Arr.ensures.value.0 c.if-not-branch.false))
      c.agree-in-Arr-Arr.result
      (subst₂ (λ ps qs. IfOk c.agree-in-Arr-Arr.result (λ b. IsTrue b ↔ Agree ps qs)) c.as_slice-in-Arr-Arr-2.ensures.value c.as_slice-in-Arr-Arr-3.ensures.value c.agree-in-Arr-Arr.ensures.value);
}

pub place_of_like-loop-j-init : goal.place_of_like-loop-j-init
place_of_like-loop-j-init t c = λ k l is. omega (arith, l)

pub place_of_like-returns-then-branch-clause-found : goal.place_of_like-returns-then-branch-clause-found
place_of_like-returns-then-branch-clause-found t c = (
  c.index-gs-j.result,
  free_at c.args.taken.now c.loop-j.j _ (omega (arith, c.loop-j-test.true, c.requires.marks)) c.if-not-taken-j.true,
  slice_get-get_or c.args.gs.now c.loop-j.j c.index-gs-j.result c.loop-j-test.true ∙ ap Some (sym c.index-gs-j.is),
  c.in_ok-alike.ensures.value.0 c.if-branch.true,
)

pub place_of_like-loop-j-preserved : goal.place_of_like-loop-j-preserved
place_of_like-loop-j-preserved t c =
    like_next c.args.f.now c.args.gs.now c.args.taken.now c.loop-j.j c.loop-j.invariant
    (elim c.else-not-taken-j.branch [
      | place_of_like-else-not-taken-j-via-then-not-taken-j+in_ok-alike+else-branch w ↦
          none_if_unlike c.args.f.now c.args.gs.now c.args.taken.now c.loop-j.j w.index-gs-j.result w.in_ok-alike.field-0 w.index-gs-j.is w.in_ok-alike.ensures.value w.if-branch.false
      | place_of_like-else-not-taken-j-via-else-not-taken-j w ↦ none_if_taken c.args.f.now c.args.gs.now c.args.taken.now c.loop-j.j _ w.if-not-taken-j.false
    ])

pub place_of_like-returns-clause-none : goal.place_of_like-returns-clause-none
place_of_like-returns-clause-none t c = λ e k g free at alike. like_none c.args.f.now c.args.gs.now c.args.taken.now c.loop-j.j c.loop-j.invariant c.loop-j-test.false k (g, free, at, alike)
