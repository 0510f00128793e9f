use Rattle.std.proofs.Common.{true, ◌++◌, ◌∷◌, [], Some, false, replicate, slice_set, refl, sym, ap, ◌∙◌, subst, append_assoc, append-nil, arith}
use Rattle.std.specs.List.{All}
use Rattle.coord_match.specs.search.Bindings.{AreMatching, when}
use Rattle.coord_match.specs.search.Tasks.{IsSound, goal_of, goals_of}
use Rattle.coord_match.proofs.Tasked.{best_found, best_if, best_nothing, best_popped, mark_at, matching_then, none_found, none_if, none_if_apart, none_if_more, none_if_taken, none_if_tried, none_if_unlike, none_popped, rest_sound, some_nodes, sound_then, top_sound, weight_popped, weight_then}
use Rattle.coord_match.proofs.Weights.{weight}
use Rattle.coord_match.proofs.search.+search.Goals as goal

pub search-returns-in_default-clause-found : goal.search-returns-in_default-clause-found
search-returns-in_default-clause-found t c = λ e. ([], sym (append-nil _), best_nothing c.requires.matching c.in_default.ensures.none.0)

pub search-search-requires : goal.search-search-requires
search-search-requires t c = (omega (arith, weight_popped c.pop.new.self c.in-Some.top c.in-Some.ensures.popped, c.decreases), (rest_sound c.pop.new.self c.in-Some.top c.in-Some.ensures.popped c.requires.sound, c.requires.matching))

pub search-returns-then-branch-clause-found : goal.search-returns-then-branch-clause-found
search-returns-then-branch-clause-found t c = λ e.
    let f = c.in_ok-search.ensures.found c.if-branch.true in
    (f.0, f.1, best_popped c.args.bound.now c.pop.new.self c.in-Some.top c.in-Some.ensures.popped c.if-top.true f.2)

pub search-returns-then-top-clause-none : goal.search-returns-then-top-clause-none
search-returns-then-top-clause-none t c = λ e. none_popped c.args.bound.now c.pop.new.self c.in-Some.top c.in-Some.ensures.popped c.if-top.true (c.in_ok-search.ensures.none c.if-branch.false)

pub search-try_place-requires : goal.search-try_place-requires
search-try_place-requires t c =
    let inv = c.places.invariant in (
      omega (arith, weight_popped c.pop.new.self c.in-Some.top c.in-Some.ensures.popped, ap (λ ts. weight (goal_of c.in-Some.top ∷ goals_of ts)) inv.0, c.decreases),
      (
        c.if-top.false,
        (
          c.places-test.true,
          (
            top_sound c.pop.new.self c.in-Some.top c.in-Some.ensures.popped c.requires.sound,
            (subst (All IsSound) (sym inv.0) (rest_sound c.pop.new.self c.in-Some.top c.in-Some.ensures.popped c.requires.sound), subst AreMatching (sym inv.1) c.requires.matching),
          ),
        ),
      ),
    )

pub search-returns-then-branch-2-clause-found : goal.search-returns-then-branch-2-clause-found
search-returns-then-branch-2-clause-found t c = λ e.
    let f = c.in_ok-try_place.ensures.found c.if-branch-2.true in
    let inv = c.places.invariant in (
      c.places.place ∷ f.0,
      f.1 ∙ ap (λ w. w ++ c.places.place ∷ f.0) inv.2,
      best_found c.args.bound.now c.pop.new.self c.in-Some.top c.in-Some.ensures.popped c.places.place c.if-top.false inv.0 inv.1 inv.3 f.2,
    )

pub search-returns-clause-none : goal.search-returns-clause-none
search-returns-clause-none t c = λ e. none_found c.args.bound.now c.pop.new.self c.in-Some.top c.in-Some.ensures.popped c.places.place c.if-top.false c.places-test.false c.places.invariant.3

pub try_place-returns-then-len-clause-none : goal.try_place-returns-then-len-clause-none
try_place-returns-then-len-clause-none t c = λ e.
    none_if_more c.args.bound.now c.requires.matching c.args.top.now c.args.tasks.now c.requires.more c.index-first-top.result c.index-first-top.is c.args.place c.requires.within c.index-second-place.result c.index-second-place.is
    (λ l. c.if-len.true (c.len.ensures.value ∙ l ∙ sym c.len-2.ensures.value))

pub try_place-returns-then-not-branch-clause-none : goal.try_place-returns-then-not-branch-clause-none
try_place-returns-then-not-branch-clause-none t c = λ e.
    none_if_apart c.args.bound.now c.requires.matching c.args.top.now c.args.tasks.now c.requires.more c.index-first-top.result c.index-first-top.is c.args.place c.requires.within c.index-second-place.result c.index-second-place.is
    (sym c.in_ok-meet.ensures.value ∙ ap (λ x. when x (Some c.meet.new.bound)) c.if-not-branch.true)

pub try_place-overflow_cast-place : goal.try_place-overflow_cast-place
try_place-overflow_cast-place t c = omega (arith, c.requires.within, c.requires.sound_top.few, some_nodes c.args.top.now.second.now)

pub try_place-search-requires : goal.try_place-search-requires
try_place-search-requires t c = (
  omega (
    arith,
    weight_then c.args.bound.now c.requires.matching c.args.top.now c.args.tasks.now c.requires.more c.index-first-top.result c.index-first-top.is c.args.place c.requires.within c.index-second-place.result c.index-second-place.is
        c.meet.new.bound (sym c.in_ok-meet.ensures.value ∙ ap (λ x. when x (Some c.meet.new.bound)) c.if-not-branch.false)
        c.push.new.self _ _ c.in_ok-push.ensures.pushed c.in_ok-push-2.ensures.pushed
        refl refl (c.in_ok-with_taken.ensures.value ∙ ap (λ ts. slice_set ts c.args.place true) c.as_slice-taken.ensures.value)
        c.as_slice.ensures.value c.as_slice-2.ensures.value (c.in_ok-none_taken.ensures.value ∙ ap (λ n. replicate n false) c.len-3.ensures.value),
    c.decreases,
  ),
  (
    sound_then c.args.bound.now c.requires.matching c.args.top.now c.args.tasks.now c.requires.more c.index-first-top.result c.index-first-top.is c.args.place c.requires.within c.index-second-place.result c.index-second-place.is
        c.meet.new.bound (sym c.in_ok-meet.ensures.value ∙ ap (λ x. when x (Some c.meet.new.bound)) c.if-not-branch.false)
        c.push.new.self _ _ c.in_ok-push.ensures.pushed c.in_ok-push-2.ensures.pushed
        refl refl (c.in_ok-with_taken.ensures.value ∙ ap (λ ts. slice_set ts c.args.place true) c.as_slice-taken.ensures.value)
        c.as_slice.ensures.value c.as_slice-2.ensures.value (c.in_ok-none_taken.ensures.value ∙ ap (λ n. replicate n false) c.len-3.ensures.value)
        c.requires.sound_top c.requires.sound (omega (arith, c.requires.more)) (omega arith),
    matching_then c.args.bound.now c.requires.matching c.args.top.now c.args.tasks.now c.requires.more c.index-first-top.result c.index-first-top.is c.args.place c.requires.within c.index-second-place.result c.index-second-place.is
        c.meet.new.bound (sym c.in_ok-meet.ensures.value ∙ ap (λ x. when x (Some c.meet.new.bound)) c.if-not-branch.false),
  ),
)

pub try_place-returns-then-branch-clause-found : goal.try_place-returns-then-branch-clause-found
try_place-returns-then-branch-clause-found t c = λ e.
    let f = c.in_ok-search.ensures.found c.if-branch.true in (
      f.0,
      f.1 ∙ ap (λ w. w ++ f.0) c.in_ok-push-3.ensures.pushed ∙ append_assoc c.args.word.now (c.args.place ∷ []) f.0,
      best_if c.args.bound.now c.requires.matching c.args.top.now c.args.tasks.now c.requires.more c.index-first-top.result c.index-first-top.is c.args.place c.requires.within c.index-second-place.result c.index-second-place.is
          c.meet.new.bound (sym c.in_ok-meet.ensures.value ∙ ap (λ x. when x (Some c.meet.new.bound)) c.if-not-branch.false)
          c.push.new.self _ _ c.in_ok-push.ensures.pushed c.in_ok-push-2.ensures.pushed
          refl refl (c.in_ok-with_taken.ensures.value ∙ ap (λ ts. slice_set ts c.args.place true) c.as_slice-taken.ensures.value)
          c.as_slice.ensures.value c.as_slice-2.ensures.value (c.in_ok-none_taken.ensures.value ∙ ap (λ n. replicate n false) c.len-3.ensures.value)
          (mark_at c.args.top.now c.args.place _ false c.as_slice-taken.result.now c.requires.sound_top c.requires.within c.as_slice-taken.ensures.value c.if-taken-place.false) (sym c.len.ensures.value ∙ c.if-len.false ∙ c.len-2.ensures.value) f.2,
    )

pub try_place-returns-clause-none : goal.try_place-returns-clause-none
try_place-returns-clause-none t c = λ e.
    none_if c.args.bound.now c.requires.matching c.args.top.now c.args.tasks.now c.requires.more c.index-first-top.result c.index-first-top.is c.args.place c.requires.within c.index-second-place.result c.index-second-place.is
    c.meet.new.bound (sym c.in_ok-meet.ensures.value ∙ ap (λ x. when x (Some c.meet.new.bound)) c.if-not-branch.false)
    c.push.new.self _ _ c.in_ok-push.ensures.pushed c.in_ok-push-2.ensures.pushed
    refl refl (c.in_ok-with_taken.ensures.value ∙ ap (λ ts. slice_set ts c.args.place true) c.as_slice-taken.ensures.value)
    c.as_slice.ensures.value c.as_slice-2.ensures.value (c.in_ok-none_taken.ensures.value ∙ ap (λ n. replicate n false) c.len-3.ensures.value)
    (c.in_ok-search.ensures.none c.if-branch.false)

pub search-places-preserved-then-was_tried : goal.search-places-preserved-then-was_tried
search-places-preserved-then-was_tried t c =
    let inv = c.places.invariant in
    (inv.0, inv.1, inv.2, none_if_tried c.args.bound.now c.pop.new.self c.in-Some.top c.if-top.false c.places.place (c.was_tried.ensures.earlier c.if-was_tried.true) inv.3)

pub try_place-returns-then-fingerprint-clause-none : goal.try_place-returns-then-fingerprint-clause-none
try_place-returns-then-fingerprint-clause-none t c = λ e.
    none_if_unlike c.args.bound.now c.requires.matching c.args.top.now c.args.tasks.now c.requires.more c.index-first-top.result c.index-first-top.is c.args.place c.requires.within c.index-second-place.result c.index-second-place.is
    (λ l. c.if-fingerprint.true (c.fingerprint.ensures.value ∙ l ∙ sym c.fingerprint-2.ensures.value))

pub try_place-returns-then-taken-place-clause-none : goal.try_place-returns-then-taken-place-clause-none
try_place-returns-then-taken-place-clause-none t c = λ e.
    none_if_taken c.args.bound.now c.args.top.now c.args.tasks.now c.requires.more c.args.place
    (mark_at c.args.top.now c.args.place _ true c.as_slice-taken.result.now c.requires.sound_top c.requires.within c.as_slice-taken.ensures.value c.if-taken-place.true)
