use Rattle.std.proofs.Common.{◌++◌, ◌∷◌, ◌%◌, ◌+◌, ◌<◌, [], false, true≢false, Some, length, map, replicate, slice_set, take, refl, sym, ap, ap₂, ◌∙◌, subst, arith}
use Rattle.std.specs.List.{All}
use Rattle.std.specs.Vec.{with_item}
use Rattle.std.proofs.Math.Nat.{mod-lt}
use Rattle.std.proofs.lemmas.List.{length-replicate}
use Rattle.std.proofs.lemmas.Option.{slice_get-get_or}
use Rattle.std.proofs.lemmas.Result.{IfOk-weaker}
use Rattle.type_core.specs.declared.ty.Ty.TheVariants.{outs-Con, outs-Rec}
use Rattle.type_core.specs.declared.ty.Ty.TheViews.{out-Ty}
use Rattle.type_core.specs.Lists.{sum_of}
use Rattle.type_core.specs.Size.{size_of}
use Rattle.type_core.proofs.Trees.{size_arrow, size_tup}
use Rattle.iso_normal.specs.Factors.{IsNotOneArrow}
use Rattle.linear_match.specs.declared.search.Sorting.{Sorting}
use Rattle.linear_match.specs.search.Bindings.{AreGood, meetings_of}
use Rattle.linear_match.specs.search.Cutting.{ArePassedOn}
use Rattle.linear_match.specs.search.Tasks.{AreSmall, AreSmallSides, IsRigid, IsSmall, IsSmallType, application, labelled, patterns_of, pieces_of}
use Rattle.linear_match.specs.search.Weights.{AreHeld, AreWithin, counts}
use Rattle.linear_match.proofs.Best.{finds_iff, none_iff}
use Rattle.linear_match.proofs.Lettered.{added_set, deal_found, deal_held, deal_long, deal_none, keep_then, kept_found, kept_held, kept_none, kept_tried, letter_found, letter_next, letter_none, neither, never_as, none_kept, one_at, piece_back, same_found, same_none, send_first, sent_found, sent_held, sent_none}
use Rattle.linear_match.proofs.Measures.{counts_take, deal_less, other_less, parts_few, pieces_less, sides_less, sort_less, within_none}
use Rattle.linear_match.proofs.Searched.{atom_found, atom_needed, atom_none, atom_refused, both_first, both_sorted, dealt_first, dealt_pieces, first_both, first_dealt, first_sorted, none_ends, pieces_dealt, sorted_both, sorted_first, variable_found, variable_none, variable_refused}
use Rattle.linear_match.proofs.Tasked.{both_pushed, finds_nothing, rest_small, top_small, weigh_split}
use Rattle.linear_match.proofs.Repeated.{none_marked, still_tried}
use Rattle.linear_match.proofs.Weights.{mass, weigh_sorting, weigh_tasks}
use Rattle.linear_match.proofs.search.+search.Goals as goal

pub deal-returns-then-at-dealing-clause-found : goal.deal-returns-then-at-dealing-clause-found
deal-returns-then-at-dealing-clause-found t c = IfOk-weaker c.match_pieces.result _ _
    (λ found f e. finds_iff (pieces_dealt c.args.dealing.now c.args.at c.args.tasks.now c.if-at-dealing.true
    c.requires.pieces) (dealt_pieces c.args.dealing.now c.args.at c.args.tasks.now c.if-at-dealing.true
    c.requires.pieces) (f e)) c.match_pieces.ensures.found

pub deal-returns-then-at-dealing-clause-none : goal.deal-returns-then-at-dealing-clause-none
deal-returns-then-at-dealing-clause-none t c = IfOk-weaker c.match_pieces.result _ _
    (λ found f e. none_iff (meetings_of c.args.met.now)
    (dealt_pieces c.args.dealing.now c.args.at c.args.tasks.now c.if-at-dealing.true c.requires.pieces) (f e))
    c.match_pieces.ensures.none

pub deal-returns-then-branch-clause-found : goal.deal-returns-then-branch-clause-found
deal-returns-then-branch-clause-found t c = λ e.
    letter_found c.args.names.now c.args.met.now c.args.dealing.now c.args.at c.args.tasks.now c.if-at-dealing.false
    c.letters.letter c.letters.dealing c.letters.tasks c.letters.met c.letters.invariant.dealing
    c.letters.invariant.tasks c.letters.invariant.met c.letters.invariant.none c.letters.invariant.word
    (c.in_ok-deal_next.ensures.found c.if-branch.true)

pub deal-letters-preserved : goal.deal-letters-preserved
deal-letters-preserved t c =
    let kept = c.in_ok-deal_next.ensures.kept c.if-branch.false in
    let undone = c.in_ok-deal_next.ensures.undone c.if-branch.false in
    let inv = c.letters.invariant in
    record {
      tasks = kept.0 ∙ inv.tasks;
      met = kept.1 ∙ inv.met;
      word = kept.2 ∙ inv.word;
      dealing = (undone.0 ∙ inv.dealing.0, undone.1 ∙ inv.dealing.1, undone.2 ∙ inv.dealing.2);
      none = letter_next c.args.names.now c.args.met.now c.args.dealing.now c.args.at c.args.tasks.now
          c.if-at-dealing.false c.letters.letter c.letters.dealing c.letters.tasks c.letters.met
          c.letters.invariant.dealing c.letters.invariant.tasks c.letters.invariant.met c.letters.invariant.none
          (c.in_ok-deal_next.ensures.none c.if-branch.false);
    }

pub deal-returns-clause-none : goal.deal-returns-clause-none
deal-returns-clause-none t c = λ e. letter_none c.args.names.now c.args.met.now c.args.dealing.now c.args.at
    c.args.tasks.now c.if-at-dealing.false c.letters.letter c.letters-test.false c.letters.invariant.none

pub deal_next-overflow_cast-letter : goal.deal_next-overflow_cast-letter
deal_next-overflow_cast-letter t c =
    omega (
      arith,
      c.requires.below,
      c.requires.small_parts,
      size_tup c.args.dealing.now.parts.now,
      parts_few
          c.args.dealing.now.parts.now,
    )

pub deal_next-deal-requires : goal.deal_next-deal-requires
deal_next-deal-requires t c = (
  omega (arith, c.requires.more, c.decreases),
  (
    omega (arith, c.requires.more),
    (
      deal_long c.args.dealing.now
          (record {
            parts = c.args.dealing.now.parts;
            factors = c.args.dealing.now.factors;
            pieces =
                with_item c.args.dealing.now.pieces ((c.args.at + c.args.letter) % length c.args.dealing.now.parts.now)
                c.push.new.self;
          }) c.args.at c.args.letter c.args.tasks.now c.in_ok-factor.factor c.index-dealing-at.result
          c.requires.more c.in_ok-factor.ensures.value c.requires.below refl refl
          (ap (slice_set c.args.dealing.now.pieces.items
          ((c.args.at + c.args.letter) % length c.args.dealing.now.parts.now))
          (c.in_ok-push.ensures.pushed ∙ ap (λ x. x ++ c.in_ok-factor.factor ∷ []) c.index_mut.ensures.value)
          ∙ sym (added_set ((c.args.at + c.args.letter) % length c.args.dealing.now.parts.now)
          c.in_ok-factor.factor _ c.args.dealing.now.pieces.items)) c.requires.pieces,
      (
        deal_held c.args.dealing.now
            (record {
              parts = c.args.dealing.now.parts;
              factors = c.args.dealing.now.factors;
              pieces =
                  with_item c.args.dealing.now.pieces ((c.args.at + c.args.letter) % length c.args.dealing.now.parts.now)
                  c.push.new.self;
            }) c.args.at c.args.letter c.args.tasks.now c.in_ok-factor.factor
            c.index-dealing-at.result c.requires.more c.in_ok-factor.ensures.value c.requires.below refl refl
            (ap (slice_set c.args.dealing.now.pieces.items
            ((c.args.at + c.args.letter) % length c.args.dealing.now.parts.now))
            (c.in_ok-push.ensures.pushed ∙ ap (λ x. x ++ c.in_ok-factor.factor ∷ []) c.index_mut.ensures.value)
            ∙ sym (added_set ((c.args.at + c.args.letter) % length c.args.dealing.now.parts.now)
            c.in_ok-factor.factor _ c.args.dealing.now.pieces.items)) c.requires.held,
        (
          ap length c.as_slice.ensures.value ∙ c.in_ok-next.ensures.marks ∙ c.requires.marks,
          (
            still_tried c.args.dealing.now
                (record {
                  parts = c.args.dealing.now.parts;
                  factors = c.args.dealing.now.factors;
                  pieces =
                      with_item c.args.dealing.now.pieces ((c.args.at + c.args.letter) % length c.args.dealing.now.parts.now)
                      c.push.new.self;
                }) c.args.at c.args.letter c.args.tasks.now c.in_ok-factor.factor
                c.index-dealing-at.result c.requires.more c.in_ok-factor.ensures.value c.requires.below refl refl
                (ap (slice_set c.args.dealing.now.pieces.items
                ((c.args.at + c.args.letter) % length c.args.dealing.now.parts.now))
                (c.in_ok-push.ensures.pushed ∙ ap (λ x. x ++ c.in_ok-factor.factor ∷ []) c.index_mut.ensures.value)
                ∙ sym (added_set ((c.args.at + c.args.letter) % length c.args.dealing.now.parts.now)
                c.in_ok-factor.factor _ c.args.dealing.now.pieces.items)) (meetings_of c.args.met.now)
                c.args.tried.now c.as_slice.result.now c.requires.marks c.requires.tried c.requires.before
                (subst (ArePassedOn c.args.dealing.now.factors.now c.args.at c.args.letter c.args.tried.now)
                (sym c.as_slice.ensures.value) c.in_ok-next.ensures.same),
            (c.requires.small_parts, (c.requires.small, c.requires.good)),
          ),
        ),
      ),
    ),
  ),
)

pub deal_next-returns-then-branch-2-clause-found : goal.deal_next-returns-then-branch-2-clause-found
deal_next-returns-then-branch-2-clause-found t c =
    λ e. deal_found c.args.dealing.now
    (record {
      parts = c.args.dealing.now.parts;
      factors = c.args.dealing.now.factors;
      pieces =
          with_item c.args.dealing.now.pieces ((c.args.at + c.args.letter) % length c.args.dealing.now.parts.now)
          c.push.new.self;
    }) c.args.at c.args.letter c.args.tasks.now c.in_ok-factor.factor c.index-dealing-at.result
    c.requires.more c.in_ok-factor.ensures.value c.requires.below refl refl
    (ap (slice_set c.args.dealing.now.pieces.items
    ((c.args.at + c.args.letter) % length c.args.dealing.now.parts.now))
    (c.in_ok-push.ensures.pushed ∙ ap (λ x. x ++ c.in_ok-factor.factor ∷ []) c.index_mut.ensures.value)
    ∙ sym (added_set ((c.args.at + c.args.letter) % length c.args.dealing.now.parts.now) c.in_ok-factor.factor _
    c.args.dealing.now.pieces.items)) c.in_ok-push-2.ensures.pushed (c.in_ok-deal.ensures.found c.if-branch-2.true)

pub deal_next-returns-clause-none : goal.deal_next-returns-clause-none
deal_next-returns-clause-none t c =
    λ e. deal_none c.args.dealing.now
    (record {
      parts = c.args.dealing.now.parts;
      factors = c.args.dealing.now.factors;
      pieces =
          with_item c.args.dealing.now.pieces ((c.args.at + c.args.letter) % length c.args.dealing.now.parts.now)
          c.push.new.self;
    }) c.args.at c.args.letter c.args.tasks.now c.in_ok-factor.factor c.index-dealing-at.result
    c.requires.more c.in_ok-factor.ensures.value c.requires.below refl refl
    (ap (slice_set c.args.dealing.now.pieces.items
    ((c.args.at + c.args.letter) % length c.args.dealing.now.parts.now))
    (c.in_ok-push.ensures.pushed ∙ ap (λ x. x ++ c.in_ok-factor.factor ∷ []) c.index_mut.ensures.value)
    ∙ sym (added_set ((c.args.at + c.args.letter) % length c.args.dealing.now.parts.now) c.in_ok-factor.factor _
    c.args.dealing.now.pieces.items)) c.args.met.now (c.in_ok-deal.ensures.none c.if-branch-2.false)

pub deal_next-returns-clause-undone : goal.deal_next-returns-clause-undone
deal_next-returns-clause-undone t c = λ e.
    let undone = c.in_ok-deal.ensures.undone c.if-branch-2.false in
    let some : 0 < length c.args.dealing.now.parts.now = omega (arith, c.requires.below) in (
      undone.0,
      undone.1,
      piece_back ((c.args.at + c.args.letter) % length c.args.dealing.now.parts.now) c.in_ok-factor.factor
          c.args.dealing.now.pieces.items c.deal.new.dealing.pieces.items _ _ _ _ c.len-held.result
          (subst (λ n. ((c.args.at + c.args.letter) % length c.args.dealing.now.parts.now) < n)
          (sym c.requires.pieces) (mod-lt (c.args.at + c.args.letter) some))
          (undone.2 ∙ ap (slice_set c.args.dealing.now.pieces.items
          ((c.args.at + c.args.letter) % length c.args.dealing.now.parts.now))
          (c.in_ok-push.ensures.pushed ∙ ap (λ x. x ++ c.in_ok-factor.factor ∷ []) c.index_mut.ensures.value))
          (c.len-held.ensures.value ∙ ap length c.index.ensures)
          (ap (slice_set c.deal.new.dealing.pieces.items
          ((c.args.at + c.args.letter) % length c.args.dealing.now.parts.now))
          (c.cut.ensures.value ∙ ap (take c.len-held.result) c.index_mut-2.ensures.value)),
    )

pub keep_next-sort-requires : goal.keep_next-sort-requires
keep_next-sort-requires t c = (
  omega (arith, c.requires.more, c.decreases),
  (
    omega (arith, c.requires.more),
    (
      kept_held c.args.sorting.now
          (record {
            from = c.args.sorting.now.from;
            to = c.args.sorting.now.to;
            arguments =
                c.args.sorting.now.arguments;
            results = c.args.sorting.now.results;
            sent = c.args.sorting.now.sent;
            kept =
                c.push.new.self;
          }) c.args.at c.args.tasks.now c.in_ok-factor.factor c.index-sorting-at.result c.requires.more
          c.in_ok-factor.ensures.value refl refl refl refl refl c.in_ok-push.ensures.pushed c.requires.held,
      (
        λ e. kept_tried c.args.sorting.now
            (record {
              from = c.args.sorting.now.from;
              to = c.args.sorting.now.to;
              arguments =
                  c.args.sorting.now.arguments;
              results = c.args.sorting.now.results;
              sent = c.args.sorting.now.sent;
              kept =
                  c.push.new.self;
            }) c.args.at c.args.tasks.now c.in_ok-factor.factor c.index-sorting-at.result c.requires.more
            c.in_ok-factor.ensures.value refl refl refl refl refl c.in_ok-push.ensures.pushed
            (c.is_repeated-repeated.ensures.same e) (meetings_of c.args.met.now) c.requires.tried,
        (c.requires.small_sides, (c.requires.small, c.requires.good)),
      ),
    ),
  ),
)

pub keep_next-returns-then-branch-clause-found : goal.keep_next-returns-then-branch-clause-found
keep_next-returns-then-branch-clause-found t c =
    λ e. kept_found c.args.sorting.now
    (record {
      from = c.args.sorting.now.from;
      to = c.args.sorting.now.to;
      arguments =
          c.args.sorting.now.arguments;
      results = c.args.sorting.now.results;
      sent = c.args.sorting.now.sent;
      kept =
          c.push.new.self;
    }) c.args.at c.args.tasks.now c.in_ok-factor.factor c.index-sorting-at.result c.requires.more
    c.in_ok-factor.ensures.value refl refl refl refl refl c.in_ok-push.ensures.pushed c.in_ok-push-2.ensures.pushed
    (c.in_ok-sort.ensures.found c.if-branch.true)

pub keep_next-returns-clause-none : goal.keep_next-returns-clause-none
keep_next-returns-clause-none t c =
    λ e. kept_none c.args.sorting.now
    (record {
      from = c.args.sorting.now.from;
      to = c.args.sorting.now.to;
      arguments =
          c.args.sorting.now.arguments;
      results = c.args.sorting.now.results;
      sent = c.args.sorting.now.sent;
      kept =
          c.push.new.self;
    }) c.args.at c.args.tasks.now c.in_ok-factor.factor c.index-sorting-at.result c.requires.more
    c.in_ok-factor.ensures.value refl refl refl refl refl c.in_ok-push.ensures.pushed c.args.met.now
    (c.in_ok-sort.ensures.none c.if-branch.false)

pub send_next-sort-requires : goal.send_next-sort-requires
send_next-sort-requires t c = (
  omega (arith, c.requires.more, c.decreases),
  (
    omega (arith, c.requires.more),
    (
      sent_held c.args.sorting.now
          (record {
            from = c.args.sorting.now.from;
            to = c.args.sorting.now.to;
            arguments =
                c.args.sorting.now.arguments;
            results = c.args.sorting.now.results;
            sent = c.push.new.self;
            kept =
                c.args.sorting.now.kept;
          }) c.args.at c.args.tasks.now c.in_ok-factor.factor c.index-sorting-at.result
          c.requires.more c.in_ok-factor.ensures.value refl refl refl refl c.in_ok-push.ensures.pushed refl
          c.requires.held,
      (λ e. absurd (true≢false (sym e)), (c.requires.small_sides, (c.requires.small, c.requires.good))),
    ),
  ),
)

pub send_next-returns-then-branch-clause-found : goal.send_next-returns-then-branch-clause-found
send_next-returns-then-branch-clause-found t c =
    λ e. sent_found c.args.sorting.now
    (record {
      from = c.args.sorting.now.from;
      to = c.args.sorting.now.to;
      arguments =
          c.args.sorting.now.arguments;
      results = c.args.sorting.now.results;
      sent = c.push.new.self;
      kept =
          c.args.sorting.now.kept;
    }) c.args.at c.args.tasks.now c.in_ok-factor.factor c.index-sorting-at.result
    c.requires.more c.in_ok-factor.ensures.value refl refl refl refl c.in_ok-push.ensures.pushed refl
    c.in_ok-push-2.ensures.pushed (c.in_ok-sort.ensures.found c.if-branch.true)

pub send_next-returns-clause-none : goal.send_next-returns-clause-none
send_next-returns-clause-none t c =
    λ e. sent_none c.args.sorting.now
    (record {
      from = c.args.sorting.now.from;
      to = c.args.sorting.now.to;
      arguments =
          c.args.sorting.now.arguments;
      results = c.args.sorting.now.results;
      sent = c.push.new.self;
      kept =
          c.args.sorting.now.kept;
    }) c.args.at c.args.tasks.now c.in_ok-factor.factor c.index-sorting-at.result
    c.requires.more c.in_ok-factor.ensures.value refl refl refl refl c.in_ok-push.ensures.pushed refl c.args.met.now
    (c.in_ok-sort.ensures.none c.if-branch.false)

pub match_both-returns-clause-none : goal.match_both-returns-clause-none
match_both-returns-clause-none t c =
    λ e. none_iff (meetings_of c.args.met.now)
    (both_pushed c.args.tasks.now c.args.left c.args.right c.in_ok-push.ensures.pushed c.in_ok-push-2.ensures.pushed)
    (c.in_ok-search.ensures.none c.if-branch.false)

pub match_pieces-search-requires : goal.match_pieces-search-requires
match_pieces-search-requires t c = (
  omega (
    arith,
    pieces_less c.args.dealing.now.parts.now c.args.dealing.now.pieces.items (patterns_of c.args.tasks.now)
        (pieces_of c.args.tasks.now) c.args.dealing.now.factors.now _ _ c.requires.pieces c.requires.held
        c.in_ok-push_pieces.ensures.patterns c.in_ok-push_pieces.ensures.pieces,
    c.decreases,
  ),
  (c.in_ok-push_pieces.ensures.small, c.requires.good),
)

pub match_task-match_atom-requires : goal.match_task-match_atom-requires
match_task-match_atom-requires t c = (
  omega (arith, c.decreases),
  (subst IsRigid (sym (ap out-Ty c.in-Con.is ∙ outs-Con _ _)) (application _ _), (c.requires.small, c.requires.good)),
)

pub match_task-match_atom-requires-in-Rec : goal.match_task-match_atom-requires-in-Rec
match_task-match_atom-requires-in-Rec t c = (
  omega (arith, c.decreases),
  (subst IsRigid (sym (ap out-Ty c.in-Rec.is ∙ outs-Rec _)) (labelled _), (c.requires.small, c.requires.good)),
)

pub match_task-deal-requires : goal.match_task-deal-requires
match_task-deal-requires t c = (
  omega (
    arith,
    deal_less c.args.top.now.pattern.now c.in-Tup.parts c.as_slice.result.now c.args.top.now.factors
        c.as_slice-in-Tup.result.now (weigh_tasks c.args.tasks.now) c.in-Tup.is c.as_slice.ensures.value
        c.as_slice-in-Tup.ensures.value,
    c.decreases,
  ),
  (
    omega arith,
    (
      ap length (c.in_ok-no_factors-in-Tup.ensures.value ∙ ap (λ n. replicate n []) c.len.ensures.value)
          ∙ length-replicate (length c.in-Tup.parts) [] ∙ ap length (sym c.as_slice.ensures.value),
      (
        subst (AreWithin _) (sym
            (c.in_ok-no_factors-in-Tup.ensures.value ∙ ap (λ n. replicate n []) c.len.ensures.value))
            (within_none _ (length c.in-Tup.parts)),
        (
          ap length (c.as_slice-in-Tup-2.ensures.value ∙ c.in_ok-tried-in-Tup.ensures.value ∙ ap (λ n. replicate n false) c.len-in-Tup.ensures.value)
              ∙ length-replicate (length c.in-Tup.parts) false ∙ ap length (sym c.as_slice.ensures.value),
          (
            none_marked _ _ _ _ _ (c.as_slice-in-Tup-2.ensures.value ∙ c.in_ok-tried-in-Tup.ensures.value),
            (
              subst AreSmall (sym c.as_slice.ensures.value) (subst IsSmallType c.in-Tup.is c.requires.small_top),
              (c.requires.small, c.requires.good),
            ),
          ),
        ),
      ),
    ),
  ),
)

pub match_task-returns-in_ok-tried-in-Tup-clause-found :
    goal.match_task-returns-in_ok-tried-in-Tup-clause-found
match_task-returns-in_ok-tried-in-Tup-clause-found t c = IfOk-weaker c.deal.result _ _
    (λ found f e. finds_iff (dealt_first c.args.top.now c.args.tasks.now c.in-Tup.parts c.in-Tup.is
    (record {
      parts = c.as_slice.result;
      factors = c.as_slice-in-Tup.result;
      pieces =
          c.in_ok-no_factors-in-Tup.field-0;
    }) c.as_slice.ensures.value c.as_slice-in-Tup.ensures.value
    (c.in_ok-no_factors-in-Tup.ensures.value ∙ ap (λ n. replicate n []) c.len.ensures.value))
    (first_dealt c.args.top.now c.args.tasks.now c.in-Tup.parts c.in-Tup.is
    (record {
      parts = c.as_slice.result;
      factors = c.as_slice-in-Tup.result;
      pieces =
          c.in_ok-no_factors-in-Tup.field-0;
    }) c.as_slice.ensures.value c.as_slice-in-Tup.ensures.value
    (c.in_ok-no_factors-in-Tup.ensures.value ∙ ap (λ n. replicate n []) c.len.ensures.value)) (f e))
    c.deal.ensures.found

pub match_task-returns-in_ok-tried-in-Tup-clause-none :
    goal.match_task-returns-in_ok-tried-in-Tup-clause-none
match_task-returns-in_ok-tried-in-Tup-clause-none t c = IfOk-weaker c.deal.result _ _
    (λ found f e. none_iff (meetings_of c.args.met.now)
    (first_dealt c.args.top.now c.args.tasks.now c.in-Tup.parts c.in-Tup.is
    (record {
      parts = c.as_slice.result;
      factors = c.as_slice-in-Tup.result;
      pieces =
          c.in_ok-no_factors-in-Tup.field-0;
    }) c.as_slice.ensures.value c.as_slice-in-Tup.ensures.value
    (c.in_ok-no_factors-in-Tup.ensures.value ∙ ap (λ n. replicate n []) c.len.ensures.value)) (f e))
    c.deal.ensures.none

pub match_variable-returns-then-not-branch-clause-none : goal.match_variable-returns-then-not-branch-clause-none
match_variable-returns-then-not-branch-clause-none t c = λ e. variable_refused c.args.top.now c.args.tasks.now
    c.args.v c.requires.variable c.in_ok-factors.factors (c.in_ok-factors.ensures.value ∙ c.as_slice.ensures.value)
    c.args.met.now (c.in_ok-meet_list.ensures.none c.if-not-branch.true)

pub match_variable-returns-then-branch-clause-found : goal.match_variable-returns-then-branch-clause-found
match_variable-returns-then-branch-clause-found t c = λ e. variable_found c.args.top.now c.args.tasks.now c.args.v
    c.requires.variable c.in_ok-factors.factors (c.in_ok-factors.ensures.value ∙ c.as_slice.ensures.value)
    (c.in_ok-meet_list.ensures.more c.if-not-branch.false) (c.in_ok-search.ensures.found c.if-branch.true)

pub match_variable-returns-clause-none : goal.match_variable-returns-clause-none
match_variable-returns-clause-none t c = λ e. variable_none c.args.top.now c.args.tasks.now c.args.v
    c.requires.variable c.in_ok-factors.factors (c.in_ok-factors.ensures.value ∙ c.as_slice.ensures.value)
    c.args.met.now (c.in_ok-meet_list.ensures.more c.if-not-branch.false)
    (c.in_ok-search.ensures.none c.if-branch.false)

pub search-returns-in_default-clause-found : goal.search-returns-in_default-clause-found
search-returns-in_default-clause-found t c = λ e. finds_nothing c.in_default.ensures.none.0 c.requires.good

pub search-match_task-requires : goal.search-match_task-requires
search-match_task-requires t c = (
  omega (arith, weigh_split c.pop.new.self c.in-Some.top c.in-Some.ensures.popped, c.decreases),
  (
    top_small c.pop.new.self c.in-Some.top c.in-Some.ensures.popped c.requires.small,
    (rest_small c.pop.new.self c.in-Some.top c.in-Some.ensures.popped c.requires.small, c.requires.good),
  ),
)

pub sort-match_both-requires : goal.sort-match_both-requires
sort-match_both-requires t c =
    let at_most = counts_take c.args.at c.args.sorting.now.arguments.now in (
      omega (
        arith,
        sides_less c.args.sorting.now.from.now c.args.sorting.now.to.now c.args.sorting.now.arguments.now
            c.args.sorting.now.results.now c.args.sorting.now.sent c.args.sorting.now.kept
            c.in_ok-copy_factors.field-0 c.in_ok-kept_arrow.field-0 (weigh_tasks c.args.tasks.now)
            (omega (arith, at_most, c.requires.held.0)) (omega (arith, at_most, c.requires.held.1))
            (c.in_ok-copy_factors.ensures.value ∙ c.as_slice.ensures.value) c.in_ok-kept_arrow.ensures.value,
        c.decreases,
      ),
      (c.requires.small_sides.0, (c.requires.small_sides.1, (c.requires.small, c.requires.good))),
    )

pub sort-returns-then-at-sorting-clause-found : goal.sort-returns-then-at-sorting-clause-found
sort-returns-then-at-sorting-clause-found t c = IfOk-weaker c.match_both.result _ _
    (λ found f e. finds_iff (both_sorted c.args.sorting.now c.args.at c.args.tasks.now c.if-at-sorting.true
    (record { pattern = c.args.sorting.now.from; factors = c.in_ok-copy_factors.field-0 })
    (record { pattern = c.args.sorting.now.to; factors = c.in_ok-kept_arrow.field-0 }) refl refl
    (c.in_ok-copy_factors.ensures.value ∙ c.as_slice.ensures.value) c.in_ok-kept_arrow.ensures.value)
    (sorted_both c.args.sorting.now c.args.at c.args.tasks.now c.if-at-sorting.true
    (record { pattern = c.args.sorting.now.from; factors = c.in_ok-copy_factors.field-0 })
    (record { pattern = c.args.sorting.now.to; factors = c.in_ok-kept_arrow.field-0 }) refl refl
    (c.in_ok-copy_factors.ensures.value ∙ c.as_slice.ensures.value) c.in_ok-kept_arrow.ensures.value) (f e))
    c.match_both.ensures.found

pub sort-returns-then-at-sorting-clause-none : goal.sort-returns-then-at-sorting-clause-none
sort-returns-then-at-sorting-clause-none t c = IfOk-weaker c.match_both.result _ _
    (λ found f e. none_iff (meetings_of c.args.met.now)
    (sorted_both c.args.sorting.now c.args.at c.args.tasks.now c.if-at-sorting.true
    (record { pattern = c.args.sorting.now.from; factors = c.in_ok-copy_factors.field-0 })
    (record { pattern = c.args.sorting.now.to; factors = c.in_ok-kept_arrow.field-0 }) refl refl
    (c.in_ok-copy_factors.ensures.value ∙ c.as_slice.ensures.value) c.in_ok-kept_arrow.ensures.value) (f e))
    c.match_both.ensures.none

pub sort-returns-then-branch-clause-found : goal.sort-returns-then-branch-clause-found
sort-returns-then-branch-clause-found t c = λ e. send_first c.args.names.now c.args.met.now c.args.sorting.now
    c.args.at c.args.tasks.now c.if-at-sorting.false (c.in_ok-send_next.ensures.found c.if-branch.true)

pub sort-returns-clause-found : goal.sort-returns-clause-found
sort-returns-clause-found t c =
    let kept = c.in_ok-send_next.ensures.kept c.if-branch.false in
    let undone = c.in_ok-send_next.ensures.undone c.if-branch.false in
    IfOk-weaker c.keep_next.result _ _
    (λ found f e. keep_then c.args.names.now c.args.met.now c.args.sorting.now c.args.at c.args.tasks.now
    c.if-at-sorting.false (c.in_ok-send_next.ensures.none c.if-branch.false)
    (same_found c.args.at 1 c.args.met.now _ c.args.sorting.now _ c.args.tasks.now _ kept.1 undone kept.0 kept.2
    (f e))) c.keep_next.ensures.found

pub sort-returns-clause-none : goal.sort-returns-clause-none
sort-returns-clause-none t c =
    let kept = c.in_ok-send_next.ensures.kept c.if-branch.false in
    let undone = c.in_ok-send_next.ensures.undone c.if-branch.false in
    IfOk-weaker c.keep_next.result _ _
    (λ found f e. neither c.args.names.now c.args.met.now c.args.sorting.now c.args.at c.args.tasks.now
    c.if-at-sorting.false (c.in_ok-send_next.ensures.none c.if-branch.false)
    (same_none c.args.at 1 c.args.met.now _ c.args.sorting.now _ c.args.tasks.now _ kept.1 undone kept.0 (f e)))
    c.keep_next.ensures.none

pub match_atom-returns-in_default-clause-none : goal.match_atom-returns-in_default-clause-none
match_atom-returns-in_default-clause-none t c = λ e. atom_needed c.args.top.now c.args.tasks.now c.requires.atom
    c.args.met.now (λ f t i a. c.single_atom.ensures.none c.in_default.is f t (c.as_slice.ensures.value ∙ i) a)

pub match_atom-returns-then-not-branch-clause-none : goal.match_atom-returns-then-not-branch-clause-none
match_atom-returns-then-not-branch-clause-none t c = λ e. atom_refused c.args.top.now c.args.tasks.now c.requires.atom
    c.in-Some.ensures.found.0 c.in-Some.t.now (sym c.as_slice.ensures.value ∙ c.in-Some.ensures.found.1)
    c.in-Some.ensures.found.2 c.args.met.now (c.in_ok-meet_type.ensures.none c.if-not-branch.true)

pub match_atom-returns-then-branch-clause-found : goal.match_atom-returns-then-branch-clause-found
match_atom-returns-then-branch-clause-found t c = λ e. atom_found c.args.top.now c.args.tasks.now c.requires.atom
    c.in-Some.ensures.found.0 c.in-Some.t.now (sym c.as_slice.ensures.value ∙ c.in-Some.ensures.found.1)
    c.in-Some.ensures.found.2 (c.in_ok-meet_type.ensures.more c.if-not-branch.false)
    (c.in_ok-search.ensures.found c.if-branch.true)

pub match_atom-returns-clause-none : goal.match_atom-returns-clause-none
match_atom-returns-clause-none t c = λ e. atom_none c.args.top.now c.args.tasks.now c.requires.atom
    c.in-Some.ensures.found.0 c.in-Some.t.now (sym c.as_slice.ensures.value ∙ c.in-Some.ensures.found.1)
    c.in-Some.ensures.found.2 c.args.met.now (c.in_ok-meet_type.ensures.more c.if-not-branch.false)
    (c.in_ok-search.ensures.none c.if-branch.false)

pub match_arrow-match_both-requires : goal.match_arrow-match_both-requires
match_arrow-match_both-requires t c =
    let sizes = ap size_of c.requires.arrow ∙ size_arrow c.args.from.now c.args.to.now in (
      omega (
        arith,
        other_less c.args.top.now.pattern.now c.args.from.now c.args.to.now c.args.from.now c.args.to.now
            c.args.top.now.factors c.new.result c.in_ok-copy_factors.field-0 (weigh_tasks c.args.tasks.now)
            c.requires.arrow refl refl
            c.new.ensures.empty (c.in_ok-copy_factors.ensures.value ∙ c.as_slice-in_default.ensures.value),
        c.decreases,
      ),
      (
        omega (arith, sizes, c.requires.small_top),
        (omega (arith, sizes, c.requires.small_top), (c.requires.small, c.requires.good)),
      ),
    )

pub match_arrow-returns-in_default-clause-found : goal.match_arrow-returns-in_default-clause-found
match_arrow-returns-in_default-clause-found t c = IfOk-weaker c.match_both.result _ _
    (λ found f e. finds_iff (both_first c.args.top.now c.args.tasks.now c.args.from.now c.args.to.now c.requires.arrow
    (subst IsNotOneArrow c.as_slice.ensures.value (c.single_arrow.ensures.none c.in_default.is))
    (record { pattern = c.args.from; factors = c.new.result })
    (record { pattern = c.args.to; factors = c.in_ok-copy_factors.field-0 }) refl refl c.new.ensures.empty
    (c.in_ok-copy_factors.ensures.value ∙ c.as_slice-in_default.ensures.value))
    (first_both c.args.top.now c.args.tasks.now c.args.from.now c.args.to.now c.requires.arrow
    (subst IsNotOneArrow c.as_slice.ensures.value (c.single_arrow.ensures.none c.in_default.is))
    (record { pattern = c.args.from; factors = c.new.result })
    (record { pattern = c.args.to; factors = c.in_ok-copy_factors.field-0 }) refl refl c.new.ensures.empty
    (c.in_ok-copy_factors.ensures.value ∙ c.as_slice-in_default.ensures.value)) (f e)) c.match_both.ensures.found

pub match_arrow-returns-in_default-clause-none : goal.match_arrow-returns-in_default-clause-none
match_arrow-returns-in_default-clause-none t c = IfOk-weaker c.match_both.result _ _
    (λ found f e. none_iff (meetings_of c.args.met.now)
    (first_both c.args.top.now c.args.tasks.now c.args.from.now c.args.to.now c.requires.arrow
    (subst IsNotOneArrow c.as_slice.ensures.value (c.single_arrow.ensures.none c.in_default.is))
    (record { pattern = c.args.from; factors = c.new.result })
    (record { pattern = c.args.to; factors = c.in_ok-copy_factors.field-0 }) refl refl c.new.ensures.empty
    (c.in_ok-copy_factors.ensures.value ∙ c.as_slice-in_default.ensures.value)) (f e)) c.match_both.ensures.none

pub match_arrow-sort-requires : goal.match_arrow-sort-requires
match_arrow-sort-requires t c =
    let sizes = ap size_of c.requires.arrow ∙ size_arrow c.args.from.now c.args.to.now in (
      omega (
        arith,
        sort_less c.args.top.now.pattern.now c.args.from.now c.args.to.now c.args.from.now c.args.to.now
            c.in-Some.ensures.found.0 c.args.top.now.factors c.in-Some.arguments.now c.in-Some.results.now
            c.in-Some.arguments.now c.in-Some.results.now
            (weigh_tasks c.args.tasks.now) c.requires.arrow refl refl
            (sym c.as_slice.ensures.value ∙ c.in-Some.ensures.found.1) c.in-Some.ensures.found.2 refl refl,
        c.decreases,
      ),
      (
        omega arith,
        (
          (omega (arith, ap counts c.new-2.ensures.empty), omega (arith, ap counts c.new-3.ensures.empty)),
          (
            λ e. absurd (true≢false (sym e)),
            (
              (omega (arith, sizes, c.requires.small_top), omega (arith, sizes, c.requires.small_top)),
              (c.requires.small, c.requires.good),
            ),
          ),
        ),
      ),
    )

pub match_arrow-returns-clause-found : goal.match_arrow-returns-clause-found
match_arrow-returns-clause-found t c = IfOk-weaker c.sort.result _ _
    (λ found f e. finds_iff (sorted_first c.args.top.now c.args.tasks.now c.args.from.now c.args.to.now
    c.requires.arrow c.in-Some.ensures.found.0 c.in-Some.arguments.now c.in-Some.results.now
    (sym c.as_slice.ensures.value ∙ c.in-Some.ensures.found.1) c.in-Some.ensures.found.2
    (record {
      from = c.args.from;
      to = c.args.to;
      arguments = c.in-Some.arguments;
      results =
          c.in-Some.results;
      sent = c.new-2.result;
      kept = c.new-3.result;
    }) refl refl refl refl c.new-2.ensures.empty
    c.new-3.ensures.empty) (first_sorted c.args.top.now c.args.tasks.now c.args.from.now c.args.to.now
    c.requires.arrow c.in-Some.ensures.found.0 c.in-Some.arguments.now c.in-Some.results.now
    (sym c.as_slice.ensures.value ∙ c.in-Some.ensures.found.1) c.in-Some.ensures.found.2
    (record {
      from = c.args.from;
      to = c.args.to;
      arguments = c.in-Some.arguments;
      results =
          c.in-Some.results;
      sent = c.new-2.result;
      kept = c.new-3.result;
    }) refl refl refl refl c.new-2.ensures.empty
    c.new-3.ensures.empty) (f e)) c.sort.ensures.found

pub match_arrow-returns-clause-none : goal.match_arrow-returns-clause-none
match_arrow-returns-clause-none t c = IfOk-weaker c.sort.result _ _
    (λ found f e. none_iff (meetings_of c.args.met.now)
    (first_sorted c.args.top.now c.args.tasks.now c.args.from.now c.args.to.now c.requires.arrow
    c.in-Some.ensures.found.0 c.in-Some.arguments.now c.in-Some.results.now
    (sym c.as_slice.ensures.value ∙ c.in-Some.ensures.found.1) c.in-Some.ensures.found.2
    (record {
      from = c.args.from;
      to = c.args.to;
      arguments = c.in-Some.arguments;
      results =
          c.in-Some.results;
      sent = c.new-2.result;
      kept = c.new-3.result;
    }) refl refl refl refl c.new-2.ensures.empty
    c.new-3.ensures.empty) (f e)) c.sort.ensures.none

pub match_arrow-returns-then-not-may_end-clause-none : goal.match_arrow-returns-then-not-may_end-clause-none
match_arrow-returns-then-not-may_end-clause-none t c = λ e. none_ends c.args.top.now c.args.tasks.now c.args.from.now
    c.args.to.now c.requires.arrow c.in-Some.ensures.found.0 c.in-Some.arguments.now c.in-Some.results.now
    (sym c.as_slice.ensures.value ∙ c.in-Some.ensures.found.1) c.in-Some.ensures.found.2 c.args.met.now
    (c.may_end.ensures.none c.if-not-may_end.true)

pub deal-deal_next-requires : goal.deal-deal_next-requires
deal-deal_next-requires t c =
    let inv = c.letters.invariant in
    let parts = ap length inv.dealing.0 in (
      omega (
        arith,
        c.decreases,
        ap₂ mass (ap (λ ps. sum_of (map size_of ps)) inv.dealing.0) (ap counts inv.dealing.1),
        ap weigh_tasks inv.tasks,
        ap length inv.dealing.1,
      ),
      (
        omega (arith, c.if-at-dealing.false, ap length inv.dealing.1),
        (
          omega (arith, c.letters-test.true, parts),
          (
            omega (arith, ap length inv.dealing.2, parts, c.requires.pieces),
            (
              omega (arith, parts, c.requires.marks),
              (
                λ l marked. never_as c.args.names.now c.args.met.now c.args.dealing.now c.args.at c.args.tasks.now
                    c.if-at-dealing.false l c.letters.dealing c.letters.tasks c.letters.met inv.dealing inv.tasks
                    inv.met (c.requires.tried l marked),
                (
                  λ l below. never_as c.args.names.now c.args.met.now c.args.dealing.now c.args.at c.args.tasks.now
                      c.if-at-dealing.false l c.letters.dealing c.letters.tasks c.letters.met inv.dealing inv.tasks
                      inv.met (inv.none l below),
                  (
                    subst (AreWithin _) (sym inv.dealing.2)
                        (subst (λ fs. AreWithin (counts (take c.args.at fs)) c.args.dealing.now.pieces.items)
                        (sym inv.dealing.1) c.requires.held),
                    (
                      subst AreSmall (sym inv.dealing.0) c.requires.small_parts,
                      (
                        subst (All IsSmall) (sym inv.tasks) c.requires.small,
                        subst (λ m. AreGood c.args.names.now (meetings_of m)) (sym inv.met) c.requires.good,
                      ),
                    ),
                  ),
                ),
              ),
            ),
          ),
        ),
      ),
    )

pub deal_next-returns-then-tried-letter-clause-none : goal.deal_next-returns-then-tried-letter-clause-none
deal_next-returns-then-tried-letter-clause-none t c = λ e. c.requires.tried c.args.letter
    (slice_get-get_or c.args.tried.now c.args.letter _ (omega (arith, c.requires.below, c.requires.marks))
    ∙ ap Some c.if-tried-letter.true)

pub deal_next-returns-then-branch-clause-none : goal.deal_next-returns-then-branch-clause-none
deal_next-returns-then-branch-clause-none t c =
    λ e. c.in_ok-is_useless.ensures.none c.if-branch.true c.args.names.now (meetings_of c.args.met.now) c.args.tasks.now

pub sort-keep_next-requires : goal.sort-keep_next-requires
sort-keep_next-requires t c =
    let kept = c.in_ok-send_next.ensures.kept c.if-branch.false in
    let undone = c.in_ok-send_next.ensures.undone c.if-branch.false in
    let long = ap (λ (s : Sorting). length s.arguments.now) undone in (
      omega (arith, c.decreases, ap weigh_sorting undone, ap weigh_tasks kept.0, long),
      (
        omega (arith, c.if-at-sorting.false, long),
        (
          subst (λ (s : Sorting). AreHeld s c.args.at) (sym undone) c.requires.held,
          (
            same_none c.args.at 0 _ c.args.met.now _ c.args.sorting.now _ c.args.tasks.now (sym kept.1) (sym undone)
                (sym kept.0) (c.in_ok-send_next.ensures.none c.if-branch.false),
            (
              subst AreSmallSides (sym undone) c.requires.small_sides,
              (
                subst (All IsSmall) (sym kept.0) c.requires.small,
                subst (λ m. AreGood c.args.names.now (meetings_of m)) (sym kept.1) c.requires.good,
              ),
            ),
          ),
        ),
      ),
    )

pub send_next-returns-then-tried-clause-none : goal.send_next-returns-then-tried-clause-none
send_next-returns-then-tried-clause-none t c = λ e. c.requires.tried c.if-tried.true

pub send_next-returns-then-not-may_send-clause-none : goal.send_next-returns-then-not-may_send-clause-none
send_next-returns-then-not-may_send-clause-none t c =
    λ e. c.may_send.ensures.none c.if-not-may_send.true c.args.names.now (meetings_of c.args.met.now) c.args.tasks.now

pub keep_next-returns-then-is_rigid-clause-none : goal.keep_next-returns-then-is_rigid-clause-none
keep_next-returns-then-is_rigid-clause-none t c = λ e.
    let next = one_at c.args.sorting.now.arguments.now c.args.at c.requires.more in
    none_kept c.args.sorting.now c.args.sorting.now c.args.at c.args.tasks.now next.0 next.0 c.requires.more next.1
    refl refl refl refl (c.is_rigid.ensures.value c.if-is_rigid.true) (meetings_of c.args.met.now)
