use Rattle.std.proofs.Common.{arith, ◌∙◌, ap, length, refl}
use Rattle.std.specs.Prelude.{Err}
use Rattle.std.proofs.lemmas.Result.{err_from_is_err_and}
use Rattle.sig_base.proofs.Counts.{NoneFell-refl, NoneFell-trans, Rose-since}
use Rattle.sig_base.proofs.Given.{gave_all, gave_all_held, gave_more, gave_more_held, gave_over}
use Rattle.sig_base.specs.Reading.{nothing}
use Rattle.sig_base.proofs.Refused.{never_too_long, fault_is_failed}
use Rattle.sig_base.proofs.read.read_whole.Goals as goal

pub pieces-init : goal.pieces-init
pieces-init g c = record {
  gave = rw c.new-bytes.ensures.items nothing;
  more = λ long. absurd (omega (arith, long, ap length c.new-bytes.ensures.items));
  kept = refl;
  counts = NoneFell-refl _;
  no_write = refl;
}

pub returns-in_err-count-clause-too_long : goal.returns-in_err-count-clause-too_long
returns-in_err-count-clause-too_long g c =
    let from = err_from_is_err_and c.from_residual-in_err-count.result c.from_residual-in_err-count.ensures.1 in
    rw (from.1, from.2) (λ same. absurd (never_too_long _ same))

pub returns-in_err-count-clause-fault : goal.returns-in_err-count-clause-fault
returns-in_err-count-clause-fault g c =
    let from = err_from_is_err_and c.from_residual-in_err-count.result c.from_residual-in_err-count.ensures.1 in
    rw (from.1, from.2) (λ same. Rose-since _ _ _ (c.pieces.invariant.counts _) (c.in_err-count.ensures.cause.failed (ap (λ trouble. Err trouble) (fault_is_failed _ same))))

pub returns-in_err-count-clause-given_fault : goal.returns-in_err-count-clause-given_fault
returns-in_err-count-clause-given_fault g c =
    let from = err_from_is_err_and c.from_residual-in_err-count.result c.from_residual-in_err-count.ensures.1 in
    rw (from.1, from.2) (λ same. record {
      before = c.pieces.files;
      bytes = c.pieces.bytes.items;
      gave = c.pieces.invariant.gave;
      within = omega (arith, c.pieces-test.true, c.len.ensures, c.pieces.bytes.ok.0);
      rose = c.in_err-count.ensures.cause.failed (ap (λ trouble. Err trouble) (fault_is_failed _ same));
    })

pub returns-then-ended-clause-given : goal.returns-then-ended-clause-given
returns-then-ended-clause-given g c =
    rw c.from_vec.ensures.value
    (gave_all _ _ _ _ _ _ _ _ _ _ c.pieces.invariant.gave (c.len-in-pieces-2.ensures ∙ c.pieces.bytes.ok.0)
    c.in_ok-count.ensures.given (omega (arith, c.piece_size.ensures.some, c.in_ok-resize.ensures.len, c.as_mut_slice-piece.ensures.len, c.read.auto.buf)) c.if-ended.true)

pub returns-clause-given_more : goal.returns-clause-given_more
returns-clause-given_more g c e = c.pieces.invariant.more (omega (arith, c.pieces-test.false, c.len.ensures, c.pieces.bytes.ok.0))

pub returns-then-ended-clause-whole : goal.returns-then-ended-clause-whole
returns-then-ended-clause-whole g c = gave_all_held g.F.Files.files g.F.Files.gives _ _ g.met.F.Files.tells _ _ (returns-then-ended-clause-given g c)

pub pieces-preserved : goal.pieces-preserved
pieces-preserved g c = record {
  gave = rw c.in_ok-extend_from_slice.ensures.items
      (gave_more _ _ _ _ _ _ _ _ _ _ c.pieces.invariant.gave (c.len-in-pieces-2.ensures ∙ c.pieces.bytes.ok.0)
      c.in_ok-count.ensures.given _ refl (omega (arith, c.in_ok-count.ensures.bound.0)) (omega (arith, c.if-ended.false)));
  more = rw c.in_ok-extend_from_slice.ensures.items
      (λ long. gave_over _ _ _ _ _ _ _ _ _ _ c.pieces.invariant.gave (c.len-in-pieces-2.ensures ∙ c.pieces.bytes.ok.0)
      c.in_ok-count.ensures.given _ c.args.limit refl (omega (arith, c.pieces-test.true, c.len.ensures, c.pieces.bytes.ok.0)) long);
  kept = c.in_ok-count.ensures.kept ∙ c.pieces.invariant.kept;
  counts = NoneFell-trans _ _ _ c.pieces.invariant.counts c.in_ok-count.ensures.cause.kept;
  no_write = c.in_ok-count.ensures.no_write ∙ c.pieces.invariant.no_write;
}

pub returns-in_err-extend_from_slice-clause-counts : goal.returns-in_err-extend_from_slice-clause-counts
returns-in_err-extend_from_slice-clause-counts g c = NoneFell-trans _ _ _ c.pieces.invariant.counts c.in_ok-count.ensures.cause.kept

pub returns-clause-too_long : goal.returns-clause-too_long
returns-clause-too_long g c e = gave_more_held g.F.Files.files g.F.Files.gives _ _ g.met.F.Files.tells _ _ (returns-clause-given_more g c e)
