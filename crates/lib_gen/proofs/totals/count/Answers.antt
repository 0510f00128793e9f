use Rattle.std.proofs.Common.{◌≡◌, ◌+◌, Some, get_or, length, slice_get, sym, ap, subst, ◌∙◌, arith}
use Rattle.std.proofs.lemmas.Option.{slice_get-get_or}
use Rattle.search_core.specs.Search.{AreHits}
use Rattle.lib_gen.proofs.Spread.{AreCounted, all_counted, none_more, one_more}
use Rattle.lib_gen.proofs.totals.count.Goals as goal
use Rattle.lib_gen.proofs.totals.count.Goals.{then-is_hit, else-is_hit}

pub loop-i-preserved : goal.loop-i-preserved
loop-i-preserved c =
    let numbers = c.as_slice-numbers.result.now in
    let at = subst (λ all. slice_get all c.loop-i.i ≡ Some (get_or numbers c.loop-i.i 0)) c.as_slice-numbers.ensures.value
    (slice_get-get_or numbers c.loop-i.i 0 c.loop-i-test.true) in
    let hits = subst (AreHits c.args.classes.now.schemes c.args.mode c.args.query.now) (sym c.as_slice.ensures.value)
    c.in_ok-answer.ensures.hits in
    elim c.if-is_hit.branch [
      | then-is_hit w ↦ subst (AreCounted c.args.lib.now c.args.mode c.args.query.now (c.loop-i.i + 1)) (sym w.count-is)
          (one_more c.args.lib.now c.args.mode c.args.query.now c.args.classes.now c.requires.classes c.as_slice.result.now hits
          c.loop-i.i (get_or numbers c.loop-i.i 0) at c.loop-i.count c.loop-i.invariant
          (sym c.is_hit.ensures.value ∙ w.if-is_hit.true))
      | else-is_hit w ↦ subst (AreCounted c.args.lib.now c.args.mode c.args.query.now (c.loop-i.i + 1)) (sym w.count-is)
          (none_more c.args.lib.now c.args.mode c.args.query.now c.args.classes.now c.requires.classes c.as_slice.result.now hits
          c.loop-i.i (get_or numbers c.loop-i.i 0) at c.loop-i.count c.loop-i.invariant
          (sym c.is_hit.ensures.value ∙ w.if-is_hit.false))
    ]

pub returns : goal.returns
returns c = record {
  count = all_counted c.args.lib.now c.args.mode c.args.query.now c.loop-i.i c.loop-i.count
      (omega (arith, c.loop-i-test.false, ap length c.as_slice-numbers.ensures.value, c.requires.classes.numbered.all))
      c.loop-i.invariant;
}
