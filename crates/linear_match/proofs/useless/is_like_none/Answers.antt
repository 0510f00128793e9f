use Rattle.std.proofs.Common.{◌∙◌, true≢false, sym, arith}
use Rattle.linear_match.proofs.Likeness.{one_slice, unlike_all, unlike_next}
use Rattle.linear_match.proofs.useless.is_like_none.Goals as goal

pub loop-k-preserved : goal.loop-k-preserved
loop-k-preserved c = unlike_next c.args.fs.now c.args.at c.args.gs.now c.args.from c.loop-k.k _ _
    (one_slice c.args.fs.now c.args.at) (one_slice c.args.gs.now c.loop-k.k)
    (λ a. true≢false (sym (c.in_ok-agree.ensures.value.1 a) ∙ c.if-branch.false)) c.loop-k.invariant

pub returns : goal.returns
returns c = record {
  none = λ e. unlike_all c.args.fs.now c.args.at c.args.gs.now c.args.from c.loop-k.k (omega (arith, c.loop-k-test.false))
      c.loop-k.invariant;
}
