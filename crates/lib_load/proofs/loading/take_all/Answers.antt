use Rattle.std.proofs.Common.{refl, ◌∙◌}
use Rattle.sig_base.proofs.Counts.{NoneFell-refl, NoneFell-trans}
use Rattle.lib_load.proofs.Taking.{all_accepted, fault_taken, refusal_taken, taken_more, taken_none}
use Rattle.lib_load.proofs.loading.take_all.Goals as goal

pub loop-i-init : goal.loop-i-init
loop-i-init g c = record {
  accepted = taken_none _ _ c.args.paths.now _ _ c.in_ok-elab.ensures.empty;
  writes = refl;
  kept = refl;
  counts = NoneFell-refl _;
}

pub loop-i-preserved : goal.loop-i-preserved
loop-i-preserved g c = record {
  accepted =
      taken_more _ _ c.args.paths.now c.loop-i.i c.index-paths-i.result _ (c.as_str.ensures.value ∙ c.index-paths-i.is) c.loop-i-test.true _ _ _ c.loop-i.invariant.accepted
      _ _ (c.in_ok-elab-2.ensures.given tt);
  writes = c.in_ok-elab-2.ensures.no_write ∙ c.loop-i.invariant.writes;
  kept = c.in_ok-elab-2.ensures.kept ∙ c.loop-i.invariant.kept;
  counts = NoneFell-trans _ _ _ c.loop-i.invariant.counts c.in_ok-elab-2.ensures.counts;
}

pub returns-clause-given : goal.returns-clause-given
returns-clause-given g c = λ _. all_accepted _ _ c.args.paths.now c.loop-i.i c.loop-i-test.false _ _ _ c.loop-i.invariant.accepted

pub returns-in_err-elab-2-clause-given : goal.returns-in_err-elab-2-clause-given
returns-in_err-elab-2-clause-given g c =
    refusal_taken _ _ c.args.paths.now c.loop-i.i c.index-paths-i.result _ (c.as_str.ensures.value ∙ c.index-paths-i.is) c.loop-i-test.true _ _ _ c.loop-i.invariant.accepted
    _ _ _ c.from_residual-in_err-elab-2.ensures.1 c.in_err-elab-2.ensures.given

pub returns-in_err-elab-2-clause-read_fault : goal.returns-in_err-elab-2-clause-read_fault
returns-in_err-elab-2-clause-read_fault g c =
    fault_taken c.args.paths.now c.loop-i.i c.index-paths-i.result _ (c.as_str.ensures.value ∙ c.index-paths-i.is) c.loop-i-test.true
    _ _ _ c.loop-i.invariant.counts _ _ c.from_residual-in_err-elab-2.ensures.1 c.in_err-elab-2.ensures.read_fault
