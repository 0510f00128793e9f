use Rattle.std.proofs.Common.{◌≡◌, take}
use Rattle.elab_env.proofs.realization.copy_realizations.Given as goal

abbrev pub invariant-loop-realization : goal.invariant-loop-realization
invariant-loop-realization l = l.copies ≡ take l.realization-index l.realizations
