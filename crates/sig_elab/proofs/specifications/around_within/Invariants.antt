use Rattle.std.proofs.Common.{◌≡◌, take}
use Rattle.sig_elab.proofs.specifications.around_within.Given as goal

abbrev pub invariant-loop-scope : goal.invariant-loop-scope
invariant-loop-scope l = l.around ≡ take l.scope-index l.site.around.now
