use Rattle.std.proofs.Common.{◌≡◌, drop}
use Rattle.elab_rules.specs.Sharing.{least_of}
use Rattle.elab_rules.specs.Views.{numbers}
use Rattle.elab_realizing.proofs.sharing.least.Given as goal

abbrev pub invariant-loop-n : goal.invariant-loop-n
invariant-loop-n l = least_of l.least.0 (numbers (drop l.n-index l.others)) ≡ least_of l.fn.first.0 (numbers l.others)
