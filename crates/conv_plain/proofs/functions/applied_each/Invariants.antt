use Rattle.std.proofs.Common.{◌≡◌, ◌++◌, drop}
use Rattle.conv_plain.specs.SplitJoin.{applied_each}
use Rattle.conv_plain.proofs.functions.applied_each.Given as goal

abbrev pub invariant-loop-e : goal.invariant-loop-e
invariant-loop-e l = l.done ++ applied_each l.n l.arguments (drop l.e-index l.terms) ≡ applied_each l.n l.arguments l.terms
