use Rattle.std.proofs.Common.{◌≡◌, ◌++◌, drop}
use Rattle.elab_rules.specs.Parameters.{numbered_from}
use Rattle.elab_rules.proofs.parameters.numbered.Given as goal

abbrev pub invariant-loop-n : goal.invariant-loop-n
invariant-loop-n l = l.types ++ numbered_from l.n (drop l.n l.parameters) ≡ numbered_from 0 l.parameters
