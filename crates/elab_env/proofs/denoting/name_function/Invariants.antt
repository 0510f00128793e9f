use Rattle.std.proofs.Common.{◌≡◌}
use Rattle.elab_env.specs.Parameters.{parameters}
use Rattle.elab_env.proofs.denoting.name_function.Given as goal

abbrev pub invariant-loop-n : goal.invariant-loop-n
invariant-loop-n l = l.arguments ≡ parameters l.n
