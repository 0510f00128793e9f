use Rattle.std.proofs.Common.{◌≡◌, take}
use Rattle.elab_env.specs.Parameters.{parameters}
use Rattle.elab_env.proofs.denoting.are_parameters.Given as goal

abbrev pub invariant-loop-i : goal.invariant-loop-i
invariant-loop-i l = take l.i l.arguments ≡ parameters l.i
