use Rattle.std.proofs.Common.{◌≡◌, ◌++◌, map, drop}
use Rattle.elab_types.specs.Sources.{variable}
use Rattle.elab_types.specs.Views.{texts}
use Rattle.elab_rules.proofs.parameters.variables_at.Given as goal

abbrev pub invariant-loop-token : goal.invariant-loop-token
invariant-loop-token l = l.variables ++ map (variable (texts l.source)) (drop l.token-index l.tokens) ≡ map (variable (texts l.source)) l.tokens
