use Rattle.std.proofs.Common.{◌≡◌, ◌+◌, drop}
use Rattle.type_core.specs.Variables.{occurs, place}
use Rattle.elab_phrases.proofs.typing.parameter_place.Given as goal

abbrev pub invariant-loop-n : goal.invariant-loop-n
invariant-loop-n l = record {
  occurs : occurs l.v (drop l.n l.parameters) ≡ occurs l.v l.parameters;
  place : l.n + place l.v (drop l.n l.parameters) ≡ place l.v l.parameters;
}
