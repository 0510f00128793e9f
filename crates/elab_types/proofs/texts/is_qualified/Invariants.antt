use Rattle.std.proofs.Common.{◌≡◌, drop}
use Rattle.elab_types.specs.Sources.{is_qualified}
use Rattle.elab_types.proofs.texts.is_qualified.Given as goal

abbrev pub invariant-loop-b : goal.invariant-loop-b
invariant-loop-b l = is_qualified (drop l.b-index l.text) ≡ is_qualified l.text
