use Rattle.std.proofs.Common.{take}
use Rattle.elab_rules.specs.Places.{ArePlaced}
use Rattle.elab_rules.proofs.unit_places.place_all.Given as goal

abbrev pub invariant-loop-n : goal.invariant-loop-n
invariant-loop-n l = ArePlaced l.places (take l.n l.units)
