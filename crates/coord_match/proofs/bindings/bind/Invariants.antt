use Rattle.std.proofs.Common.{◌≡◌, drop}
use Rattle.coord_match.specs.search.Bindings.{bind}
use Rattle.coord_match.proofs.bindings.bind.Given as goal

abbrev pub invariant-loop-i : goal.invariant-loop-i
invariant-loop-i l = (l.bound ≡ l.fn.bound) × (bind l.one l.fn.bound (drop l.i l.bound) ≡ bind l.one l.fn.bound l.fn.bound)
