use Rattle.search_core.specs.Telling.{AreTold}
use Rattle.search_core.proofs.Found.{AreFound}
use Rattle.search_core.proofs.searching.search.Given as goal

abbrev pub invariant-loop-i : goal.invariant-loop-i
invariant-loop-i l = AreFound l.lib l.mode l.query l.i l.hits × AreTold l.lib.names l.mode l.query l.told
