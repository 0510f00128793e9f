use Rattle.search_core.proofs.Images.{AreImages}
use Rattle.search_core.proofs.converting.images.Given as goal

abbrev pub invariant-loop-n : goal.invariant-loop-n
invariant-loop-n l = AreImages l.scheme l.partners l.from l.n l.by l.next
