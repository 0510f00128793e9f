use Rattle.std.proofs.Common.{◌≡◌, true, map}
use Rattle.std.specs.Vec.Iter.{into_iter_items}
use Rattle.conv_terms.specs.Shifting.{shifted}
use Rattle.conv_terms.specs.deciding.Depths.{are_absent}
use Rattle.conv_terms.proofs.contraction.+lower.Given as goal

abbrev pub invariant-lower_all-loop-t : goal.invariant-lower_all-loop-t
invariant-lower_all-loop-t l =
    (map (shifted l.level 1) l.done ≡ l.yielded)
    × (are_absent l.level (into_iter_items l.t-iterator) ≡ true)
