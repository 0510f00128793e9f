use Rattle.std.proofs.Common.{◌≡◌, ◌++◌, map, drop}
use Rattle.conv_build.specs.direct.TwoPasses.{behind, leaves_all}
use Rattle.conv_build.proofs.leaves.+leaves.Given as goal

abbrev pub invariant-push_leaves_of_all-loop-part : goal.invariant-push_leaves_of_all-loop-part
invariant-push_leaves_of_all-loop-part l =
    (l.before ≡ l.fn.before)
    × (l.done ++ map (behind l.fn.before) (leaves_all (drop l.part-index l.parts) l.n) ≡ l.fn.done ++ map (behind l.fn.before) (leaves_all l.parts l.n))
