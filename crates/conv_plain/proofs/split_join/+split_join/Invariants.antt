use Rattle.std.proofs.Common.{◌≡◌, ◌++◌, drop, length}
use Rattle.conv_plain.specs.SplitJoin.{split_all, join_all}
use Rattle.conv_plain.proofs.split_join.+split_join.Given as goal

abbrev pub invariant-split_all-loop-part : goal.invariant-split_all-loop-part
invariant-split_all-loop-part l = l.done ++ split_all (drop l.part-index l.parts) l.n l.i (length l.parts) l.e ≡ split_all l.parts l.n 1 (length l.parts) l.e

abbrev pub invariant-join_all-loop-part : goal.invariant-join_all-loop-part
invariant-join_all-loop-part l = l.done ++ join_all (drop l.part-index l.parts) l.n l.rest ≡ join_all l.parts l.n l.terms
