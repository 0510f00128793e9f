use Rattle.std.proofs.Common.{ℕ, ◌<◌}
use Rattle.iso_normal.proofs.Untaken.{IsLeft, IsLike}
use Rattle.iso_normal.proofs.deciding.+agree.Given as goal

abbrev pub invariant-agree-loop-f : goal.invariant-agree-loop-f
invariant-agree-loop-f l = IsLeft l.fs l.gs l.f-index l.taken.items

abbrev pub invariant-place_of_like-loop-j : goal.invariant-place_of_like-loop-j
invariant-place_of_like-loop-j l = (k : ℕ) → k < l.j → IsLike l.f l.gs l.taken k → ⊥
