use Rattle.std.proofs.Common.{◌≡◌, ◌<◌, ◌^◌, ℕ, Some, length, slice_get}
use Rattle.iso_normal.specs.declared.pair_tree.Entry.{Entry}
use Rattle.iso_normal.specs.PairTrees.{place_of}
use Rattle.iso_normal.proofs.inverting.numbers_by_place.Given as goal

abbrev pub invariant-loop-i : goal.invariant-loop-i
invariant-loop-i l =
    (length l.numbers.items ≡ length l.entries)
    × ((j : ℕ) (e : Entry) → j < l.i → slice_get l.entries j ≡ Some e → (slice_get l.numbers.items (place_of e) ≡ Some j) × (place_of e < 2 ^ 32))
