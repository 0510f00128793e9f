-- Counts of failures at files in memory and at all other paths.
use Rattle.std.specs.Prelude.{◌≡◌, ℕ, Option, Some, None, slice_index_or}
use Rattle.sig_base.specs.declared.fault_counts.FaultCounts.{FaultCounts}

-- the count of the file at a place, 0 where none is listed, and the one of all paths outside
abbrev pub count_at : FaultCounts → Option ℕ → ℕ
count_at counts None = counts.outside
count_at counts (Some place) = slice_index_or counts.inside.items place 0

-- one count is this number now, and all others are as before
pub record SetAt (place : Option ℕ) (count : ℕ) (before now : FaultCounts) : Type 0 where
  pub own : count_at now place ≡ count
  pub others : (other : Option ℕ) → ¬ (other ≡ place) → count_at now other ≡ count_at before other
