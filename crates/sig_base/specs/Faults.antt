-- Counts of faults, and which answers they license.
use Rattle.std.specs.Prelude.{ℕ, ◌+◌, ◌-◌, ◌^◌, ◌≤◌, min, List, OnErr, IsErrOf, Result}
use Rattle.sig_base.specs.declared.files.Trouble.{Trouble}
use Rattle.sig_base.specs.declared.files.Trouble.TheVariants.{Failed}

-- a count is greater than before, or has come to the last value of `u64`
abbrev pub Rose : ℕ → ℕ → Type 0
Rose before now = min (before + 1) (2 ^ 64 - 1) ≤ now

-- no path's count is less than before
abbrev pub NoneFell : (List ℕ → ℕ) → (List ℕ → ℕ) → Type 0
NoneFell before now = (path : List ℕ) → before path ≤ now path

-- the count did not fall, and after an error it rose
pub record HasCause {T E : Type 0} (before now : ℕ) (result : Result T E) : Type 0 where
  pub kept : before ≤ now
  pub failed : OnErr result (Rose before now)

-- no count fell, and after `Failed` the count of this path rose
pub record HasCauseAt {T : Type 0} (path : List ℕ) (before now : List ℕ → ℕ) (result : Result T Trouble) : Type 0 where
  pub kept : NoneFell before now
  pub failed : IsErrOf result Failed → Rose (before path) (now path)
