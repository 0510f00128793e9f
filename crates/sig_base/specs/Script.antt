-- Which calls on an object in memory are made to fail.
use Rattle.std.specs.Prelude.{◌≡◌, ℕ, ◌+◌, ◌^◌, ◌≤◌, List, Option, Some, None, ⊤, Contains}

-- the call of this number is to fail; past the last value of `u64` there is no number, and no call is
abbrev pub FailsCall : Option ℕ → List ℕ → Type 0
FailsCall None numbers = ⊥
FailsCall (Some number) numbers = Contains numbers number

-- the next call has the number after this one's, as far as `u64` goes
abbrev pub CountsOn : Option ℕ → Option ℕ → Type 0
CountsOn None None = ⊤
CountsOn None (Some next) = ⊥
CountsOn (Some number) None = 2 ^ 64 ≤ number + 1
CountsOn (Some number) (Some next) = next ≡ number + 1
