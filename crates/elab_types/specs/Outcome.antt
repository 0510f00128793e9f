-- What a meaning comes to: checks and steps in order, of which the first that fails is the outcome.
use Rattle.std.specs.Prelude.{ℕ, Bool, true, false, Option, Some, None, Result, Ok, Err}

-- the condition that failed, and the token at which it did
pub record Failure (Why : Type 0) : Type 0 where
  pub why : Why
  pub token : ℕ

-- a value, or the first failure
abbrev pub Outcome : Type 0 → Type 0 → Type 0
Outcome Why A = Result A (Failure Why)

abbrev pub failed : {Why A : Type 0} → Why → ℕ → Outcome Why A
failed why token = Err (record { why = why; token = token })

-- a step, and what follows with its value
abbrev pub and_then : {Why A B : Type 0} → Outcome Why A → (A → Outcome Why B) → Outcome Why B
and_then (Ok a) next = next a
and_then (Err failure) next = Err failure

-- a condition, how it fails and where, and what follows
abbrev pub checked : {Why A : Type 0} → Bool → Why → ℕ → Outcome Why A → Outcome Why A
checked true why token rest = rest
checked false why token rest = failed why token

-- something that must be there, how it fails where it isn't, and what follows with it
abbrev pub required : {Why A B : Type 0} → Option A → Why → ℕ → (A → Outcome Why B) → Outcome Why B
required None why token next = failed why token
required (Some a) why token next = next a
