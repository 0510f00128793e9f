-- What was written of a text, where what is written is told.
use Rattle.std.specs.Prelude.{ℕ, ◌<◌, List, length, take, Option}
use Rattle.std.specs.Io.KnownBytes.{Appends}

-- some bytes at the front of these were added, and not all of them
abbrev pub AppendsPart : Option (List ℕ) → Option (List ℕ) → List ℕ → Type 0
AppendsPart before now bytes = (n : ℕ) × (n < length bytes) × Appends before now (take n bytes)
