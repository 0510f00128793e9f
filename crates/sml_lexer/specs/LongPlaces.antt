-- Long identifiers by the places of their parts, each the longest word at its place.
use Rattle.std.specs.Prelude.{◌≡◌, ℕ, ◌+◌, ◌<◌, ◌≤◌, ◌⊎◌, List, length, slice_index}
use Rattle.std.specs.List.{between}
use Rattle.sig_base.specs.Identifiers.{IsAlphanumeric, IsAlphanumericByte, IsSymbolic, IsSymbolicByte}

-- the longest word at its place is the one from start to end, and it is an alphanumeric identifier
pub record IsAlphanumericAt (bytes : List ℕ) (start end : ℕ) : Type 0 where
  pub within : end ≤ length bytes
  pub identifier : IsAlphanumeric (between start end bytes)
  pub whole : end < length bytes → IsAlphanumericByte (slice_index bytes end) → ⊥

-- the same of a symbolic identifier
pub record IsSymbolicAt (bytes : List ℕ) (start end : ℕ) : Type 0 where
  pub within : end ≤ length bytes
  pub identifier : IsSymbolic (between start end bytes)
  pub whole : end < length bytes → IsSymbolicByte (slice_index bytes end) → ⊥

-- the same of an identifier of either sort
abbrev pub IsIdentifierAt : List ℕ → ℕ → ℕ → Type 0
IsIdentifierAt bytes start end = IsAlphanumericAt bytes start end ⊎ IsSymbolicAt bytes start end

-- alphanumeric identifiers, at least one, each followed by a dot, and last an identifier
pub data IsLongAt (bytes : List ℕ) : ℕ → ℕ → Type 0 where
  last_part : {start dot end : ℕ} → IsAlphanumericAt bytes start dot → slice_index bytes dot ≡ 46 → IsIdentifierAt bytes (dot + 1) end → IsLongAt bytes start end
  more_parts : {start dot end : ℕ} → IsAlphanumericAt bytes start dot → slice_index bytes dot ≡ 46 → IsLongAt bytes (dot + 1) end → IsLongAt bytes start end
