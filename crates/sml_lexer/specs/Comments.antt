-- What the comments of a text are: the Definition of Standard ML, section 2.3.
use Rattle.std.specs.Prelude.{◌≡◌, ℕ, ◌+◌, List, slice_index}

-- `(*` stands there, which begins a comment, closed or not
abbrev pub OpensAt : List ℕ → ℕ → Type 0
OpensAt bytes at = (slice_index bytes at ≡ 40) × (slice_index bytes (at + 1) ≡ 42)

-- `*)` stands there
abbrev pub ClosesAt : List ℕ → ℕ → Type 0
ClosesAt bytes at = (slice_index bytes at ≡ 42) × (slice_index bytes (at + 1) ≡ 41)

mutual
  -- a comment: `(*`, then a body, then `*)`
  pub data IsCommentAt (bytes : List ℕ) : ℕ → ℕ → Type 0 where
    brackets : {start close : ℕ} → OpensAt bytes start → IsBodyAt bytes (start + 2) close → ClosesAt bytes close → IsCommentAt bytes start (close + 2)

  -- a body: bytes and comments, with a comment wherever `(*` stands, and no `*)` outside of those
  pub data IsBodyAt (bytes : List ℕ) : ℕ → ℕ → Type 0 where
    no_more : {at : ℕ} → IsBodyAt bytes at at
    one_byte : {at end : ℕ} → (OpensAt bytes at → ⊥) → (ClosesAt bytes at → ⊥) → IsBodyAt bytes (at + 1) end → IsBodyAt bytes at end
    one_comment : {at further end : ℕ} → IsCommentAt bytes at further → IsBodyAt bytes further end → IsBodyAt bytes at end

-- the comment that begins there isn't closed
abbrev pub IsNeverClosed : List ℕ → ℕ → Type 0
IsNeverClosed bytes at = (end : ℕ) → IsCommentAt bytes at end → ⊥
