-- What the parts of reading say of a place.
use Rattle.std.specs.Prelude.{ℕ, ◌≤◌, List, length}
use Rattle.sml_lexer.specs.declared.longest.Part.{Part}
use Rattle.sml_lexer.specs.declared.longest.Part.TheVariants as part
use Rattle.sml_lexer.specs.declared.token.TokenKind.{TokenKind}
use Rattle.sml_lexer.specs.Tokens.{StandsAt}
use Rattle.sml_lexer.specs.LongPlaces.{IsAlphanumericAt, IsIdentifierAt, IsSymbolicAt}

-- nothing can stand there, be it the longest or not
abbrev pub NothingAt : List ℕ → ℕ → Type 0
NothingAt bytes at = (kind : TokenKind) (end : ℕ) → end ≤ length bytes → StandsAt bytes kind at end → ⊥

-- the longest word at the place is no identifier, or there is no word
abbrev pub NoIdentifierAt : List ℕ → ℕ → Type 0
NoIdentifierAt bytes at = (end : ℕ) → IsIdentifierAt bytes at end → ⊥

-- the longest word at the place is this identifier
abbrev pub IsPartAt : List ℕ → ℕ → Part → Type 0
IsPartAt bytes at (part.Alphanumeric end) = IsAlphanumericAt bytes at end
IsPartAt bytes at (part.Symbolic end) = IsSymbolicAt bytes at end
