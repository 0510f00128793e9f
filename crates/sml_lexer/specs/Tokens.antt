-- What the tokens of a text are: the Definition of Standard ML, sections 2.1 to 2.5 and 3.1, with numerals as the only special constants.
use Rattle.std.specs.Prelude.{◌≡◌, ℕ, ◌+◌, ◌-◌, ◌<◌, ◌≤◌, ◌⊎◌, List, [], ◌∷◌, ⊤, length, slice_index}
use Rattle.std.specs.List.{All, between}
use Rattle.sig_base.specs.Identifiers.{IsAlphanumeric, IsAlphanumericByte, IsIdentifier, IsNumeral, IsSymbolic, IsSymbolicByte, OneThen, spelling}
use Rattle.sig_base.specs.LongIdentifiers.{HasShortParts, IsPath}
use Rattle.sml_lexer.specs.declared.token.Token.{Token}
use Rattle.sml_lexer.specs.declared.token.TokenKind.{TokenKind}
use Rattle.sml_lexer.specs.declared.token.TokenKind.TheVariants as kind
use Rattle.sml_lexer.specs.Comments.{OpensAt, IsCommentAt}

-- a byte that may stand between tokens: blank, tab, line end, form feed or carriage return
abbrev pub IsSeparator : ℕ → Type 0
IsSeparator b = (b ≡ 32) ⊎ ((b ≡ 9) ⊎ ((b ≡ 10) ⊎ ((b ≡ 12) ⊎ (b ≡ 13))))

-- a prime, then letters, digits, primes and underbars
abbrev pub IsTypeVariable : List ℕ → Type 0
IsTypeVariable text = OneThen (λ b. b ≡ 39) IsAlphanumericByte text

-- bytes of the sort stand on both sides of the place
abbrev pub GoesOn : (ℕ → Type 0) → List ℕ → ℕ → Type 0
GoesOn sort bytes at = sort (slice_index bytes (at - 1)) × sort (slice_index bytes at)

-- the word that ends at the place goes no further
abbrev pub IsWordEnd : List ℕ → ℕ → Type 0
IsWordEnd bytes at = ¬ (GoesOn IsAlphanumericByte bytes at) × ¬ (GoesOn IsSymbolicByte bytes at)

-- the bytes from start to end can be a token of the kind, the longest at its place or not
abbrev pub StandsAt : List ℕ → TokenKind → ℕ → ℕ → Type 0
StandsAt bytes (kind.Reserved word) start end = between start end bytes ≡ spelling word
StandsAt bytes kind.TyVar start end = IsTypeVariable (between start end bytes)
StandsAt bytes kind.Alpha start end = IsAlphanumeric (between start end bytes)
StandsAt bytes kind.Sym start end = IsSymbolic (between start end bytes)
StandsAt bytes kind.Long start end = IsPath IsIdentifier (between start end bytes) × IsWordEnd bytes end
StandsAt bytes kind.Num start end = IsNumeral (between start end bytes)

-- the longest of these at its place
pub record IsLongestAt (bytes : List ℕ) (kind : TokenKind) (start end : ℕ) : Type 0 where
  pub begins : start < end
  pub within : end ≤ length bytes
  pub stands : StandsAt bytes kind start end
  pub longest : (other : TokenKind) (further : ℕ) → end < further → further ≤ length bytes → StandsAt bytes other start further → ⊥

-- the token at its place: the longest, where no comment begins
abbrev pub IsTokenAt : List ℕ → TokenKind → ℕ → ℕ → Type 0
IsTokenAt bytes kind start end = IsLongestAt bytes kind start end × (OpensAt bytes start → ⊥)

-- no token begins there
abbrev pub NoTokenAt : List ℕ → ℕ → Type 0
NoTokenAt bytes at = (kind : TokenKind) (end : ℕ) → IsTokenAt bytes kind at end → ⊥

-- the text of a token
abbrev pub text_of : List ℕ → Token → List ℕ
text_of bytes t = between t.span.start t.span.end bytes

-- separators and comments, from one place to another
pub data IsGap (bytes : List ℕ) : ℕ → ℕ → Type 0 where
  no_gap : {at : ℕ} → at ≤ length bytes → IsGap bytes at at
  a_separator : {at to : ℕ} → IsSeparator (slice_index bytes at) → IsGap bytes (at + 1) to → IsGap bytes at to
  a_comment : {at further to : ℕ} → IsCommentAt bytes at further → IsGap bytes further to → IsGap bytes at to

-- from one place to another the bytes are these tokens, none with a part of more than 255 bytes, and gaps before, between and after them
abbrev pub Reads : List ℕ → ℕ → List Token → ℕ → Type 0
Reads bytes from [] to = IsGap bytes from to
Reads bytes from (t ∷ ts) to =
    IsGap bytes from t.span.start × IsTokenAt bytes t.kind t.span.start t.span.end × HasShortParts (text_of bytes t) × Reads bytes t.span.end ts to

-- the tokens of a text
abbrev pub tokens : List ℕ → List Token → Type 0
tokens bytes ts = Reads bytes 0 ts (length bytes)

-- each token ends before every later one begins
abbrev pub AreInOrder : List Token → Type 0
AreInOrder [] = ⊤
AreInOrder (t ∷ ts) = All (λ later. t.span.end ≤ later.span.start) ts × AreInOrder ts
