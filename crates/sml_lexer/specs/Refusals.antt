-- Why a text has no tokens, and at which byte.
use Rattle.std.specs.Prelude.{ℕ, ◌<◌, List, ⊤, length, slice_index}
use Rattle.std.specs.List.{between}
use Rattle.sig_base.specs.LongIdentifiers.{HasShortParts}
use Rattle.sml_lexer.specs.declared.token.LexRefusal.{LexRefusal}
use Rattle.sml_lexer.specs.declared.token.LexRefusal.TheVariants as refusal
use Rattle.sml_lexer.specs.declared.token.Token.{Token}
use Rattle.sml_lexer.specs.declared.token.TokenKind.{TokenKind}
use Rattle.sml_lexer.specs.Comments.{OpensAt, IsNeverClosed}
use Rattle.sml_lexer.specs.Tokens.{IsSeparator, IsTokenAt, NoTokenAt, Reads}

-- reading reaches the place: before it are tokens and gaps
abbrev pub IsReached : List ℕ → ℕ → Type 0
IsReached bytes at = (before : List Token) × Reads bytes 0 before at

-- no separator, no comment, closed or not, and no token begins at the byte
pub record IsBadByte (bytes : List ℕ) (at : ℕ) : Type 0 where
  pub within : at < length bytes
  pub no_separator : IsSeparator (slice_index bytes at) → ⊥
  pub no_comment : OpensAt bytes at → ⊥
  pub no_token : NoTokenAt bytes at

-- a comment begins there that isn't closed
abbrev pub IsOpenComment : List ℕ → ℕ → Type 0
IsOpenComment bytes at = OpensAt bytes at × IsNeverClosed bytes at

-- the token that begins there has a part of more than 255 bytes
pub record IsLongName (bytes : List ℕ) (at : ℕ) : Type 0 where
  pub kind : TokenKind
  pub end : ℕ
  pub token : IsTokenAt bytes kind at end
  pub long : ¬ HasShortParts (between at end bytes)

-- the text is refused for this: reading reaches the place, and stops there; want of memory is nothing in the text
abbrev pub Refuses : List ℕ → LexRefusal → Type 0
Refuses bytes (refusal.BadByte at) = IsReached bytes at × IsBadByte bytes at
Refuses bytes (refusal.OpenComment at) = IsReached bytes at × IsOpenComment bytes at
Refuses bytes (refusal.LongName at) = IsReached bytes at × IsLongName bytes at
Refuses bytes refusal.NoMemory = ⊥

-- what an answer tells of the text: that it is refused for this, or, where memory was wanted, nothing
abbrev pub Tells : List ℕ → LexRefusal → Type 0
Tells bytes refusal.NoMemory = ⊤
Tells bytes refusal = Refuses bytes refusal
