-- The texts of tokens, and type variables.
use Rattle.std.specs.Prelude.{◌≡◌, ℕ, ◌≤◌, ◌==◌, ◌&&◌, ◌||◌, Bool, false, List, [], ◌∷◌, Some, length, map, bytes_eq, slice_get, slice_index_or, unwrap_or}
use Rattle.sml_lexer.specs.declared.token.Token.{Token}
use Rattle.sml_lexer.specs.Tokens.{text_of}
use Rattle.type_core.specs.declared.ty.VarId.{VarId}
use Rattle.elab_types.specs.Finding.{place_of}

-- the texts of all tokens
abbrev pub texts_of : List ℕ → List Token → List (List ℕ)
texts_of bytes tokens = map (text_of bytes) tokens

-- each token stands within the text
abbrev pub AreWithin : List ℕ → List Token → Type 0
AreWithin bytes tokens = (i : ℕ) (token : Token) → slice_get tokens i ≡ Some token → (token.span.start ≤ token.span.end) × (token.span.end ≤ length bytes)

-- the text of the token of this number; nothing past the end
abbrev pub text_at : List (List ℕ) → ℕ → List ℕ
text_at texts i = slice_index_or texts i []

-- the number of the first token with this text
abbrev pub first_token : List (List ℕ) → List ℕ → ℕ
first_token texts text = unwrap_or (place_of (bytes_eq text) texts) 0

-- whether the text starts with two primes or more: an equality type variable (the Definition, section 2.4)
abbrev pub is_equality_variable : List ℕ → Bool
is_equality_variable (first ∷ second ∷ others) = (first == 39) && (second == 39)
is_equality_variable _ = false

-- for each token the number of the first with its text
abbrev pub first_tokens : List (List ℕ) → List ℕ
first_tokens texts = map (first_token texts) texts

-- the type variable at a token: its number is that of the first token with its text
abbrev pub variable : List (List ℕ) → ℕ → VarId
variable texts i = record { n = slice_index_or (first_tokens texts) i 0; eq = is_equality_variable (text_at texts i) }

-- whether the text is that of a long identifier: a dot stands in it
abbrev pub is_qualified : List ℕ → Bool
is_qualified [] = false
is_qualified (b ∷ text) = (b == 46) || is_qualified text
