-- What the tokens of a text are to the grammars of types and of files.
use Rattle.std.specs.Prelude.{ℕ, ◌-◌, Bool, true, false, if◌then◌else◌, List, map, length, codes, bytes_eq, slice_index, nat_eq}
use Rattle.std.specs.List.{ends_with}
use Rattle.sig_base.specs.Identifiers.{is_alphanumeric_byte}
use Rattle.sml_lexer.specs.Tokens.{text_of}
use Rattle.sml_lexer.specs.declared.token.Token.{Token}
use Rattle.sml_lexer.specs.declared.token.TokenKind.{TokenKind}
use Rattle.sml_lexer.specs.declared.token.TokenKind.TheVariants as kind
use Rattle.ty_parser.specs.declared.sort.Sort.{Sort}
use Rattle.ty_parser.specs.declared.sort.Sort.TheVariants as s

-- a symbolic identifier without dots
abbrev pub sort_of_symbol : List ℕ → Sort
sort_of_symbol text = if bytes_eq text (codes "*") then s.Star else s.Symbolic

-- a long identifier, by its last part, which is alphanumeric where the last byte is, `*` where the text ends in `.*`, and else another symbolic identifier
abbrev pub sort_of_long : List ℕ → Sort
sort_of_long text =
    if is_alphanumeric_byte (slice_index text (length text - 1)) then s.LongAlphanumeric
    else if ends_with nat_eq text (codes ".*") then s.LongStar else s.LongSymbolic

-- a token of this kind and text
abbrev pub sort_of_kind : TokenKind → List ℕ → Sort
sort_of_kind (kind.Reserved word) text = s.Reserved word
sort_of_kind kind.TyVar text = s.Variable
sort_of_kind kind.Alpha text = s.Alphanumeric
sort_of_kind kind.Sym text = sort_of_symbol text
sort_of_kind kind.Long text = sort_of_long text
sort_of_kind kind.Num text = s.Numeral

-- a token of a text
abbrev pub sort_of : List ℕ → Token → Sort
sort_of bytes token = sort_of_kind token.kind (text_of bytes token)

-- the tokens of a text
abbrev pub sorts_of : List ℕ → List Token → List Sort
sorts_of bytes tokens = map (sort_of bytes) tokens

-- vid: an identifier without dots
abbrev pub is_vid : Sort → Bool
is_vid s.Alphanumeric = true
is_vid s.Symbolic = true
is_vid s.Star = true
is_vid _ = false

-- lab: an identifier without dots or a numeral
abbrev pub is_label : Sort → Bool
is_label s.Numeral = true
is_label so = is_vid so

-- tycon: an identifier without dots other than *
abbrev pub is_tycon : Sort → Bool
is_tycon s.Alphanumeric = true
is_tycon s.Symbolic = true
is_tycon _ = false

-- longtycon: an identifier, long or not, whose last part is not *
abbrev pub is_long_tycon : Sort → Bool
is_long_tycon s.LongAlphanumeric = true
is_long_tycon s.LongSymbolic = true
is_long_tycon so = is_tycon so

-- strid and sigid: an alphanumeric identifier without dots
abbrev pub is_strid : Sort → Bool
is_strid s.Alphanumeric = true
is_strid _ = false

-- longstrid: an identifier, long or not, whose parts are alphanumeric
abbrev pub is_long_strid : Sort → Bool
is_long_strid s.LongAlphanumeric = true
is_long_strid so = is_strid so
