-- What the words of Standard ML are: the Definition of Standard ML, sections 2.1, 2.4 and 3.1.
use Rattle.std.specs.Prelude.{◌≡◌, ℕ, ◌⊎◌, ◌&&◌, ◌||◌, Bool, false, not, IsTrue, List, [], ◌∷◌, codes, nat_eq, nat_le}
use Rattle.std.specs.List.{All, list_all, list_any}
use Rattle.sig_base.specs.declared.word.Word.{Word}
use Rattle.sig_base.specs.declared.word.Word.TheVariants as word

-- whether the byte is a letter of ASCII
abbrev pub is_letter : ℕ → Bool
is_letter b = (nat_le 65 b && nat_le b 90) || (nat_le 97 b && nat_le b 122)

-- whether the byte is a digit
abbrev pub is_digit : ℕ → Bool
is_digit b = nat_le 48 b && nat_le b 57

-- whether the byte is a letter, a digit, a prime or an underbar
abbrev pub is_alphanumeric_byte : ℕ → Bool
is_alphanumeric_byte b = is_letter b || is_digit b || nat_eq b 39 || nat_eq b 95

-- whether the byte is one of the symbols of which symbolic words are made
unfoldable pub is_symbolic_byte : ℕ → Bool
is_symbolic_byte b = list_any (λ c. nat_eq c b) (codes "!%&$#+-/:<=>?@\\~`^|*")

-- a letter
abbrev pub IsLetter : ℕ → Type 0
IsLetter b = IsTrue (is_letter b)

-- a digit
abbrev pub IsDigit : ℕ → Type 0
IsDigit b = IsTrue (is_digit b)

-- a letter, a digit, a prime or an underbar
abbrev pub IsAlphanumericByte : ℕ → Type 0
IsAlphanumericByte b = IsTrue (is_alphanumeric_byte b)

-- a symbol
abbrev pub IsSymbolicByte : ℕ → Type 0
IsSymbolicByte b = IsTrue (is_symbolic_byte b)

-- one byte of the first sort, and then any number of the second
abbrev pub OneThen : (ℕ → Type 0) → (ℕ → Type 0) → List ℕ → Type 0
OneThen first rest [] = ⊥
OneThen first rest (b ∷ text) = first b × All rest text

-- the bytes of a reserved word
abbrev pub spelling : Word → List ℕ
spelling word.KwAbstype = codes "abstype"
spelling word.KwAnd = codes "and"
spelling word.KwAndalso = codes "andalso"
spelling word.KwAs = codes "as"
spelling word.KwCase = codes "case"
spelling word.KwDatatype = codes "datatype"
spelling word.KwDo = codes "do"
spelling word.KwElse = codes "else"
spelling word.KwEnd = codes "end"
spelling word.KwException = codes "exception"
spelling word.KwFn = codes "fn"
spelling word.KwFun = codes "fun"
spelling word.KwHandle = codes "handle"
spelling word.KwIf = codes "if"
spelling word.KwIn = codes "in"
spelling word.KwInfix = codes "infix"
spelling word.KwInfixr = codes "infixr"
spelling word.KwLet = codes "let"
spelling word.KwLocal = codes "local"
spelling word.KwNonfix = codes "nonfix"
spelling word.KwOf = codes "of"
spelling word.KwOp = codes "op"
spelling word.KwOpen = codes "open"
spelling word.KwOrelse = codes "orelse"
spelling word.KwRaise = codes "raise"
spelling word.KwRec = codes "rec"
spelling word.KwThen = codes "then"
spelling word.KwType = codes "type"
spelling word.KwVal = codes "val"
spelling word.KwWith = codes "with"
spelling word.KwWithtype = codes "withtype"
spelling word.KwWhile = codes "while"
spelling word.KwLParen = codes "("
spelling word.KwRParen = codes ")"
spelling word.KwLBracket = codes "["
spelling word.KwRBracket = codes "]"
spelling word.KwLBrace = codes "{"
spelling word.KwRBrace = codes "}"
spelling word.KwComma = codes ","
spelling word.KwColon = codes ":"
spelling word.KwSemicolon = codes ";"
spelling word.KwDots = codes "..."
spelling word.KwUnderscore = codes "_"
spelling word.KwBar = codes "|"
spelling word.KwEquals = codes "="
spelling word.KwDArrow = codes "=>"
spelling word.KwArrow = codes "->"
spelling word.KwHash = codes "#"
spelling word.KwEqtype = codes "eqtype"
spelling word.KwFunctor = codes "functor"
spelling word.KwInclude = codes "include"
spelling word.KwSharing = codes "sharing"
spelling word.KwSig = codes "sig"
spelling word.KwSignature = codes "signature"
spelling word.KwStruct = codes "struct"
spelling word.KwStructure = codes "structure"
spelling word.KwWhere = codes "where"
spelling word.KwSeal = codes ":>"

-- the text is no reserved word
abbrev pub IsUnreserved : List ℕ → Type 0
IsUnreserved text = (word : Word) → text ≡ spelling word → ⊥

-- an alphanumeric identifier: a letter, then letters, digits, primes and underbars, and no reserved word
abbrev pub IsAlphanumeric : List ℕ → Type 0
IsAlphanumeric text = OneThen IsLetter IsAlphanumericByte text × IsUnreserved text

-- a symbolic identifier: at least one symbol, nothing but symbols, and no reserved word
abbrev pub IsSymbolic : List ℕ → Type 0
IsSymbolic text = OneThen IsSymbolicByte IsSymbolicByte text × IsUnreserved text

-- an identifier: an alphanumeric or a symbolic one
abbrev pub IsIdentifier : List ℕ → Type 0
IsIdentifier text = IsAlphanumeric text ⊎ IsSymbolic text

-- whether the text is a numeral: digits, and the first of them isn't 0
abbrev pub is_numeral : List ℕ → Bool
is_numeral [] = false
is_numeral (b ∷ text) = not (nat_eq b 48) && list_all is_digit (b ∷ text)

-- a numeral
abbrev pub IsNumeral : List ℕ → Type 0
IsNumeral text = IsTrue (is_numeral text)
