-- A text is of one kind.
use Rattle.std.proofs.Common.{◌≡◌, ℕ, ◌+◌, ◌-◌, ◌<◌, ◌≤◌, inl, inr, Bool, true, false, ◌&&◌, ◌||◌, eqb, Option, Some, None, List, [], ◌∷◌, length, slice_index, get_or, refl, ap, sym, ◌∙◌, arith}
use Rattle.std.specs.Prelude.{if◌then◌else◌}
use Rattle.std.specs.Str.{bytes_eq}
use Rattle.std.specs.List.{between, list_any}
use Rattle.std.proofs.lemmas.Bool.{cond-false, false_from_ne_true, ne_eqb, eq-eqb, true≢false}
use Rattle.std.proofs.lemmas.Slice.Eq.{bytes_eq-Decides}
use Rattle.std.proofs.lemmas.List.Edits.{length-between, get_or-between}
use Rattle.std.proofs.lemmas.List.Elements.{All-weaker}
use Rattle.std.proofs.lemmas.List.Folds.{list_any_at, list_any_none}
use Rattle.sig_base.specs.Identifiers.{IsLetter, IsDigit, IsAlphanumericByte, IsSymbolicByte, OneThen, IsUnreserved, spelling}
use Rattle.sig_base.specs.declared.word.Word.{Word}
use Rattle.sig_base.specs.declared.word.Word.TheVariants as word
use Rattle.sig_base.proofs.WordBytes.{letter_alphanumeric, numeral_word}
use Rattle.sml_lexer.specs.declared.token.TokenKind.{TokenKind}
use Rattle.sml_lexer.specs.declared.token.TokenKind.TheVariants as kind
use Rattle.sml_lexer.specs.Tokens.{StandsAt, IsLongestAt}
use Rattle.sml_lexer.specs.LongPlaces.{IsLongAt, last_part, more_parts}
use Rattle.sml_lexer.proofs.LongPlaces.{identifier_begins, long_begins, stands_long, word_led}
use Rattle.sml_lexer.proofs.Sorts.{sort, sort-letter, sort-symbol, sort-digit, dot-not_alphanumeric}
use Rattle.sml_lexer.proofs.Runs.{between_cons}
use Rattle.sml_lexer.proofs.Shapes.{long_letter}

abbrev words : List Word
words =
    word.KwAbstype ∷ word.KwAnd ∷ word.KwAndalso ∷ word.KwAs ∷ word.KwCase ∷ word.KwDatatype ∷ word.KwDo ∷ word.KwElse ∷
    word.KwEnd ∷ word.KwException ∷ word.KwFn ∷ word.KwFun ∷ word.KwHandle ∷ word.KwIf ∷ word.KwIn ∷ word.KwInfix ∷
    word.KwInfixr ∷ word.KwLet ∷ word.KwLocal ∷ word.KwNonfix ∷ word.KwOf ∷ word.KwOp ∷ word.KwOpen ∷ word.KwOrelse ∷
    word.KwRaise ∷ word.KwRec ∷ word.KwThen ∷ word.KwType ∷ word.KwVal ∷ word.KwWith ∷ word.KwWithtype ∷ word.KwWhile ∷
    word.KwLParen ∷ word.KwRParen ∷ word.KwLBracket ∷ word.KwRBracket ∷ word.KwLBrace ∷ word.KwRBrace ∷ word.KwComma ∷ word.KwColon ∷
    word.KwSemicolon ∷ word.KwDots ∷ word.KwUnderscore ∷ word.KwBar ∷ word.KwEquals ∷ word.KwDArrow ∷ word.KwArrow ∷ word.KwHash ∷
    word.KwEqtype ∷ word.KwFunctor ∷ word.KwInclude ∷ word.KwSharing ∷ word.KwSig ∷ word.KwSignature ∷ word.KwStruct ∷ word.KwStructure ∷
    word.KwWhere ∷ word.KwSeal ∷
    []

abbrev word_in : List Word → List ℕ → Option Word
word_in [] text = None
word_in (w ∷ ws) text = if bytes_eq text (spelling w) then Some w else word_in ws text

abbrev opens : List ℕ → ℕ
opens [] = 0
opens (b ∷ text) = sort b

abbrev dotted : List ℕ → Bool
dotted text = list_any (λ c. eqb c 46) text

abbrev sorted : List ℕ → TokenKind
sorted text =
    if eqb (opens text) 1 then (if dotted text then kind.Long else kind.Alpha) else (if eqb (opens text) 3 then kind.TyVar
    else (if eqb (opens text) 4 then kind.Num else kind.Sym))

abbrev named : Option Word → List ℕ → TokenKind
named (Some w) text = kind.Reserved w
named None text = sorted text

abbrev kind_of : List ℕ → TokenKind
kind_of text = named (word_in words text) text

kind_of-spelling : (w : Word) → kind_of (spelling w) ≡ kind.Reserved w
kind_of-spelling word.KwAbstype = refl
kind_of-spelling w = refl

-- no reserved word begins as a type variable or a numeral, and none of letters has a dot
opens-spelling : (w : Word) → (eqb (opens (spelling w)) 3 || eqb (opens (spelling w)) 4) ≡ false
opens-spelling word.KwAbstype = refl
opens-spelling w = refl

dotted-spelling : (w : Word) → (eqb (opens (spelling w)) 1 && dotted (spelling w)) ≡ false
dotted-spelling word.KwAbstype = refl
dotted-spelling w = refl

word_in-unreserved : (ws : List Word) (text : List ℕ) → IsUnreserved text → word_in ws text ≡ None
word_in-unreserved [] text free = refl
word_in-unreserved (w ∷ ws) text free =
    cond-false (bytes_eq text (spelling w)) (Some w) (word_in ws text)
    (false_from_ne_true (bytes_eq text (spelling w)) (λ e. free w ((bytes_eq-Decides text (spelling w)).0 e)))
    ∙ word_in-unreserved ws text free

kind_of-free : (text : List ℕ) → IsUnreserved text → kind_of text ≡ sorted text
kind_of-free text free = ap (λ o. named o text) (word_in-unreserved words text free)

free_by_opens : (text : List ℕ) → (eqb (opens text) 3 || eqb (opens text) 4) ≡ true → IsUnreserved text
free_by_opens text h w e = true≢false (sym h ∙ (ap (λ (t : List ℕ). eqb (opens t) 3 || eqb (opens t) 4) e ∙ opens-spelling w))

free_by_dot : (text : List ℕ) → (eqb (opens text) 1 && dotted text) ≡ true → IsUnreserved text
free_by_dot text h w e = true≢false (sym h ∙ (ap (λ (t : List ℕ). eqb (opens t) 1 && dotted t) e ∙ dotted-spelling w))

letter_sorted : (text : List ℕ) (b : Bool) → opens text ≡ 1 → dotted text ≡ b → sorted text ≡ (if b then kind.Long else kind.Alpha)
letter_sorted text b s d = rw (s, d) refl

variable_kind : (text : List ℕ) → OneThen (λ b. b ≡ 39) IsAlphanumericByte text → kind_of text ≡ kind.TyVar
variable_kind [] h = absurd h
variable_kind (b ∷ text) h =
    let s : sort b ≡ 3 = ap sort h.0 in
    let free : IsUnreserved (b ∷ text) = free_by_opens (b ∷ text) (rw s refl) in
    kind_of-free (b ∷ text) free ∙ rw s refl

numeral_kind : (text : List ℕ) → OneThen (λ b. (49 ≤ b) × (b ≤ 57)) IsDigit text → kind_of text ≡ kind.Num
numeral_kind [] h = absurd h
numeral_kind (b ∷ text) h =
    let s : sort b ≡ 4 = sort-digit b h.0.0 h.0.1 in
    let free : IsUnreserved (b ∷ text) = free_by_opens (b ∷ text) (rw s refl) in
    kind_of-free (b ∷ text) free ∙ rw s refl

symbol_kind : (text : List ℕ) → OneThen IsSymbolicByte IsSymbolicByte text → IsUnreserved text → kind_of text ≡ kind.Sym
symbol_kind [] h free = absurd h
symbol_kind (b ∷ text) h free =
    let s : sort b ≡ 2 = sort-symbol b h.0 in
    kind_of-free (b ∷ text) free ∙ rw s refl

dotless : (text : List ℕ) → OneThen IsLetter IsAlphanumericByte text → dotted text ≡ false
dotless [] h = absurd h
dotless (b ∷ text) h =
    let first : eqb b 46 ≡ false = ne_eqb b 46 (λ e. dot-not_alphanumeric b e (letter_alphanumeric b h.0)) in
    let rest : dotted text ≡ false = list_any_none (λ c. eqb c 46) text (All-weaker IsAlphanumericByte (λ c. eqb c 46 ≡ false) (λ c k. ne_eqb c 46 (λ e. dot-not_alphanumeric c e k)) text h.1) in
    rw (first, rest) refl

alphanumeric_kind : (text : List ℕ) → OneThen IsLetter IsAlphanumericByte text → IsUnreserved text → kind_of text ≡ kind.Alpha
alphanumeric_kind [] h free = absurd h
alphanumeric_kind (b ∷ text) h free =
    let s : sort b ≡ 1 = sort-letter b h.0 in
    let d : dotted (b ∷ text) ≡ false = dotless (b ∷ text) h in
    kind_of-free (b ∷ text) free ∙ letter_sorted (b ∷ text) false s d

long_kind : (text : List ℕ) → opens text ≡ 1 → dotted text ≡ true → kind_of text ≡ kind.Long
long_kind text s d =
    let free : IsUnreserved text = free_by_dot text (rw (s, d) refl) in
    kind_of-free text free ∙ letter_sorted text true s d

module _ (bytes : List ℕ) where
  dot_within : (start dot end : ℕ) → start < dot → dot + 1 < end → end ≤ length bytes → slice_index bytes dot ≡ 46 → dotted (between start end bytes) ≡ true
  dot_within start dot end first rest within e =
      let size : length (between start end bytes) ≡ end - start = length-between bytes start end within in
      let place : start + (dot - start) ≡ dot = omega arith in
      let below : start + (dot - start) < end = omega arith in
      let at : get_or (between start end bytes) (dot - start) 0 ≡ slice_index bytes (start + (dot - start)) = get_or-between bytes start end (dot - start) 0 below in
      list_any_at (λ c. eqb c 46) (between start end bytes) (dot - start) 0 (omega (arith, size)) (eq-eqb _ 46 (at ∙ (ap (λ (k : ℕ). slice_index bytes k) place ∙ e)))

  long_dotted : {start end : ℕ} → end ≤ length bytes → IsLongAt bytes start end → dotted (between start end bytes) ≡ true
  long_dotted within (last_part {start} {dot} {end} a e i) = dot_within start dot end (word_led bytes start a).begins (identifier_begins bytes (dot + 1) end i).0 within e
  long_dotted within (more_parts {start} {dot} {end} a e l) = dot_within start dot end (word_led bytes start a).begins (long_begins bytes l) within e

  opens-between : (start end : ℕ) → start < end → end ≤ length bytes → opens (between start end bytes) ≡ sort (slice_index bytes start)
  opens-between start end begins within = ap opens (between_cons bytes start end begins (omega arith))

  pub kind_stands : (kind : TokenKind) (start end : ℕ) → end ≤ length bytes → StandsAt bytes kind start end → kind_of (between start end bytes) ≡ kind
  kind_stands (kind.Reserved w) start end within h = ap kind_of h ∙ kind_of-spelling w
  kind_stands kind.TyVar start end within h = variable_kind (between start end bytes) h
  kind_stands kind.Alpha start end within h = alphanumeric_kind (between start end bytes) h.0 h.1
  kind_stands kind.Sym start end within h = symbol_kind (between start end bytes) h.0 h.1
  kind_stands kind.Long start end within h =
      let l = stands_long bytes start end within h in
      long_kind (between start end bytes)
      (opens-between start end (long_begins bytes l) within ∙ sort-letter (slice_index bytes start) (long_letter bytes start end within l))
      (long_dotted within l)
  kind_stands kind.Num start end within h = numeral_kind (between start end bytes) (numeral_word (between start end bytes) h)

  pub one_end : (a b : TokenKind) (start end further : ℕ) → IsLongestAt bytes a start end → IsLongestAt bytes b start further → end ≡ further
  one_end a b start end further t u =
      let f : end < further → ⊥ = λ lt. t.longest b further lt u.within u.stands in
      let g : further < end → ⊥ = λ lt. u.longest a end lt t.within t.stands in
      omega arith

  pub one_kind : (a b : TokenKind) (start end further : ℕ) → IsLongestAt bytes a start end → IsLongestAt bytes b start further → a ≡ b
  one_kind a b start end further t u =
      sym (kind_stands a start end t.within t.stands)
      ∙ (ap (λ (k : ℕ). kind_of (between start k bytes)) (one_end a b start end further t u) ∙ kind_stands b start further u.within u.stands)
