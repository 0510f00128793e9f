-- How a token is spelled, by its sort, and what it can name.
use Rattle.std.proofs.Common.{◌≡◌, ℕ, inl, inr, Bool, true, false, List, refl, sym, ◌∙◌, subst}
use Rattle.std.specs.Prelude.{IsTrue, bytes_eq, codes, if◌then◌else◌, ⊤}
use Rattle.std.specs.List.{between}
use Rattle.std.proofs.lemmas.Bool.{false≢true}
use Rattle.std.proofs.lemmas.Slice.Eq.{bytes_eq-Decides}
use Rattle.sig_base.specs.Identifiers.{IsAlphanumeric, IsNumeral, IsSymbolic, spelling}
use Rattle.sig_base.specs.LongIdentifiers.{HasShortParts, IsShort}
use Rattle.sig_base.proofs.LongIdentifiers.{identifier_no_dot, numeral_no_dot, short_text, word_no_dot}
use Rattle.sml_lexer.specs.declared.token.TokenKind.{TokenKind}
use Rattle.sml_lexer.specs.declared.token.TokenKind.TheVariants as kind
use Rattle.sml_lexer.specs.Tokens.{StandsAt}
use Rattle.ty_parser.specs.declared.sort.Sort.{Sort}
use Rattle.ty_parser.specs.declared.sort.Sort.TheVariants as s
use Rattle.ty_parser.specs.Sorts.{is_label, is_strid, is_tycon, is_vid, sort_of_kind}
use Rattle.type_core.specs.Paths.{IsMemberIdentifier, IsTypeIdentifier}
use Rattle.type_core.specs.ValidLibrary.{IsLabel}

-- the text of a token of this sort
abbrev pub IsTextOf : Sort → List ℕ → Type 0
IsTextOf (s.Reserved word) text = text ≡ spelling word
IsTextOf s.Alphanumeric text = IsAlphanumeric text × IsShort text
IsTextOf s.Symbolic text = IsSymbolic text × ¬ (text ≡ codes "*") × IsShort text
IsTextOf s.Star text = IsSymbolic text × IsShort text
IsTextOf s.Numeral text = IsNumeral text × IsShort text
IsTextOf _ text = ⊤

symbol_text : (text : List ℕ) (b : Bool) → bytes_eq text (codes "*") ≡ b → IsSymbolic text → IsShort text → IsTextOf (if b then s.Star else s.Symbolic) text
symbol_text text true tested symbolic short = (symbolic, short)
symbol_text text false tested symbolic short = (symbolic, (λ star. false≢true (sym tested ∙ (bytes_eq-Decides text (codes "*")).1 star)), short)

long_text : (text : List ℕ) (b c : Bool) → IsTextOf (if b then s.LongAlphanumeric else if c then s.LongStar else s.LongSymbolic) text
long_text text true c = tt
long_text text false true = tt
long_text text false false = tt

-- what stands in the file as a token of a kind is spelled as one of its sort
pub kind_text : (bytes : List ℕ) (kind : TokenKind) (start end : ℕ) → StandsAt bytes kind start end → HasShortParts (between start end bytes) → IsTextOf (sort_of_kind kind (between start end bytes)) (between start end bytes)
kind_text bytes (kind.Reserved word) start end stands short = stands
kind_text bytes kind.TyVar start end stands short = tt
kind_text bytes kind.Alpha start end stands short = (stands, short_text _ (word_no_dot _ stands) short)
kind_text bytes kind.Sym start end stands short = symbol_text _ _ refl stands (short_text _ (identifier_no_dot _ (inr stands)) short)
kind_text bytes kind.Long start end stands short = long_text _ _ _
kind_text bytes kind.Num start end stands short = (stands, short_text _ (numeral_no_dot _ stands) short)

letter_no_star : (text : List ℕ) → IsAlphanumeric text → ¬ (text ≡ codes "*")
letter_no_star text h star = false≢true (subst IsAlphanumeric star h).0.0

module _ (text : List ℕ) where
  pub unit_text : (so : Sort) → IsTrue (is_strid so) → IsTextOf so text → IsAlphanumeric text × IsShort text
  unit_text s.Alphanumeric e h = h
  unit_text _ e h = absurd (false≢true e)

  pub type_text : (so : Sort) → IsTrue (is_tycon so) → IsTextOf so text → IsTypeIdentifier text × IsShort text
  type_text s.Alphanumeric e h = ((inl h.0, letter_no_star text h.0), h.1)
  type_text s.Symbolic e h = ((inr h.0, h.1), h.2)
  type_text _ e h = absurd (false≢true e)

  pub constructor_text : (so : Sort) → IsTrue (is_vid so) → IsTextOf so text → IsMemberIdentifier text × IsShort text
  constructor_text s.Alphanumeric e h = (inl (inl h.0), h.1)
  constructor_text s.Symbolic e h = (inl (inr h.0), h.2)
  constructor_text s.Star e h = (inl (inr h.0), h.1)
  constructor_text _ e h = absurd (false≢true e)

  pub label_text : (so : Sort) → IsTrue (is_label so) → IsTextOf so text → IsLabel text
  label_text s.Numeral e h = (h.1, inr h.0)
  label_text s.Alphanumeric e h = (h.1, inl (inl h.0))
  label_text s.Symbolic e h = (h.2, inl (inr h.0))
  label_text s.Star e h = (h.1, inl (inr h.0))
  label_text _ e h = absurd (false≢true e)
