-- Each token of a file has the text that its sort says; where it is a long identifier whose last part is other than `*`, so
-- is the text.
use Rattle.std.proofs.Common.{◌≡◌, inl, inr, ℕ, suc, ◌+◌, ◌≤◌, Bool, true, false, List, [], ◌∷◌, length, sym, ap, ◌∙◌, subst, arith}
use Rattle.std.specs.Prelude.{IsTrue, if◌then◌else◌, ⊤}
use Rattle.std.specs.List.{between, enumerate_from}
use Rattle.std.proofs.lemmas.Bool.{false≢true}
use Rattle.sml_lexer.specs.declared.token.Token.{Token}
use Rattle.sml_lexer.specs.declared.token.TokenKind.{TokenKind}
use Rattle.sml_lexer.specs.declared.token.TokenKind.TheVariants as kind
use Rattle.sml_lexer.specs.Tokens.{Reads, StandsAt, text_of, tokens}
use Rattle.ty_parser.specs.Grammar.{Numbered}
use Rattle.ty_parser.specs.declared.sort.Sort.{Sort}
use Rattle.ty_parser.specs.declared.sort.Sort.TheVariants as s
use Rattle.ty_parser.specs.Sorts.{is_long_tycon, sort_of, sort_of_kind, sort_of_long, sorts_of}
use Rattle.sig_base.specs.Identifiers.{IsIdentifier}
use Rattle.sig_base.specs.LongIdentifiers.{HasShortParts, IsPath}
use Rattle.sig_base.proofs.LongIdentifiers.{identifier_alone}
use Rattle.type_core.specs.Paths.{IsLongTypeIdentifier, IsTypeIdentifier}
use Rattle.elab_types.specs.Sources.{text_at, texts_of}
use Rattle.elab_types.proofs.spelling.Sorts.{IsTextOf, kind_text, type_text}
use Rattle.elab_soundness.proofs.spelling.LongNames.{long_kind, star_sort}
use Rattle.elab_soundness.proofs.valid.LongPaths.{type_no_dot}

-- the text of a long identifier that can name a type constructor
abbrev pub IsLongTextOf : Sort → List ℕ → Type 0
IsLongTextOf s.LongAlphanumeric text = IsLongTypeIdentifier text
IsLongTextOf s.LongSymbolic text = IsLongTypeIdentifier text
IsLongTextOf _ text = ⊤

long_type : (text : List ℕ) (b c : Bool) → IsLongTypeIdentifier text → IsLongTextOf (if b then s.LongAlphanumeric else if c then s.LongStar else s.LongSymbolic) text
long_type text true c long = long
long_type text false true long = tt
long_type text false false long = long

long_sort : (text : List ℕ) → IsPath IsIdentifier text → HasShortParts text → IsLongTextOf (sort_of_long text) text
long_sort text path short = elim (long_kind text path) [
  | inl long ↦ long_type text _ _ (long, short)
  | inr star ↦ subst (λ so. IsLongTextOf so text) (sym (ap sort_of_long star.1 ∙ star_sort star.0)) tt
]

no_long : (text : List ℕ) (b : Bool) → IsLongTextOf (if b then s.Star else s.Symbolic) text
no_long text true = tt
no_long text false = tt

kind_long : (bytes : List ℕ) (kind : TokenKind) (start end : ℕ) → StandsAt bytes kind start end → HasShortParts (between start end bytes) → IsLongTextOf (sort_of_kind kind (between start end bytes)) (between start end bytes)
kind_long bytes (kind.Reserved word) start end stands short = tt
kind_long bytes kind.TyVar start end stands short = tt
kind_long bytes kind.Alpha start end stands short = tt
kind_long bytes kind.Sym start end stands short = no_long _ _
kind_long bytes kind.Long start end stands short = long_sort (between start end bytes) stands.0 short
kind_long bytes kind.Num start end stands short = tt

-- ---- the tokens
-- a text is as the sort says
pub record IsSpelled (so : Sort) (text : List ℕ) : Type 0 where
  pub sort : IsTextOf so text
  pub long : IsLongTextOf so text

-- these tokens have the texts that their sorts say
abbrev pub HaveTexts : List (List ℕ) → List Numbered → Type 0
HaveTexts texts [] = ⊤
HaveTexts texts (t ∷ ts) = IsSpelled t.1 (text_at texts t.0) × HaveTexts texts ts

read_texts : (bytes : List ℕ) (texts : List (List ℕ)) (from to n : ℕ) (ts : List Token) → ((k : ℕ) → text_at texts (n + k) ≡ text_at (texts_of bytes ts) k) → Reads bytes from ts to → HaveTexts texts (enumerate_from n (sorts_of bytes ts))
read_texts bytes texts from to n [] same h = tt
read_texts bytes texts from to n (t ∷ ts) same h =
    let here : n ≡ n + 0 = omega arith in
    let first : text_at texts n ≡ text_of bytes t = ap (text_at texts) here ∙ same 0 in
    let later : (k : ℕ) → text_at texts (n + 1 + k) ≡ text_at (texts_of bytes ts) k = λ k. let e : n + 1 + k ≡ n + suc k = omega arith in ap (text_at texts) e ∙ same (suc k) in
    let stands = h.1.0 in (
      subst (IsSpelled (sort_of bytes t)) (sym first) (record {
        sort = kind_text bytes t.kind t.span.start t.span.end stands.stands h.2;
        long = kind_long bytes t.kind t.span.start t.span.end stands.stands h.2;
      }),
      read_texts bytes texts t.span.end to (n + 1) ts later h.3,
    )

pub file_texts : (bytes : List ℕ) (ts : List Token) → tokens bytes ts → HaveTexts (texts_of bytes ts) (enumerate_from 0 (sorts_of bytes ts))
file_texts bytes ts h = read_texts bytes (texts_of bytes ts) 0 (length bytes) 0 ts (λ k. let e : 0 + k ≡ k = omega arith in ap (text_at (texts_of bytes ts)) e) h

-- ---- names of type constructors
pub type_name : (text : List ℕ) (so : Sort) → IsTrue (is_long_tycon so) → IsSpelled so text → IsLongTypeIdentifier text
type_name text s.LongAlphanumeric e h = h.long
type_name text s.LongSymbolic e h = h.long
type_name text s.Alphanumeric e h = let q = type_text text s.Alphanumeric e h.sort in identifier_alone IsTypeIdentifier text (type_no_dot text q.0) q.1 q.0
type_name text s.Symbolic e h = let q = type_text text s.Symbolic e h.sort in identifier_alone IsTypeIdentifier text (type_no_dot text q.0) q.1 q.0
type_name text _ e h = absurd (false≢true e)
