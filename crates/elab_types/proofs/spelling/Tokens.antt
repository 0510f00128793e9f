-- Each token of a file has the text that its sort says.
use Rattle.std.proofs.Common.{◌≡◌, ℕ, suc, ◌+◌, List, [], ◌∷◌, length, sym, ap, ◌∙◌, subst, arith}
use Rattle.std.specs.Prelude.{⊤}
use Rattle.std.specs.List.{enumerate_from}
use Rattle.sml_lexer.specs.declared.token.Token.{Token}
use Rattle.sml_lexer.specs.Tokens.{Reads, text_of, tokens}
use Rattle.ty_parser.specs.Grammar.{Numbered}
use Rattle.ty_parser.specs.Sorts.{sort_of, sorts_of}
use Rattle.elab_types.specs.Sources.{text_at, texts_of}
use Rattle.elab_types.proofs.spelling.Sorts.{IsTextOf, kind_text}

-- these tokens have the texts that their sorts say
abbrev pub HaveTexts : List (List ℕ) → List Numbered → Type 0
HaveTexts texts [] = ⊤
HaveTexts texts (t ∷ ts) = IsTextOf t.1 (text_at texts t.0) × HaveTexts texts ts

read_texts : (bytes : List ℕ) (texts : List (List ℕ)) (from to n : ℕ) (ts : List Token) → ((k : ℕ) → text_at texts (n + k) ≡ text_at (texts_of bytes ts) k) → Reads bytes from ts to → HaveTexts texts (enumerate_from n (sorts_of bytes ts))
read_texts bytes texts from to n [] same h = tt
read_texts bytes texts from to n (t ∷ ts) same h =
    let here : n ≡ n + 0 = omega arith in
    let first : text_at texts n ≡ text_of bytes t = ap (text_at texts) here ∙ same 0 in
    let later : (k : ℕ) → text_at texts (n + 1 + k) ≡ text_at (texts_of bytes ts) k = λ k. let e : n + 1 + k ≡ n + suc k = omega arith in ap (text_at texts) e ∙ same (suc k) in (
      subst (IsTextOf (sort_of bytes t)) (sym first) (kind_text bytes t.kind t.span.start t.span.end h.1.0.stands h.2),
      read_texts bytes texts t.span.end to (n + 1) ts later h.3,
    )

pub file_texts : (bytes : List ℕ) (ts : List Token) → tokens bytes ts → HaveTexts (texts_of bytes ts) (enumerate_from 0 (sorts_of bytes ts))
file_texts bytes ts h = read_texts bytes (texts_of bytes ts) 0 (length bytes) 0 ts (λ k. let e : 0 + k ≡ k = omega arith in ap (text_at (texts_of bytes ts)) e) h
