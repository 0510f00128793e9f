-- What can stand at a place, told by its first byte.
use Rattle.std.proofs.Common.{◌≡◌, ℕ, ◌≤◌, ◌⊎◌, inl, inr, Bool, true, false, ◌&&◌, ◌||◌, List, [], ◌∷◌, length, slice_index, refl, sym, subst}
use Rattle.std.specs.Prelude.{codes}
use Rattle.std.specs.List.{between, list_all}
use Rattle.std.proofs.lemmas.Bool.{and_parts, or_cases, false≢true}
use Rattle.std.proofs.lemmas.List.Elements.{All-nil, All-cons}
use Rattle.sig_base.specs.Identifiers.{IsLetter, IsDigit, IsAlphanumericByte, IsSymbolicByte, OneThen, is_alphanumeric_byte, is_letter, spelling}
use Rattle.sig_base.proofs.WordBytes.{numeral_word}
use Rattle.sig_base.specs.declared.word.Word.{Word}
use Rattle.sig_base.specs.declared.word.Word.TheVariants as word
use Rattle.sml_lexer.specs.declared.token.TokenKind.{TokenKind}
use Rattle.sml_lexer.specs.declared.token.TokenKind.TheVariants as kind
use Rattle.sml_lexer.specs.Tokens.{StandsAt}
use Rattle.sml_lexer.specs.LongPlaces.{IsLongAt, last_part, more_parts}
use Rattle.sml_lexer.proofs.LongPlaces.{stands_long, word_led}
use Rattle.sml_lexer.proofs.Sorts.{symbol, one_mark, sort, symbol_tested, sort-mark, all_tested}
use Rattle.sml_lexer.proofs.Runs.{Led, led_text}

-- what stands from `at` to `end`
pub data Shape (bytes : List ℕ) (at end : ℕ) : Type 0 where
  a_word : Led IsLetter IsAlphanumericByte bytes at end → Shape bytes at end
  a_long : IsLetter (slice_index bytes at) → IsLongAt bytes at end → Shape bytes at end
  a_symbol : Led IsSymbolicByte IsSymbolicByte bytes at end → Shape bytes at end
  a_variable : Led (λ b. b ≡ 39) IsAlphanumericByte bytes at end → Shape bytes at end
  a_numeral : Led (λ b. (49 ≤ b) × (b ≤ 57)) IsDigit bytes at end → Shape bytes at end
  a_mark : Led (λ b. sort b ≡ 5) (λ _. ⊥) bytes at end → Shape bytes at end
  the_dots : Led (λ b. b ≡ 46) (λ b. b ≡ 46) bytes at end → between at end bytes ≡ codes "..." → Shape bytes at end

abbrev run : (ℕ → Bool) → (ℕ → Bool) → List ℕ → Bool
run first rest [] = false
run first rest (b ∷ text) = first b && list_all rest text

run_tested : (p q : ℕ → Bool) (P Q : ℕ → Type 0) → ((b : ℕ) → p b ≡ true → P b) → ((b : ℕ) → q b ≡ true → Q b) → (text : List ℕ) → run p q text ≡ true → OneThen P Q text
run_tested p q P Q first rest [] h = absurd (false≢true h)
run_tested p q P Q first rest (b ∷ text) h = let k = and_parts _ _ h in (first b k.0, all_tested q Q rest text k.1)

abbrev spelled : List ℕ → Bool
spelled text = run is_letter is_alphanumeric_byte text || (run symbol symbol text || run one_mark (λ _. false) text)

spelled_cases : (text : List ℕ) → (run is_letter is_alphanumeric_byte text ≡ true) ⊎ ((run symbol symbol text || run one_mark (λ _. false) text) ≡ true) → (run is_letter is_alphanumeric_byte text ≡ true) ⊎ ((run symbol symbol text ≡ true) ⊎ (run one_mark (λ _. false) text ≡ true))
spelled_cases text (inl h) = inl h
spelled_cases text (inr h) = inr (or_cases _ _ h)

module _ (bytes : List ℕ) (at end : ℕ) (within : end ≤ length bytes) where
  text_shape : (text : List ℕ) → between at end bytes ≡ text → (run is_letter is_alphanumeric_byte text ≡ true) ⊎ ((run symbol symbol text ≡ true) ⊎ (run one_mark (λ _. false) text ≡ true)) → Shape bytes at end
  text_shape text e (inl h) =
      a_word (led_text IsLetter IsAlphanumericByte bytes at end within
      (subst (OneThen IsLetter IsAlphanumericByte) (sym e) (run_tested is_letter is_alphanumeric_byte IsLetter IsAlphanumericByte (λ b k. k) (λ b k. k) text h)))
  text_shape text e (inr (inl h)) =
      a_symbol (led_text IsSymbolicByte IsSymbolicByte bytes at end within
      (subst (OneThen IsSymbolicByte IsSymbolicByte) (sym e) (run_tested symbol symbol IsSymbolicByte IsSymbolicByte symbol_tested symbol_tested text h)))
  text_shape text e (inr (inr h)) =
      a_mark (led_text (λ b. sort b ≡ 5) (λ _. ⊥) bytes at end within
      (subst (OneThen (λ b. sort b ≡ 5) (λ _. ⊥)) (sym e) (run_tested one_mark (λ _. false) (λ b. sort b ≡ 5) (λ _. ⊥) sort-mark (λ b h. false≢true h) text h)))

  spelled_shape : (text : List ℕ) → spelled text ≡ true → between at end bytes ≡ text → Shape bytes at end
  spelled_shape text h e = text_shape text e (spelled_cases text (or_cases _ _ h))

  pub dots_led : between at end bytes ≡ codes "..." → Led (λ b. b ≡ 46) (λ b. b ≡ 46) bytes at end
  dots_led e =
      led_text (λ b. b ≡ 46) (λ b. b ≡ 46) bytes at end within
      (subst (OneThen (λ b. b ≡ 46) (λ b. b ≡ 46)) (sym e) (refl, All-cons (λ b. b ≡ 46) 46 (46 ∷ []) refl (All-cons (λ b. b ≡ 46) 46 [] refl (All-nil (λ b. b ≡ 46)))))

  reserved_shape : (w : Word) → between at end bytes ≡ spelling w → Shape bytes at end
  reserved_shape word.KwDots e = the_dots (dots_led e) e
  reserved_shape w e = spelled_shape (spelling w) refl e

  pub long_letter : IsLongAt bytes at end → IsLetter (slice_index bytes at)
  long_letter (last_part a dot i) = (word_led bytes at a).head
  long_letter (more_parts a dot i) = (word_led bytes at a).head

  pub stands_shape : (kind : TokenKind) → StandsAt bytes kind at end → Shape bytes at end
  stands_shape (kind.Reserved w) h = reserved_shape w h
  stands_shape kind.TyVar h = a_variable (led_text (λ b. b ≡ 39) IsAlphanumericByte bytes at end within h)
  stands_shape kind.Alpha h = a_word (led_text IsLetter IsAlphanumericByte bytes at end within h.0)
  stands_shape kind.Sym h = a_symbol (led_text IsSymbolicByte IsSymbolicByte bytes at end within h.0)
  stands_shape kind.Long h = let l = stands_long bytes at end within h in a_long (long_letter l) l
  stands_shape kind.Num h = a_numeral (led_text (λ b. (49 ≤ b) × (b ≤ 57)) IsDigit bytes at end within (numeral_word (between at end bytes) h))
