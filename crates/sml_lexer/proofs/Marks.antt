-- Marks, which are no words: one byte, or three dots.
use Rattle.std.proofs.Common.{◌≡◌, ℕ, ◌+◌, ◌-◌, ◌<◌, ◌≤◌, List, length, min, drop, slice_index, ap, subst, arith, length-take, length-drop}
use Rattle.std.specs.Prelude.{codes}
use Rattle.std.specs.List.{between}
use Rattle.std.proofs.lemmas.List.Edits.{length-between}
use Rattle.sig_base.specs.Identifiers.{IsLetter, IsDigit, IsAlphanumericByte, IsSymbolicByte, spelling}
use Rattle.sig_base.specs.declared.word.Word.{Word}
use Rattle.sig_base.specs.declared.word.Word.TheVariants as word
use Rattle.sig_base.proofs.WordBytes.{numeral_word}
use Rattle.sml_lexer.specs.declared.token.TokenKind.TheVariants as kind
use Rattle.sml_lexer.specs.Tokens.{IsLongestAt}
use Rattle.sml_lexer.specs.Steps.{NothingAt}
use Rattle.sml_lexer.proofs.Sorts.{sort, sort-letter, sort-symbol, sort-digit}
use Rattle.sml_lexer.proofs.LongPlaces.{stands_long}
use Rattle.sml_lexer.proofs.Runs.{led_text}
use Rattle.sml_lexer.proofs.Shapes.{Shape, a_word, a_long, a_symbol, a_variable, a_numeral, a_mark, the_dots, stands_shape, dots_led, long_letter}
use Rattle.sml_lexer.proofs.Maximal.{apart}

module _ (bytes : List ℕ) (at : ℕ) where
  dots_within : between at (at + 3) bytes ≡ codes "..." → at + 3 ≤ length bytes
  dots_within e =
      let size : at + 3 - at ≡ 3 = omega arith in
      let a : length (between at (at + 3) bytes) ≡ 3 = ap length e in
      let b : length (between at (at + 3) bytes) ≡ min (at + 3 - at) (length (drop at bytes)) = length-take (at + 3 - at) (drop at bytes) in
      let d : length (drop at bytes) ≡ length bytes - at = length-drop at bytes in
      omega (arith, a, b, d, size)

  dots_end : (end : ℕ) → at < end → end ≤ length bytes → between at end bytes ≡ codes "..." → end ≡ at + 3
  dots_end end begins within e =
      let a : length (between at end bytes) ≡ 3 = ap length e in
      let b : length (between at end bytes) ≡ end - at = length-between bytes at end within in
      omega (arith, a, b)

  dot_shape : (further : ℕ) → slice_index bytes at ≡ 46 → at + 3 < further → further ≤ length bytes → Shape bytes at further → ⊥
  dot_shape further h past within (a_word led) = apart (slice_index bytes at) 6 1 (ap sort h) (sort-letter (slice_index bytes at) led.head) (λ e. omega arith)
  dot_shape further h past within (a_long l _) = apart (slice_index bytes at) 6 1 (ap sort h) (sort-letter (slice_index bytes at) l) (λ e. omega arith)
  dot_shape further h past within (a_symbol led) = apart (slice_index bytes at) 6 2 (ap sort h) (sort-symbol (slice_index bytes at) led.head) (λ e. omega arith)
  dot_shape further h past within (a_variable led) = apart (slice_index bytes at) 6 3 (ap sort h) (ap sort led.head) (λ e. omega arith)
  dot_shape further h past within (a_numeral led) = apart (slice_index bytes at) 6 4 (ap sort h) (sort-digit (slice_index bytes at) led.head.0 led.head.1) (λ e. omega arith)
  dot_shape further h past within (a_mark led) = led.tail (at + 1) (omega arith) (omega arith)
  dot_shape further h past within (the_dots led e) = let same : further ≡ at + 3 = dots_end further led.begins within e in omega (arith, same)

  pub dots_longest : between at (at + 3) bytes ≡ codes "..." → IsLongestAt bytes (kind.Reserved word.KwDots) at (at + 3)
  dots_longest e =
      let within : at + 3 ≤ length bytes = dots_within e in
      record {
        begins = omega arith;
        within = within;
        stands = e;
        longest = λ other further past inside there. dot_shape further (dots_led bytes at (at + 3) within e).head past inside (stands_shape bytes at further inside other there);
      }

  module _ (no_letter : IsLetter (slice_index bytes at) → ⊥) (no_symbol : IsSymbolicByte (slice_index bytes at) → ⊥) (no_prime : slice_index bytes at ≡ 39 → ⊥) (no_digit : 49 ≤ slice_index bytes at → slice_index bytes at ≤ 57 → ⊥) (no_dots : between at (at + 3) bytes ≡ codes "..." → ⊥) where
    mark_end : (end : ℕ) → end ≤ length bytes → Shape bytes at end → end ≡ at + 1
    mark_end end within (a_word led) = absurd (no_letter led.head)
    mark_end end within (a_long l _) = absurd (no_letter l)
    mark_end end within (a_symbol led) = absurd (no_symbol led.head)
    mark_end end within (a_variable led) = absurd (no_prime led.head)
    mark_end end within (a_numeral led) = absurd (no_digit led.head.0 led.head.1)
    mark_end end within (a_mark led) =
        let begins : at < end = led.begins in
        let f : at + 1 < end → ⊥ = λ lt. led.tail (at + 1) (omega arith) lt in
        omega arith
    mark_end end within (the_dots led e) = absurd (no_dots (subst (λ (k : ℕ). between at k bytes ≡ codes "...") (dots_end end led.begins within e) e))

    pub mark_longest : (w : Word) → at < length bytes → between at (at + 1) bytes ≡ spelling w → IsLongestAt bytes (kind.Reserved w) at (at + 1)
    mark_longest w fits e = record {
      begins = omega arith;
      within = omega arith;
      stands = e;
      longest = λ other further past inside there.
          let same : further ≡ at + 1 = mark_end further inside (stands_shape bytes at further inside other there) in
          omega arith;
    }

    pub no_mark : ((w : Word) → between at (at + 1) bytes ≡ spelling w → ⊥) → NothingAt bytes at
    no_mark none (kind.Reserved w) end within h = none w (subst (λ (k : ℕ). between at k bytes ≡ spelling w) (mark_end end within (stands_shape bytes at end within (kind.Reserved w) h)) h)
    no_mark none kind.TyVar end within h = no_prime (led_text (λ b. b ≡ 39) IsAlphanumericByte bytes at end within h).head
    no_mark none kind.Alpha end within h = no_letter (led_text IsLetter IsAlphanumericByte bytes at end within h.0).head
    no_mark none kind.Sym end within h = no_symbol (led_text IsSymbolicByte IsSymbolicByte bytes at end within h.0).head
    no_mark none kind.Long end within h = no_letter (long_letter bytes at end within (stands_long bytes at end within h))
    no_mark none kind.Num end within h =
        let led = led_text (λ b. (49 ≤ b) × (b ≤ 57)) IsDigit bytes at end within (numeral_word (between at end bytes) h) in
        no_digit led.head.0 led.head.1
