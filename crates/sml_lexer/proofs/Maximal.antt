-- What is the longest at a place.
use Rattle.std.proofs.Common.{◌≡◌, ℕ, ◌+◌, ◌<◌, ◌≤◌, List, length, slice_index, ap, sym, ◌∙◌, arith}
use Rattle.std.specs.List.{between}
use Rattle.sig_base.specs.Identifiers.{IsLetter, IsDigit, IsAlphanumericByte, IsSymbolicByte}
use Rattle.sig_base.proofs.WordBytes.{word_numeral}
use Rattle.sml_lexer.specs.declared.token.TokenKind.{TokenKind}
use Rattle.sml_lexer.specs.declared.token.TokenKind.TheVariants as kind
use Rattle.sml_lexer.specs.Tokens.{StandsAt, IsLongestAt}
use Rattle.sml_lexer.specs.LongPlaces.{IsLongAt}
use Rattle.sml_lexer.proofs.Sorts.{sort, sort-letter, sort-symbol, sort-digit}
use Rattle.sml_lexer.proofs.Runs.{Led, text_led}
use Rattle.sml_lexer.proofs.Shapes.{Shape, a_word, a_long, a_symbol, a_variable, a_numeral, a_mark, the_dots, stands_shape}

pub apart : (b m n : ℕ) → sort b ≡ m → sort b ≡ n → (m ≡ n → ⊥) → ⊥
apart b m n p q differ = differ (sym p ∙ q)

module _ (bytes : List ℕ) (at : ℕ) where
  -- two longest runs from one place end at one place
  pub run_same : (first rest : ℕ → Type 0) (end other : ℕ) → end ≤ length bytes → other ≤ length bytes → Led first rest bytes at end → Led first rest bytes at other → (end < length bytes → rest (slice_index bytes end) → ⊥) → (other < length bytes → rest (slice_index bytes other) → ⊥) → end ≡ other
  run_same first rest end other within within' led led' whole whole' =
      let begins : at < end = led.begins in
      let begins' : at < other = led'.begins in
      let f : end < other → ⊥ = λ lt. whole (omega arith) (led'.tail end (omega arith) lt) in
      let g : other < end → ⊥ = λ lt. whole' (omega arith) (led.tail other (omega arith) lt) in
      omega arith

  -- where a letter stands, what goes on past the longest word is a long identifier
  letter_shape : (end further : ℕ) → IsLetter (slice_index bytes at) → at < end → (end < length bytes → IsAlphanumericByte (slice_index bytes end) → ⊥) → end < further → further ≤ length bytes → Shape bytes at further → IsLongAt bytes at further
  letter_shape end further h begins whole past within (a_word led) = absurd (whole (omega arith) (led.tail end (omega arith) past))
  letter_shape end further h begins whole past within (a_long _ l) = l
  letter_shape end further h begins whole past within (a_symbol led) = absurd (apart (slice_index bytes at) 1 2 (sort-letter (slice_index bytes at) h) (sort-symbol (slice_index bytes at) led.head) (λ e. omega arith))
  letter_shape end further h begins whole past within (a_variable led) = absurd (apart (slice_index bytes at) 1 3 (sort-letter (slice_index bytes at) h) (ap sort led.head) (λ e. omega arith))
  letter_shape end further h begins whole past within (a_numeral led) = absurd (apart (slice_index bytes at) 1 4 (sort-letter (slice_index bytes at) h) (sort-digit (slice_index bytes at) led.head.0 led.head.1) (λ e. omega arith))
  letter_shape end further h begins whole past within (a_mark led) = absurd (apart (slice_index bytes at) 1 5 (sort-letter (slice_index bytes at) h) led.head (λ e. omega arith))
  letter_shape end further h begins whole past within (the_dots led _) = absurd (apart (slice_index bytes at) 1 6 (sort-letter (slice_index bytes at) h) (ap sort led.head) (λ e. omega arith))

  pub letter_on : (end further : ℕ) (other : TokenKind) → IsLetter (slice_index bytes at) → at < end → (end < length bytes → IsAlphanumericByte (slice_index bytes end) → ⊥) → end < further → further ≤ length bytes → StandsAt bytes other at further → IsLongAt bytes at further
  letter_on end further other h begins whole past within stands = letter_shape end further h begins whole past within (stands_shape bytes at further within other stands)

  symbol_shape : (end further : ℕ) → IsSymbolicByte (slice_index bytes at) → at < end → (end < length bytes → IsSymbolicByte (slice_index bytes end) → ⊥) → end < further → further ≤ length bytes → Shape bytes at further → ⊥
  symbol_shape end further h begins whole past within (a_word led) = apart (slice_index bytes at) 2 1 (sort-symbol (slice_index bytes at) h) (sort-letter (slice_index bytes at) led.head) (λ e. omega arith)
  symbol_shape end further h begins whole past within (a_long l _) = apart (slice_index bytes at) 2 1 (sort-symbol (slice_index bytes at) h) (sort-letter (slice_index bytes at) l) (λ e. omega arith)
  symbol_shape end further h begins whole past within (a_symbol led) = whole (omega arith) (led.tail end (omega arith) past)
  symbol_shape end further h begins whole past within (a_variable led) = apart (slice_index bytes at) 2 3 (sort-symbol (slice_index bytes at) h) (ap sort led.head) (λ e. omega arith)
  symbol_shape end further h begins whole past within (a_numeral led) = apart (slice_index bytes at) 2 4 (sort-symbol (slice_index bytes at) h) (sort-digit (slice_index bytes at) led.head.0 led.head.1) (λ e. omega arith)
  symbol_shape end further h begins whole past within (a_mark led) = apart (slice_index bytes at) 2 5 (sort-symbol (slice_index bytes at) h) led.head (λ e. omega arith)
  symbol_shape end further h begins whole past within (the_dots led _) = apart (slice_index bytes at) 2 6 (sort-symbol (slice_index bytes at) h) (ap sort led.head) (λ e. omega arith)

  variable_shape : (end further : ℕ) → slice_index bytes at ≡ 39 → at < end → (end < length bytes → IsAlphanumericByte (slice_index bytes end) → ⊥) → end < further → further ≤ length bytes → Shape bytes at further → ⊥
  variable_shape end further h begins whole past within (a_word led) = apart (slice_index bytes at) 3 1 (ap sort h) (sort-letter (slice_index bytes at) led.head) (λ e. omega arith)
  variable_shape end further h begins whole past within (a_long l _) = apart (slice_index bytes at) 3 1 (ap sort h) (sort-letter (slice_index bytes at) l) (λ e. omega arith)
  variable_shape end further h begins whole past within (a_symbol led) = apart (slice_index bytes at) 3 2 (ap sort h) (sort-symbol (slice_index bytes at) led.head) (λ e. omega arith)
  variable_shape end further h begins whole past within (a_variable led) = whole (omega arith) (led.tail end (omega arith) past)
  variable_shape end further h begins whole past within (a_numeral led) = apart (slice_index bytes at) 3 4 (ap sort h) (sort-digit (slice_index bytes at) led.head.0 led.head.1) (λ e. omega arith)
  variable_shape end further h begins whole past within (a_mark led) = apart (slice_index bytes at) 3 5 (ap sort h) led.head (λ e. omega arith)
  variable_shape end further h begins whole past within (the_dots led _) = apart (slice_index bytes at) 3 6 (ap sort h) (ap sort led.head) (λ e. omega arith)

  numeral_shape : (end further : ℕ) → 49 ≤ slice_index bytes at → slice_index bytes at ≤ 57 → at < end → (end < length bytes → IsDigit (slice_index bytes end) → ⊥) → end < further → further ≤ length bytes → Shape bytes at further → ⊥
  numeral_shape end further low high begins whole past within (a_word led) = apart (slice_index bytes at) 4 1 (sort-digit (slice_index bytes at) low high) (sort-letter (slice_index bytes at) led.head) (λ e. omega arith)
  numeral_shape end further low high begins whole past within (a_long l _) = apart (slice_index bytes at) 4 1 (sort-digit (slice_index bytes at) low high) (sort-letter (slice_index bytes at) l) (λ e. omega arith)
  numeral_shape end further low high begins whole past within (a_symbol led) = apart (slice_index bytes at) 4 2 (sort-digit (slice_index bytes at) low high) (sort-symbol (slice_index bytes at) led.head) (λ e. omega arith)
  numeral_shape end further low high begins whole past within (a_variable led) = apart (slice_index bytes at) 4 3 (sort-digit (slice_index bytes at) low high) (ap sort led.head) (λ e. omega arith)
  numeral_shape end further low high begins whole past within (a_numeral led) = whole (omega arith) (led.tail end (omega arith) past)
  numeral_shape end further low high begins whole past within (a_mark led) = apart (slice_index bytes at) 4 5 (sort-digit (slice_index bytes at) low high) led.head (λ e. omega arith)
  numeral_shape end further low high begins whole past within (the_dots led _) = apart (slice_index bytes at) 4 6 (sort-digit (slice_index bytes at) low high) (ap sort led.head) (λ e. omega arith)

  pub symbol_longest : (kind : TokenKind) (end : ℕ) → end ≤ length bytes → at + 1 ≤ end → IsSymbolicByte (slice_index bytes at) → (end < length bytes → IsSymbolicByte (slice_index bytes end) → ⊥) → StandsAt bytes kind at end → IsLongestAt bytes kind at end
  symbol_longest kind end within order h whole stands = record {
    begins = omega arith;
    within = within;
    stands = stands;
    longest = λ other further past inside there. symbol_shape end further h (omega arith) whole past inside (stands_shape bytes at further inside other there);
  }

  pub variable_longest : (end : ℕ) → end ≤ length bytes → at + 1 ≤ end → slice_index bytes at ≡ 39 → ((i : ℕ) → at + 1 ≤ i → i < end → IsAlphanumericByte (slice_index bytes i)) → (end < length bytes → IsAlphanumericByte (slice_index bytes end) → ⊥) → IsLongestAt bytes kind.TyVar at end
  variable_longest end within order h run whole = record {
    begins = omega arith;
    within = within;
    stands = text_led (λ b. b ≡ 39) IsAlphanumericByte bytes at end within (record { begins = omega arith; head = h; tail = run });
    longest = λ other further past inside there. variable_shape end further h (omega arith) whole past inside (stands_shape bytes at further inside other there);
  }

  pub numeral_longest : (end : ℕ) → end ≤ length bytes → at + 1 ≤ end → 49 ≤ slice_index bytes at → slice_index bytes at ≤ 57 → ((i : ℕ) → at + 1 ≤ i → i < end → IsDigit (slice_index bytes i)) → (end < length bytes → IsDigit (slice_index bytes end) → ⊥) → IsLongestAt bytes kind.Num at end
  numeral_longest end within order low high run whole = record {
    begins = omega arith;
    within = within;
    stands = word_numeral (between at end bytes) (text_led (λ b. (49 ≤ b) × (b ≤ 57)) IsDigit bytes at end within (record { begins = omega arith; head = (low, high); tail = run }));
    longest = λ other further past inside there. numeral_shape end further low high (omega arith) whole past inside (stands_shape bytes at further inside other there);
  }
