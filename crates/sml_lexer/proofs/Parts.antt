-- The parts of long identifiers.
use Rattle.std.proofs.Common.{◌≡◌, ℕ, ◌+◌, ◌<◌, ◌≤◌, ◌⊎◌, inl, inr, List, length, slice_index, sym, subst, arith}
use Rattle.std.specs.List.{between}
use Rattle.sig_base.specs.Identifiers.{IsLetter, IsAlphanumericByte, IsSymbolicByte, IsUnreserved, spelling}
use Rattle.sig_base.specs.declared.word.Word.{Word}
use Rattle.sml_lexer.specs.declared.token.TokenKind.{TokenKind}
use Rattle.sml_lexer.specs.declared.token.TokenKind.TheVariants as kind
use Rattle.sml_lexer.specs.Tokens.{StandsAt, IsLongestAt}
use Rattle.sml_lexer.specs.LongPlaces.{IsAlphanumericAt, IsIdentifierAt, IsLongAt, IsSymbolicAt, last_part, more_parts}
use Rattle.sml_lexer.specs.Steps.{IsPartAt, NoIdentifierAt}
use Rattle.sml_lexer.proofs.LongPlaces.{symbol_led, word_led}
use Rattle.sml_lexer.specs.declared.longest.Part.{Part}
use Rattle.sml_lexer.specs.declared.longest.Part.TheVariants.{Alphanumeric, Symbolic}
use Rattle.sml_lexer.proofs.Sorts.{sort-letter, sort-symbol}
use Rattle.sml_lexer.proofs.Runs.{Led, text_led}
use Rattle.sml_lexer.proofs.Maximal.{apart, run_same, letter_on}

letter_no_symbol : (b : ℕ) → IsLetter b → IsSymbolicByte b → ⊥
letter_no_symbol b h k = apart b 1 2 (sort-letter b h) (sort-symbol b k) (λ e. omega arith)

-- what follows the part that ends at `end`, up to `to`
abbrev pub Tail : List ℕ → ℕ → ℕ → Type 0
Tail bytes end to = (slice_index bytes end ≡ 46) × (IsIdentifierAt bytes (end + 1) to ⊎ IsLongAt bytes (end + 1) to)

module _ (bytes : List ℕ) (at : ℕ) where
  pub made_word : (end : ℕ) → end ≤ length bytes → at + 1 ≤ end → IsLetter (slice_index bytes at) → ((i : ℕ) → at + 1 ≤ i → i < end → IsAlphanumericByte (slice_index bytes i)) → (end < length bytes → IsAlphanumericByte (slice_index bytes end) → ⊥) → IsUnreserved (between at end bytes) → IsAlphanumericAt bytes at end
  made_word end within order h run whole free = record {
    within = within;
    identifier = (text_led IsLetter IsAlphanumericByte bytes at end within (record { begins = omega arith; head = h; tail = run }), free);
    whole = whole;
  }

  pub made_symbol : (end : ℕ) → end ≤ length bytes → at < end → ((i : ℕ) → at ≤ i → i < end → IsSymbolicByte (slice_index bytes i)) → (end < length bytes → IsSymbolicByte (slice_index bytes end) → ⊥) → IsUnreserved (between at end bytes) → IsSymbolicAt bytes at end
  made_symbol end within order run whole free = record {
    within = within;
    identifier = (text_led IsSymbolicByte IsSymbolicByte bytes at end within (record { begins = order; head = run at (omega arith) order; tail = λ i low high. run i (omega arith) high }), free);
    whole = whole;
  }

  word_ends : (end dot : ℕ) → end ≤ length bytes → Led IsLetter IsAlphanumericByte bytes at end → (end < length bytes → IsAlphanumericByte (slice_index bytes end) → ⊥) → IsAlphanumericAt bytes at dot → end ≡ dot
  word_ends end dot within led whole a = run_same bytes at IsLetter IsAlphanumericByte end dot within a.within led (word_led bytes at a) whole a.whole

  symbol_ends : (end dot : ℕ) → end ≤ length bytes → Led IsSymbolicByte IsSymbolicByte bytes at end → (end < length bytes → IsSymbolicByte (slice_index bytes end) → ⊥) → IsSymbolicAt bytes at dot → end ≡ dot
  symbol_ends end dot within led whole s = run_same bytes at IsSymbolicByte IsSymbolicByte end dot within s.within led (symbol_led bytes at s) whole s.whole

  -- a reserved word is no part
  spelled_free : (end dot : ℕ) (w : Word) → end ≡ dot → between at end bytes ≡ spelling w → IsUnreserved (between at dot bytes) → ⊥
  spelled_free end dot w same e free = free w (subst (λ (k : ℕ). between at k bytes ≡ spelling w) same e)

  word_reserved_at : (end : ℕ) (w : Word) → end ≤ length bytes → Led IsLetter IsAlphanumericByte bytes at end → (end < length bytes → IsAlphanumericByte (slice_index bytes end) → ⊥) → between at end bytes ≡ spelling w → (dot : ℕ) → IsAlphanumericAt bytes at dot → ⊥
  word_reserved_at end w within led whole e dot a = spelled_free end dot w (word_ends end dot within led whole a) e a.identifier.1

  pub word_reserved : (end : ℕ) (w : Word) → end ≤ length bytes → at + 1 ≤ end → IsLetter (slice_index bytes at) → ((i : ℕ) → at + 1 ≤ i → i < end → IsAlphanumericByte (slice_index bytes i)) → (end < length bytes → IsAlphanumericByte (slice_index bytes end) → ⊥) → between at end bytes ≡ spelling w → NoIdentifierAt bytes at
  word_reserved end w within order h run whole e to (inl a) = word_reserved_at end w within (record { begins = omega arith; head = h; tail = run }) whole e to a
  word_reserved end w within order h run whole e to (inr s) = letter_no_symbol (slice_index bytes at) h (symbol_led bytes at s).head

  pub symbol_reserved : (end : ℕ) (w : Word) → end ≤ length bytes → at < end → (IsLetter (slice_index bytes at) → ⊥) → ((i : ℕ) → at ≤ i → i < end → IsSymbolicByte (slice_index bytes i)) → (end < length bytes → IsSymbolicByte (slice_index bytes end) → ⊥) → between at end bytes ≡ spelling w → NoIdentifierAt bytes at
  symbol_reserved end w within order no_letter run whole e to (inl a) = no_letter (word_led bytes at a).head
  symbol_reserved end w within order no_letter run whole e to (inr s) =
      let led : Led IsSymbolicByte IsSymbolicByte bytes at end = record { begins = order; head = run at (omega arith) order; tail = λ i low high. run i (omega arith) high } in
      spelled_free end to w (symbol_ends end to within led whole s) e s.identifier.1

  pub no_part : (IsLetter (slice_index bytes at) → ⊥) → (at < length bytes → IsSymbolicByte (slice_index bytes at) → ⊥) → NoIdentifierAt bytes at
  no_part no_letter no_symbol to (inl a) = no_letter (word_led bytes at a).head
  no_part no_letter no_symbol to (inr s) =
      let begins : at < to = (symbol_led bytes at s).begins in
      let within : to ≤ length bytes = s.within in
      no_symbol (omega arith) (symbol_led bytes at s).head

  -- a long identifier goes on behind its first part
  pub onward_first : (first : ℕ) → IsAlphanumericAt bytes at first → (to : ℕ) → Tail bytes first to → IsLongAt bytes at to
  onward_first first a to (dot, inl part) = last_part a dot part
  onward_first first a to (dot, inr more) = more_parts a dot more

  tail_at : (first dot to : ℕ) → first ≡ dot → Tail bytes dot to → Tail bytes first to
  tail_at first dot to same tail = subst (λ (k : ℕ). Tail bytes k to) (sym same) tail

  pub back_first : (first : ℕ) → IsAlphanumericAt bytes at first → (to : ℕ) → IsLongAt bytes at to → Tail bytes first to
  back_first first a to (last_part b dot part) = tail_at first _ to (word_ends first _ a.within (word_led bytes at a) a.whole b) (dot, inl part)
  back_first first a to (more_parts b dot more) = tail_at first _ to (word_ends first _ a.within (word_led bytes at a) a.whole b) (dot, inr more)

  long_reserved : (end : ℕ) (w : Word) → end ≤ length bytes → Led IsLetter IsAlphanumericByte bytes at end → (end < length bytes → IsAlphanumericByte (slice_index bytes end) → ⊥) → between at end bytes ≡ spelling w → (to : ℕ) → IsLongAt bytes at to → ⊥
  long_reserved end w within led whole e to (last_part b dot part) = word_reserved_at end w within led whole e _ b
  long_reserved end w within led whole e to (more_parts b dot more) = word_reserved_at end w within led whole e _ b

  pub reserved_longest : (end : ℕ) (w : Word) → end ≤ length bytes → at + 1 ≤ end → IsLetter (slice_index bytes at) → ((i : ℕ) → at + 1 ≤ i → i < end → IsAlphanumericByte (slice_index bytes i)) → (end < length bytes → IsAlphanumericByte (slice_index bytes end) → ⊥) → between at end bytes ≡ spelling w → IsLongestAt bytes (kind.Reserved w) at end
  reserved_longest end w within order h run whole e =
      let led : Led IsLetter IsAlphanumericByte bytes at end = record { begins = omega arith; head = h; tail = run } in
      record {
        begins = omega arith;
        within = within;
        stands = e;
        longest = λ other further past inside there. long_reserved end w within led whole e further (letter_on bytes at end further other h (omega arith) whole past inside there);
      }

module _ (bytes : List ℕ) where
  -- what follows a part that no part can follow
  pub no_tail : (end to : ℕ) → NoIdentifierAt bytes (end + 1) → Tail bytes end to → ⊥
  no_tail end to none (dot, inl part) = none to part
  no_tail end to none (dot, inr (last_part b _ _)) = none _ (inl b)
  no_tail end to none (dot, inr (more_parts b _ _)) = none _ (inl b)

  -- and behind a symbolic part nothing goes on
  pub symbol_tail : (end last to : ℕ) → IsSymbolicAt bytes (end + 1) last → last < to → Tail bytes end to → ⊥
  symbol_tail end last to s past (dot, inl (inl a)) = letter_no_symbol (slice_index bytes (end + 1)) (word_led bytes (end + 1) a).head (symbol_led bytes (end + 1) s).head
  symbol_tail end last to s past (dot, inl (inr r)) =
      let begins : end + 1 < last = (symbol_led bytes (end + 1) s).begins in
      let within : to ≤ length bytes = r.within in
      s.whole (omega arith) ((symbol_led bytes (end + 1) r).tail last (omega arith) past)
  symbol_tail end last to s past (dot, inr (last_part b _ _)) = letter_no_symbol (slice_index bytes (end + 1)) (word_led bytes (end + 1) b).head (symbol_led bytes (end + 1) s).head
  symbol_tail end last to s past (dot, inr (more_parts b _ _)) = letter_no_symbol (slice_index bytes (end + 1)) (word_led bytes (end + 1) b).head (symbol_led bytes (end + 1) s).head

  -- behind an alphanumeric part only what follows it
  pub word_tail : (end next to : ℕ) → IsAlphanumericAt bytes (end + 1) next → next < to → Tail bytes end to → Tail bytes next to
  word_tail end next to a past (dot, inl (inl b)) =
      let begins : end + 1 < next = (word_led bytes (end + 1) a).begins in
      let within : to ≤ length bytes = b.within in
      absurd (a.whole (omega arith) ((word_led bytes (end + 1) b).tail next (omega arith) past))
  word_tail end next to a past (dot, inl (inr s)) = absurd (letter_no_symbol (slice_index bytes (end + 1)) (word_led bytes (end + 1) a).head (symbol_led bytes (end + 1) s).head)
  word_tail end next to a past (dot, inr long) = back_first bytes (end + 1) next a to long

  -- the longest identifier behind whose last part nothing goes on
  pub long_longest : (at first : ℕ) → IsAlphanumericAt bytes at first → (kind : TokenKind) (end : ℕ) → first ≤ end → end ≤ length bytes → StandsAt bytes kind at end → ((to : ℕ) → end < to → IsLongAt bytes at to → ⊥) → IsLongestAt bytes kind at end
  long_longest at first a kind end order within stands none =
      let led : Led IsLetter IsAlphanumericByte bytes at first = word_led bytes at a in
      let begins : at < first = led.begins in
      record {
        begins = omega arith;
        within = within;
        stands = stands;
        longest = λ other further past inside there. none further past (letter_on bytes at first further other led.head begins a.whole (omega arith) inside there);
      }

  pub symbol_after : (end last : ℕ) (part : Part) → part ≡ Symbolic last → IsPartAt bytes (end + 1) part → IsSymbolicAt bytes (end + 1) last
  symbol_after end last part e h = subst (IsPartAt bytes (end + 1)) e h

  pub word_after : (end next : ℕ) (part : Part) → part ≡ Alphanumeric next → IsPartAt bytes (end + 1) part → IsAlphanumericAt bytes (end + 1) next
  word_after end next part e h = subst (IsPartAt bytes (end + 1)) e h
