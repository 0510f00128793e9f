-- Long identifiers by their texts are those by the places of their parts.
use Rattle.std.proofs.Common.{◌≡◌, ◌↔◌, ℕ, suc, zero, ◌+◌, ◌-◌, ◌<◌, ◌≤◌, ◌⊎◌, inl, inr, List, [], ◌∷◌, ◌++◌, length, slice_index, refl, sym, ap, ap₂, ◌∙◌, subst, arith}
use Rattle.std.specs.List.{between}
use Rattle.std.proofs.lemmas.Bool.{cases_lt, false≢true}
use Rattle.std.proofs.lemmas.List.{get_or_past, length-append}
use Rattle.std.proofs.lemmas.List.Edits.{length-between}
use Rattle.sig_base.specs.Identifiers.{IsAlphanumeric, IsAlphanumericByte, IsIdentifier, IsLetter, IsSymbolicByte, is_alphanumeric_byte, is_symbolic_byte}
use Rattle.sig_base.specs.LongIdentifiers.{AreIdentifiers, parts}
use Rattle.sig_base.proofs.LongIdentifiers.{dotted, identifier_no_dot, long_alone, long_further, one_part, parts_alone, parts_dot, two_parts, word_no_dot}
use Rattle.sig_base.proofs.WordBytes.{letter_alphanumeric, no_symbol}
use Rattle.sml_lexer.specs.declared.token.TokenKind.TheVariants.{Long}
use Rattle.sml_lexer.specs.LongPlaces.{IsAlphanumericAt, IsIdentifierAt, IsLongAt, IsSymbolicAt, last_part, more_parts}
use Rattle.sml_lexer.specs.Tokens.{IsWordEnd, StandsAt}
use Rattle.sml_lexer.proofs.Runs.{Led, between_cons, between-nil, led_text}
use Rattle.sml_lexer.proofs.Sorts.{dot-not_alphanumeric}

-- ---- where a word ends
alphanumeric_inside : (bytes : List ℕ) (at : ℕ) → IsAlphanumericByte (slice_index bytes at) → at < length bytes
alphanumeric_inside bytes at h =
    let out : length bytes ≤ at → ⊥ = λ past. false≢true (sym (ap is_alphanumeric_byte (get_or_past bytes at 0 past)) ∙ h) in
    omega arith

symbol_inside : (bytes : List ℕ) (at : ℕ) → IsSymbolicByte (slice_index bytes at) → at < length bytes
unfolding is_symbolic_byte
symbol_inside bytes at h =
    let out : length bytes ≤ at → ⊥ = λ past. false≢true (sym (ap is_symbolic_byte (get_or_past bytes at 0 past)) ∙ h) in
    omega arith

last_led : (first rest : ℕ → Type 0) (bytes : List ℕ) (start end : ℕ) → ((b : ℕ) → first b → rest b) → Led first rest bytes start end → rest (slice_index bytes (end - 1))
last_led first rest bytes start end also led = elim (cases_lt start (end - 1)) [
  | inl later ↦ led.tail (end - 1) (omega arith) (let begins : start < end = led.begins in omega arith)
  | inr here ↦ subst (λ (k : ℕ). rest (slice_index bytes k)) (let begins : start < end = led.begins in let e : start ≡ end - 1 = omega arith in e) (also (slice_index bytes start) led.head)
]

module _ (bytes : List ℕ) (at : ℕ) where
  pub word_led : {end : ℕ} → IsAlphanumericAt bytes at end → Led IsLetter IsAlphanumericByte bytes at end
  word_led {end} a = led_text IsLetter IsAlphanumericByte bytes at end a.within a.identifier.0

  pub symbol_led : {end : ℕ} → IsSymbolicAt bytes at end → Led IsSymbolicByte IsSymbolicByte bytes at end
  symbol_led {end} s = led_text IsSymbolicByte IsSymbolicByte bytes at end s.within s.identifier.0

  pub identifier_begins : (end : ℕ) → IsIdentifierAt bytes at end → (at < end) × (end ≤ length bytes)
  identifier_begins end (inl a) = ((word_led a).begins, a.within)
  identifier_begins end (inr s) = ((symbol_led s).begins, s.within)

  word_end : (end : ℕ) → IsIdentifierAt bytes at end → IsWordEnd bytes end
  word_end end (inl a) =
      let last = last_led IsLetter IsAlphanumericByte bytes at end letter_alphanumeric (word_led a) in
      ((λ h. a.whole (alphanumeric_inside bytes end h.1) h.1), (λ h. no_symbol (slice_index bytes (end - 1)) last h.0))
  word_end end (inr s) =
      let last = last_led IsSymbolicByte IsSymbolicByte bytes at end (λ b h. h) (symbol_led s) in
      ((λ h. no_symbol (slice_index bytes (end - 1)) h.0 last), (λ h. s.whole (symbol_inside bytes end h.1) h.1))

  identifier_at : (end : ℕ) → end ≤ length bytes → IsIdentifier (between at end bytes) → IsWordEnd bytes end → IsIdentifierAt bytes at end
  identifier_at end within (inl h) ends =
      let last = last_led IsLetter IsAlphanumericByte bytes at end letter_alphanumeric (led_text IsLetter IsAlphanumericByte bytes at end within h.0) in
      inl (record { within = within; identifier = h; whole = λ _ more. ends.0 (last, more) })
  identifier_at end within (inr h) ends =
      let last = last_led IsSymbolicByte IsSymbolicByte bytes at end (λ b k. k) (led_text IsSymbolicByte IsSymbolicByte bytes at end within h.0) in
      inr (record { within = within; identifier = h; whole = λ _ more. ends.1 (last, more) })

  identifier_in : (end : ℕ) → IsIdentifierAt bytes at end → IsIdentifier (between at end bytes)
  identifier_in end (inl a) = inl a.identifier
  identifier_in end (inr s) = inr s.identifier

head_same : (a b : ℕ) (xs ys : List ℕ) → a ∷ xs ≡ b ∷ ys → a ≡ b
head_same a b xs ys e = cc

tail_same : (a b : ℕ) (xs ys : List ℕ) → a ∷ xs ≡ b ∷ ys → xs ≡ ys
tail_same a b xs ys e = cc

module _ (bytes : List ℕ) where
  -- ---- a text, by a place inside
  split : (k start dot end : ℕ) → dot ≡ start + k → dot < end → end ≤ length bytes → between start end bytes ≡ between start dot bytes ++ (slice_index bytes dot ∷ between (dot + 1) end bytes)
  split zero start dot end e l m =
      let here : start ≡ dot = omega (arith, e) in
      ap (λ i. between i end bytes) here ∙ between_cons bytes dot end l (omega (arith, l, m)) ∙ ap (λ text. text ++ (slice_index bytes dot ∷ between (dot + 1) end bytes)) (sym (between-nil bytes start dot (omega (arith, here))))
  split (suc k) start dot end e l m =
      between_cons bytes start end (omega (arith, e, l)) (omega (arith, e, l, m))
      ∙ ap (λ rest. slice_index bytes start ∷ rest) (split k (start + 1) dot end (omega (arith, e)) l m)
      ∙ ap (λ text. text ++ (slice_index bytes dot ∷ between (dot + 1) end bytes)) (sym (between_cons bytes start dot (omega (arith, e)) (omega (arith, e, l, m))))

  dot_text : (start dot end : ℕ) → start ≤ dot → dot < end → end ≤ length bytes → slice_index bytes dot ≡ 46 → between start end bytes ≡ between start dot bytes ++ (46 ∷ between (dot + 1) end bytes)
  dot_text start dot end l m within e = split (dot - start) start dot end (omega arith) m within ∙ ap (λ b. between start dot bytes ++ (b ∷ between (dot + 1) end bytes)) e

  parts_from : (start dot end : ℕ) → IsAlphanumericAt bytes start dot → slice_index bytes dot ≡ 46 → dot < end → end ≤ length bytes → parts (between start end bytes) ≡ between start dot bytes ∷ parts (between (dot + 1) end bytes)
  parts_from start dot end a e l within =
      let begins : start < dot = (word_led bytes start a).begins in
      ap parts (dot_text start dot end (omega arith) l within e) ∙ parts_dot (between start dot bytes) (between (dot + 1) end bytes) (word_no_dot (between start dot bytes) a.identifier)

  -- ---- from the places of the parts to the text
  pub long_begins : {start end : ℕ} → IsLongAt bytes start end → start < end
  long_begins (last_part {start} {dot} {end} a e i) =
      let first : start < dot = (word_led bytes start a).begins in
      let rest : dot + 1 < end = (identifier_begins bytes (dot + 1) end i).0 in
      omega arith
  long_begins (more_parts {start} {dot} {end} a e l) =
      let first : start < dot = (word_led bytes start a).begins in
      let rest : dot + 1 < end = long_begins l in
      omega arith

  long_in : {start end : ℕ} → IsLongAt bytes start end → end ≤ length bytes → StandsAt bytes Long start end
  long_in (last_part {start} {dot} {end} a e i) within =
      let begins : dot + 1 < end = (identifier_begins bytes (dot + 1) end i).0 in
      let whole = parts_from start dot end a e (omega arith) within in
      let rest = between (dot + 1) end bytes in
      let text = identifier_in bytes (dot + 1) end i in (
        (
          two_parts (between start end bytes) (between start dot bytes) rest whole,
          (long_further (between start end bytes) (between start dot bytes) rest whole IsIdentifier).1
              (a.identifier, (long_alone rest (parts_alone rest (identifier_no_dot rest text)) IsIdentifier).1 text),
        ),
        word_end bytes (dot + 1) end i,
      )
  long_in (more_parts {start} {dot} {end} a e l) within =
      let begins : dot + 1 < end = long_begins l in
      let whole = parts_from start dot end a e (omega arith) within in
      let rest = between (dot + 1) end bytes in
      let more = long_in l within in (
        (
          two_parts (between start end bytes) (between start dot bytes) rest whole,
          (long_further (between start end bytes) (between start dot bytes) rest whole IsIdentifier).1 (a.identifier, more.0.1),
        ),
        more.1,
      )

  pub long_stands : (start end : ℕ) → end ≤ length bytes → IsLongAt bytes start end → StandsAt bytes Long start end
  long_stands start end within l = long_in l within

  -- ---- from the text to the places of its parts
  -- where the first part of a text ends
  record IsFirst (start end : ℕ) (first : List ℕ) (others : List (List ℕ)) : Type 0 where
    dot : ℕ
    inside : dot < end
    dot_is : slice_index bytes dot ≡ 46
    first_is : between start dot bytes ≡ first
    behind : parts (between (dot + 1) end bytes) ≡ others

  same_front : (xs ys us vs : List ℕ) → length xs ≡ length us → xs ++ ys ≡ us ++ vs → (xs ≡ us) × (ys ≡ vs)
  same_front [] ys [] vs l e = (refl, e)
  same_front [] ys (u ∷ us) vs l e = absurd (omega arith)
  same_front (x ∷ xs) ys [] vs l e = absurd (omega arith)
  same_front (x ∷ xs) ys (u ∷ us) vs l e =
      let more = same_front xs ys us vs (omega arith) (tail_same x u (xs ++ ys) (us ++ vs) e) in
      (ap₂ ◌∷◌ (head_same x u (xs ++ ys) (us ++ vs) e) more.0, more.1)

  first_at : (start end : ℕ) (first next : List ℕ) (others : List (List ℕ)) → end ≤ length bytes → parts (between start end bytes) ≡ first ∷ next ∷ others → IsFirst start end first (next ∷ others)
  first_at start end first next others within e =
      let d = dotted (between start end bytes) first next others e in
      let count : length (between start end bytes) ≡ end - start = length-between bytes start end within in
      let sum : end - start ≡ length first + length (46 ∷ d.rest) = sym count ∙ ap length d.whole ∙ length-append first (46 ∷ d.rest) in
      let dot : ℕ = start + length first in
      let inside : dot < end = omega (arith, sum) in
      let front : length (between start dot bytes) ≡ length first = length-between bytes start dot (omega arith) ∙ (let k : dot - start ≡ length first = omega arith in k) in
      let same = same_front (between start dot bytes) (slice_index bytes dot ∷ between (dot + 1) end bytes) first (46 ∷ d.rest) front (sym (split (length first) start dot end refl inside within) ∙ d.whole) in
      record {
        dot = dot;
        inside = inside;
        dot_is = head_same (slice_index bytes dot) 46 (between (dot + 1) end bytes) d.rest same.1;
        first_is = same.0;
        behind = ap parts (tail_same (slice_index bytes dot) 46 (between (dot + 1) end bytes) d.rest same.1) ∙ d.behind;
      }

  word_at : (start dot : ℕ) (first : List ℕ) → dot ≤ length bytes → slice_index bytes dot ≡ 46 → between start dot bytes ≡ first → IsAlphanumeric first → IsAlphanumericAt bytes start dot
  word_at start dot first within e is h = record {
    within = within;
    identifier = subst IsAlphanumeric (sym is) h;
    whole = λ _ more. dot-not_alphanumeric (slice_index bytes dot) e more;
  }

  long_at : (others : List (List ℕ)) (first next : List ℕ) (start end : ℕ) → end ≤ length bytes → parts (between start end bytes) ≡ first ∷ next ∷ others → AreIdentifiers IsIdentifier (first ∷ next ∷ others) → IsWordEnd bytes end → IsLongAt bytes start end
  long_at [] first next start end within e h ends =
      let f = first_at start end first next [] within e in
      last_part (word_at start f.dot first (omega (arith, f.inside)) f.dot_is f.first_is h.0) f.dot_is
      (identifier_at bytes (f.dot + 1) end within (subst IsIdentifier (sym (one_part (between (f.dot + 1) end bytes) next f.behind)) h.1) ends)
  long_at (other ∷ others) first next start end within e h ends =
      let f = first_at start end first next (other ∷ others) within e in
      more_parts (word_at start f.dot first (omega (arith, f.inside)) f.dot_is f.first_is h.0) f.dot_is
      (long_at others next other (f.dot + 1) end within f.behind h.1 ends)

  two_at : (texts : List (List ℕ)) (start end : ℕ) → end ≤ length bytes → parts (between start end bytes) ≡ texts → 2 ≤ length texts → AreIdentifiers IsIdentifier texts → IsWordEnd bytes end → IsLongAt bytes start end
  two_at [] start end within e two h ends = absurd h
  two_at (first ∷ []) start end within e two h ends = absurd (omega arith)
  two_at (first ∷ next ∷ others) start end within e two h ends = long_at others first next start end within e h ends

  pub stands_long : (start end : ℕ) → end ≤ length bytes → StandsAt bytes Long start end → IsLongAt bytes start end
  stands_long start end within h = two_at (parts (between start end bytes)) start end within refl h.0.0 h.0.1 h.1

pub by_place : (bytes : List ℕ) (start end : ℕ) → end ≤ length bytes → StandsAt bytes Long start end ↔ IsLongAt bytes start end
by_place bytes start end within = (stands_long bytes start end within, long_stands bytes start end within)
