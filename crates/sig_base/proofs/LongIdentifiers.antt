-- The parts of long identifiers: what stands before the first dot, and what behind it.
use Rattle.std.proofs.Common.{◌≡◌, ◌≢◌, ◌↔◌, ℕ, ◌≤◌, ◌==◌, if◌then◌else◌, inl, inr, Bool, append_assoc, codes, List, [], ◌∷◌, ◌++◌, length, refl, sym, ap, ◌∙◌, subst, true, false, arith}
use Rattle.std.specs.List.{All}
use Rattle.std.proofs.lemmas.Bool.{eqb-true, ne_eqb}
use Rattle.std.proofs.lemmas.List.Elements.{All-cons, All-head, All-nil, All-tail, All-weaker}
use Rattle.sig_base.specs.Identifiers.{IsAlphanumeric, IsAlphanumericByte, IsDigit, IsIdentifier, IsLetter, IsNumeral, IsSymbolicByte, OneThen}
use Rattle.sig_base.specs.LongIdentifiers.{AreIdentifiers, HasShortParts, IsLong, IsPath, IsShort, parts, with_first}
use Rattle.sig_base.proofs.WordBytes.{alphanumeric_no_dot, digit_alphanumeric, letter_alphanumeric, numeral_word, symbol_no_dot}

-- no dot stands in the text
abbrev pub NoDot : List ℕ → Type 0
NoDot text = All (λ b. b ≢ 46) text

-- parts, of which there is at least one
pub record AreSome (texts : List (List ℕ)) : Type 0 where
  pub first : List ℕ
  pub others : List (List ℕ)
  pub whole : texts ≡ first ∷ others

some_with_first : (b : ℕ) (texts : List (List ℕ)) → AreSome (with_first b texts)
some_with_first b [] = record { first = b ∷ []; others = []; whole = refl }
some_with_first b (part ∷ texts) = record { first = b ∷ part; others = texts; whole = refl }

pub some_parts : (text : List ℕ) → AreSome (parts text)
some_parts [] = record { first = []; others = []; whole = refl }
some_parts (b ∷ text) = by_case (b == 46) refl
  where
    by_case : (dot : Bool) → (b == 46) ≡ dot → AreSome (if dot then [] ∷ parts text else with_first b (parts text))
    by_case true e = record { first = []; others = parts text; whole = refl }
    by_case false e = some_with_first b (parts text)

-- ---- a part, and those behind a dot
more_identifiers : (Last : List ℕ → Type 0) (part : List ℕ) (texts : List (List ℕ)) → AreSome texts → AreIdentifiers Last (part ∷ texts) ↔ (IsAlphanumeric part × AreIdentifiers Last texts)
more_identifiers Last part texts some =
    subst (λ ts. AreIdentifiers Last (part ∷ ts) ↔ (IsAlphanumeric part × AreIdentifiers Last ts)) (sym some.whole) ((λ h. h), (λ h. h))

module _ (text part rest : List ℕ) (e : parts text ≡ part ∷ parts rest) where
  pub long_further : (Last : List ℕ → Type 0) → IsLong Last text ↔ (IsAlphanumeric part × IsLong Last rest)
  long_further Last = subst (λ ts. AreIdentifiers Last ts ↔ (IsAlphanumeric part × IsLong Last rest)) (sym e) (more_identifiers Last part (parts rest) (some_parts rest))

  pub short_further : HasShortParts text ↔ (IsShort part × HasShortParts rest)
  short_further = subst (λ ts. All IsShort ts ↔ (IsShort part × HasShortParts rest)) (sym e)
      ((λ h. (All-head IsShort part (parts rest) h, All-tail IsShort part (parts rest) h)), (λ h. All-cons IsShort part (parts rest) h.0 h.1))

  pub two_parts : 2 ≤ length (parts text)
  two_parts = let some = some_parts rest in omega (arith, ap length e, ap length some.whole)

-- what holds of a text exactly where it holds of what is left of it, one part on
pub further_same : (P : List ℕ → Type 0) (A : Type 0) (text rest front next : List ℕ) → next ≡ front → P rest ↔ (A × P front) → A → P rest ↔ P text → P next ↔ P text
further_same P A text rest front next e step a same = subst (λ t. P t ↔ P text) (sym e) ((λ h. same.0 (step.1 (a, h))), (λ h. (step.0 (same.1 h)).1))

module _ (text : List ℕ) (e : parts text ≡ text ∷ []) where
  pub long_alone : (Last : List ℕ → Type 0) → IsLong Last text ↔ Last text
  long_alone Last = subst (λ ts. AreIdentifiers Last ts ↔ Last text) (sym e) ((λ h. h), (λ h. h))

  pub short_alone : HasShortParts text ↔ IsShort text
  short_alone = subst (λ ts. All IsShort ts ↔ IsShort text) (sym e) ((λ h. All-head IsShort text [] h), (λ h. All-cons IsShort text [] h (All-nil IsShort)))

-- ---- texts without dots
pub no_dot_then : (first rest : ℕ → Type 0) → ((b : ℕ) → first b → b ≢ 46) → ((b : ℕ) → rest b → b ≢ 46) → (text : List ℕ) → OneThen first rest text → NoDot text
no_dot_then first rest one others [] h = absurd h
no_dot_then first rest one others (b ∷ text) h = All-cons (λ c. c ≢ 46) b text (one b h.0) (All-weaker rest (λ c. c ≢ 46) others text h.1)

pub word_no_dot : (text : List ℕ) → IsAlphanumeric text → NoDot text
word_no_dot text h = no_dot_then IsLetter IsAlphanumericByte (λ b k. alphanumeric_no_dot b (letter_alphanumeric b k)) alphanumeric_no_dot text h.0

pub identifier_no_dot : (text : List ℕ) → IsIdentifier text → NoDot text
identifier_no_dot text (inl h) = word_no_dot text h
identifier_no_dot text (inr h) = no_dot_then IsSymbolicByte IsSymbolicByte symbol_no_dot symbol_no_dot text h.0

pub numeral_no_dot : (text : List ℕ) → IsNumeral text → NoDot text
numeral_no_dot text h =
    no_dot_then (λ b. (49 ≤ b) × (b ≤ 57)) IsDigit (λ b k e. omega (arith, k.0, e)) (λ b k. alphanumeric_no_dot b (digit_alphanumeric b k)) text (numeral_word text h)

pub parts_alone : (text : List ℕ) → NoDot text → parts text ≡ text ∷ []
parts_alone [] h = refl
parts_alone (b ∷ text) h =
    ap (λ c. if c then [] ∷ parts text else with_first b (parts text)) (ne_eqb b 46 (All-head (λ c. c ≢ 46) b text h))
    ∙ ap (with_first b) (parts_alone text (All-tail (λ c. c ≢ 46) b text h))

pub parts_dot : (text rest : List ℕ) → NoDot text → parts (text ++ 46 ∷ rest) ≡ text ∷ parts rest
parts_dot [] rest h = refl
parts_dot (b ∷ text) rest h =
    ap (λ c. if c then [] ∷ parts (text ++ 46 ∷ rest) else with_first b (parts (text ++ 46 ∷ rest))) (ne_eqb b 46 (All-head (λ c. c ≢ 46) b text h))
    ∙ ap (with_first b) (parts_dot text rest (All-tail (λ c. c ≢ 46) b text h))

-- ---- a text from its parts
same_head : (a b : List ℕ) (xs ys : List (List ℕ)) → a ∷ xs ≡ b ∷ ys → a ≡ b
same_head a b xs ys e = cc

same_tail : (a b : List ℕ) (xs ys : List (List ℕ)) → a ∷ xs ≡ b ∷ ys → xs ≡ ys
same_tail a b xs ys e = cc

pub one_part : (text part : List ℕ) → parts text ≡ part ∷ [] → text ≡ part
one_part [] part e = same_head [] part [] [] e
one_part (b ∷ text) part e = by_case (one_part text) (b == 46) refl e
  where
    by_case : ((first : List ℕ) → parts text ≡ first ∷ [] → text ≡ first) → (dot : Bool) → (b == 46) ≡ dot → (if dot then [] ∷ parts text else with_first b (parts text)) ≡ part ∷ [] → b ∷ text ≡ part
    by_case more true is f = let some = some_parts text in absurd (omega (arith, ap length (same_tail [] part (parts text) [] f), ap length some.whole))
    by_case more false is f =
        let some = some_parts text in
        let g : (b ∷ some.first) ∷ some.others ≡ part ∷ [] = sym (ap (with_first b) some.whole) ∙ f in
        ap (λ t. b ∷ t) (more some.first (some.whole ∙ ap (λ ts. some.first ∷ ts) (same_tail (b ∷ some.first) part some.others [] g))) ∙ same_head (b ∷ some.first) part some.others [] g

-- the text is its first part, a dot and what has the other parts
pub record IsDotted (text first : List ℕ) (others : List (List ℕ)) : Type 0 where
  pub rest : List ℕ
  pub whole : text ≡ first ++ 46 ∷ rest
  pub behind : parts rest ≡ others

pub dotted : (text first next : List ℕ) (others : List (List ℕ)) → parts text ≡ first ∷ next ∷ others → IsDotted text first (next ∷ others)
dotted [] first next others e = absurd (omega (arith, ap length e))
dotted (b ∷ text) first next others e = by_case (λ front. dotted text front next others) (b == 46) refl e
  where
    by_case : ((front : List ℕ) → parts text ≡ front ∷ next ∷ others → IsDotted text front (next ∷ others)) → (dot : Bool) → (b == 46) ≡ dot → (if dot then [] ∷ parts text else with_first b (parts text)) ≡ first ∷ next ∷ others → IsDotted (b ∷ text) first (next ∷ others)
    by_case more true is f = record {
      rest = text;
      whole = ap (λ c. c ∷ text) (eqb-true b 46 is) ∙ ap (λ t. t ++ 46 ∷ text) (same_head [] first (parts text) (next ∷ others) f);
      behind = same_tail [] first (parts text) (next ∷ others) f;
    }
    by_case more false is f =
        let some = some_parts text in
        let g : (b ∷ some.first) ∷ some.others ≡ first ∷ next ∷ others = sym (ap (with_first b) some.whole) ∙ f in
        let h = more some.first (some.whole ∙ ap (λ ts. some.first ∷ ts) (same_tail (b ∷ some.first) first some.others (next ∷ others) g)) in
        record {
          rest = h.rest;
          whole = ap (λ t. b ∷ t) h.whole ∙ ap (λ t. t ++ 46 ∷ h.rest) (same_head (b ∷ some.first) first some.others (next ∷ others) g);
          behind = h.behind;
        }

-- ---- a text without dots
pub short_text : (text : List ℕ) → NoDot text → HasShortParts text → IsShort text
short_text text none short = (short_alone text (parts_alone text none)).0 short

pub identifier_alone : (Last : List ℕ → Type 0) (text : List ℕ) → NoDot text → IsShort text → Last text → IsLong Last text × HasShortParts text
identifier_alone Last text none short h = let e = parts_alone text none in ((long_alone text e Last).1 h, (short_alone text e).1 short)

-- ---- an alphanumeric identifier, a dot and a text
module _ (Last : List ℕ → Type 0) (part text : List ℕ) (h : IsAlphanumeric part) (short : IsShort part) (long : IsLong Last text × HasShortParts text) where
  abbrev onward : List ℕ
  onward = part ++ codes "." ++ text

  parts_onward : parts onward ≡ part ∷ parts text
  parts_onward = ap parts (append_assoc part (codes ".") text) ∙ parts_dot part text (word_no_dot part h)

  pub long_onward : IsLong Last onward × HasShortParts onward
  long_onward = ((long_further onward part text parts_onward Last).1 (h, long.0), (short_further onward part text parts_onward).1 (short, long.1))

  pub path_onward : IsPath Last onward × HasShortParts onward
  path_onward = ((two_parts onward part text parts_onward, long_onward.0), long_onward.1)
