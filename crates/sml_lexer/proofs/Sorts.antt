-- The sorts of bytes, told by tests.
use Rattle.std.proofs.Common.{◌≡◌, ℕ, ◌≤◌, ◌⊎◌, inl, inr, Bool, true, ◌&&◌, ◌||◌, leb, eqb, List, [], ◌∷◌, refl, ap, arith}
use Rattle.std.specs.Prelude.{codes, if◌then◌else◌}
use Rattle.std.specs.List.{All, Contains, list_any, list_all}
use Rattle.std.proofs.lemmas.Bool.{and_parts, or_cases, eqb-true, false≢true}
use Rattle.std.proofs.lemmas.Bool.Decides.{nat_tests}
use Rattle.std.proofs.lemmas.List.Elements.{All-nil, All-cons, All-contains, All-from_recursion, Contains-append_right}
use Rattle.sig_base.specs.Identifiers.{IsLetter, IsAlphanumericByte, IsSymbolicByte, is_letter, is_symbolic_byte}
use Rattle.sig_base.proofs.WordBytes.{alphanumeric_no_dot, contained, each_symbol, symbols}
use Rattle.sml_lexer.specs.Tokens.{IsSeparator}

abbrev pub symbol : ℕ → Bool
symbol b = list_any (λ c. eqb c b) symbols

abbrev pub one_mark : ℕ → Bool
one_mark b = list_any (λ c. eqb c b) (codes "()[]{},;_")

-- what a byte begins: 1 a word of letters, 2 a word of symbols, 3 a type variable, 4 a numeral, 5 a mark of one byte, 6 the dots, 0 nothing
abbrev pub sort : ℕ → ℕ
sort b =
    if is_letter b then 1 else (if leb 49 b && leb b 57 then 4 else (if eqb b 39 then 3 else (if eqb b 46 then 6
    else (if one_mark b then 5 else (if symbol b then 2 else 0)))))

pub sort-letter : (b : ℕ) → IsLetter b → sort b ≡ 1
sort-letter b h = grind (arith, nat_tests)

pub sort-digit : (b : ℕ) → 49 ≤ b → b ≤ 57 → sort b ≡ 4
sort-digit b low high = grind (arith, nat_tests)

pub sort-symbol : (b : ℕ) → IsSymbolicByte b → sort b ≡ 2
sort-symbol b h =
    each_symbol (λ c. sort c ≡ 2)
    (refl, (refl, (refl, (refl, (refl, (refl, (refl, (refl, (refl, (refl, (refl, (refl, (refl, (refl, (refl, (refl, (refl, (refl, (refl, (refl, tt))))))))))))))))))))
    b h

pub sort-separator : (b : ℕ) → IsSeparator b → sort b ≡ 0
sort-separator b (inl e) = ap sort e
sort-separator b (inr (inl e)) = ap sort e
sort-separator b (inr (inr (inl e))) = ap sort e
sort-separator b (inr (inr (inr (inl e)))) = ap sort e
sort-separator b (inr (inr (inr (inr e)))) = ap sort e

pub dot-not_alphanumeric : (b : ℕ) → b ≡ 46 → IsAlphanumericByte b → ⊥
dot-not_alphanumeric b e h = alphanumeric_no_dot b h e

pub symbol_tested : (b : ℕ) → symbol b ≡ true → IsSymbolicByte b
unfolding is_symbolic_byte
symbol_tested b h = h

pub sort-mark : (b : ℕ) → one_mark b ≡ true → sort b ≡ 5
sort-mark b h =
    All-contains (λ c. sort c ≡ 5) (codes "()[]{},;_") b
    (All-from_recursion (λ c. sort c ≡ 5) (codes "()[]{},;_") (refl, (refl, (refl, (refl, (refl, (refl, (refl, (refl, (refl, tt))))))))))
    (contained (codes "()[]{},;_") b h)

pub all_tested : (test : ℕ → Bool) (P : ℕ → Type 0) → ((b : ℕ) → test b ≡ true → P b) → (text : List ℕ) → list_all test text ≡ true → All P text
all_tested test P each [] h = All-nil P
all_tested test P each (b ∷ text) h = let k = and_parts _ _ h in All-cons P b text (each b k.0) (all_tested test P each text k.1)
