-- Choices of names: their union, and the names that they settle.
use Rattle.std.proofs.Common.{◌≡◌, ℕ, zero, suc, ◌+◌, ◌-◌, ◌<◌, ◌||◌, inl, inr, Bool, true, false, List, [], ◌∷◌, length, replicate, set, get_or, refl, sym, ap, ap₂, ◌∙◌, arith}
use Rattle.std.proofs.lemmas.Bool.{false_from_ne_true, or_cases, or_left, or_right, true≢false}
use Rattle.elab_env.proofs.NameLists.{length-with_equality}
use Rattle.elab_env.specs.Names.{equality_at, with_equality}
use Rattle.type_core.specs.declared.names.Equality.{Equality}
use Rattle.type_core.specs.declared.names.Equality.TheVariants.{IfArgs}
use Rattle.type_core.specs.declared.names.TypeName.{TypeName}
use Rattle.elab_rules.specs.Equality.{by_choice, some_choice, union, with_choice}
use Rattle.elab_rules.specs.Settling.{IsWithin}

-- ---- the union is the one that passes and has no less than any other
less : {m n : ℕ} → suc m ≡ suc n → m ≡ n
less e = omega (arith, e)

some_passes : (choice : List Bool) (count : ℕ) (test : List Bool → Bool) → length choice ≡ count → test choice ≡ true → some_choice count test ≡ true
some_passes [] zero test e passes = passes
some_passes [] (suc count) test e passes = absurd (omega (arith, e))
some_passes (c ∷ cs) zero test e passes = absurd (omega (arith, e))
some_passes (true ∷ cs) (suc count) test e passes = or_left _ _ (some_passes cs count (λ choice. test (true ∷ choice)) (less e) passes)
some_passes (false ∷ cs) (suc count) test e passes = or_right _ _ (some_passes cs count (λ choice. test (false ∷ choice)) (less e) passes)

none_passes : (count : ℕ) (test : List Bool → Bool) → ((choice : List Bool) → length choice ≡ count → test choice ≡ false) → some_choice count test ≡ false
none_passes zero test fails = fails [] refl
none_passes (suc count) test fails =
    ap₂ ◌||◌ (none_passes count (λ choice. test (true ∷ choice)) (λ choice e. fails (true ∷ choice) (ap suc e)))
    (none_passes count (λ choice. test (false ∷ choice)) (λ choice e. fails (false ∷ choice) (ap suc e)))

-- no choice that passes has more
abbrev pub IsAbove : ℕ → (List Bool → Bool) → List Bool → Type 0
IsAbove count test choice = (other : List Bool) → length other ≡ count → test other ≡ true → IsWithin other choice

rest_above : (c : Bool) (cs : List Bool) (count : ℕ) (test : List Bool → Bool) → IsAbove (suc count) test (c ∷ cs) → IsAbove count (λ choice. test (true ∷ choice) || test (false ∷ choice)) cs
rest_above c cs count test above other e passes = elim (or_cases (test (true ∷ other)) (test (false ∷ other)) passes) [
  | inl p ↦ (above (true ∷ other) (ap suc e) p).1
  | inr p ↦ (above (false ∷ other) (ap suc e) p).1
]

pub union_is : (choice : List Bool) (count : ℕ) (test : List Bool → Bool) → length choice ≡ count → test choice ≡ true → IsAbove count test choice → union count test ≡ choice
union_is [] zero test e passes above = refl
union_is [] (suc count) test e passes above = absurd (omega (arith, e))
union_is (c ∷ cs) zero test e passes above = absurd (omega (arith, e))
union_is (true ∷ cs) (suc count) test e passes above =
    ap₂ ◌∷◌ (some_passes cs count (λ choice. test (true ∷ choice)) (less e) passes)
    (union_is cs count (λ choice. test (true ∷ choice) || test (false ∷ choice)) (less e) (or_left _ _ passes) (rest_above true cs count test above))
union_is (false ∷ cs) (suc count) test e passes above =
    ap₂ ◌∷◌ (none_passes count (λ choice. test (true ∷ choice)) (λ other d. false_from_ne_true _ (λ p. true≢false (sym ((above (true ∷ other) (ap suc d) p).0 refl)))))
    (union_is cs count (λ choice. test (true ∷ choice) || test (false ∷ choice)) (less e) (or_right _ _ passes) (rest_above false cs count test above))

-- ---- the names that a choice settles
twice : (n : ℕ) (d e : Equality) (names : List TypeName) → with_equality n d (with_equality n e names) ≡ with_equality n d names
twice n d e [] = refl
twice zero d e (name ∷ names) = refl
twice (suc n) d e (name ∷ names) = ap (λ rest. name ∷ rest) (twice n d e names)

swapped : (m n : ℕ) (d e : Equality) (names : List TypeName) → m < n → with_equality m d (with_equality n e names) ≡ with_equality n e (with_equality m d names)
swapped m n d e [] l = refl
swapped m zero d e (name ∷ names) l = absurd (omega (arith, l))
swapped zero (suc n) d e (name ∷ names) l = refl
swapped (suc m) (suc n) d e (name ∷ names) l = ap (λ rest. name ∷ rest) (swapped m n d e names (omega (arith, l)))

moved : (m n : ℕ) (d : Equality) (choice : List Bool) (names : List TypeName) → m < n → with_equality m d (with_choice n choice names) ≡ with_choice n choice (with_equality m d names)
moved m n d [] names l = refl
moved m n d (c ∷ cs) names l =
    moved m (n + 1) d cs (with_equality n (by_choice c) names) (omega (arith, l))
    ∙ ap (with_choice (n + 1) cs) (swapped m n d (by_choice c) names l)

first_settled : (n : ℕ) (d : Equality) (c : Bool) (cs : List Bool) (names : List TypeName) → with_choice (n + 1) cs (with_equality n d names) ≡ with_equality n d (with_choice n (c ∷ cs) names)
first_settled n d c cs names =
    ap (with_choice (n + 1) cs) (sym (twice n d (by_choice c) names))
    ∙ sym (moved n (n + 1) d cs (with_equality n (by_choice c) names) (omega arith))

pub settled_there : (n k : ℕ) (b : Bool) (choice : List Bool) (names : List TypeName) → k < length choice
    → with_choice n (set choice k b) names ≡ with_equality (n + k) (by_choice b) (with_choice n choice names)
settled_there n k b [] names l = absurd (omega (arith, l))
settled_there n zero b (c ∷ cs) names l =
    first_settled n (by_choice b) c cs names
    ∙ ap (λ j. with_equality j (by_choice b) (with_choice n (c ∷ cs) names)) (let e : n ≡ n + 0 = omega arith in e)
settled_there n (suc k) b (c ∷ cs) names l =
    settled_there (n + 1) k b cs (with_equality n (by_choice c) names) (omega (arith, l))
    ∙ ap (λ j. with_equality j (by_choice b) (with_choice n (c ∷ cs) names)) (let e : (n + 1) + k ≡ n + suc k = omega arith in e)

pub length-with_choice : (n : ℕ) (choice : List Bool) (names : List TypeName) → length (with_choice n choice names) ≡ length names
length-with_choice n [] names = refl
length-with_choice n (c ∷ cs) names = length-with_choice (n + 1) cs (with_equality n (by_choice c) names) ∙ length-with_equality n (by_choice c) names

pub equality_there : (n : ℕ) (d : Equality) (names : List TypeName) → n < length names → equality_at (with_equality n d names) n ≡ d
equality_there n d [] l = absurd (omega (arith, l))
equality_there zero d (name ∷ names) l = refl
equality_there (suc n) d (name ∷ names) l = equality_there n d names (omega (arith, l))

pub chosen_there : (n k : ℕ) (choice : List Bool) (names : List TypeName) → get_or choice k false ≡ true → n + k < length names → equality_at (with_choice n choice names) (n + k) ≡ IfArgs
chosen_there n k [] names has l = absurd (true≢false (sym has))
chosen_there n zero (c ∷ cs) names has l =
    ap (λ b. equality_at (with_choice (n + 1) cs (with_equality n (by_choice b) names)) (n + 0)) has
    ∙ ap (λ j. equality_at (with_choice (n + 1) cs (with_equality n IfArgs names)) j) (let e : n + 0 ≡ n = omega arith in e)
    ∙ ap (λ xs. equality_at xs n) (first_settled n IfArgs true cs names)
    ∙ equality_there n IfArgs (with_choice n (true ∷ cs) names) (omega (arith, l, length-with_choice n (true ∷ cs) names))
chosen_there n (suc k) (c ∷ cs) names has l =
    ap (λ j. equality_at (with_choice (n + 1) cs (with_equality n (by_choice c) names)) j) (let e : n + suc k ≡ (n + 1) + k = omega arith in e)
    ∙ chosen_there (n + 1) k cs (with_equality n (by_choice c) names) has (omega (arith, l, length-with_equality n (by_choice c) names))

-- ---- a choice without one of its names
pub within_without : (other choice : List Bool) (k : ℕ) → IsWithin other choice → get_or other k false ≡ false → IsWithin other (set choice k false)
within_without [] [] k within lacks = within
within_without [] (d ∷ ds) k within lacks = absurd within
within_without (c ∷ cs) [] k within lacks = absurd within
within_without (c ∷ cs) (d ∷ ds) zero within lacks = (λ has. absurd (true≢false (sym has ∙ lacks)), within.1)
within_without (c ∷ cs) (d ∷ ds) (suc k) within lacks = (within.0, within_without cs ds k within.1 lacks)

-- ---- all names chosen
pub within_all : (choice : List Bool) (count : ℕ) → length choice ≡ count → IsWithin choice (replicate count true)
within_all [] zero e = tt
within_all [] (suc count) e = absurd (omega (arith, e))
within_all (c ∷ cs) zero e = absurd (omega (arith, e))
within_all (c ∷ cs) (suc count) e = (λ has. refl, within_all cs count (less e))

-- one more name chosen
pub chosen_on : (n end : ℕ) (now next whole : List TypeName) → n < end → next ≡ with_equality n IfArgs now → with_choice n (replicate (end - n) true) now ≡ whole
    → with_choice (n + 1) (replicate (end - (n + 1)) true) next ≡ whole
chosen_on n end now next whole l e so_far =
    ap (with_choice (n + 1) (replicate (end - (n + 1)) true)) e
    ∙ ap (λ k. with_choice n (replicate k true) now) (let k : suc (end - (n + 1)) ≡ end - n = omega (arith, l) in k)
    ∙ so_far
