-- Options among words, one word after another.
use Rattle.std.proofs.Common.{◌≡◌, ℕ, suc, Bool, true, false, ◌||◌, ◌+◌, ◌-◌, ◌<◌, inl, inr, List, [], ◌∷◌, map, drop, take, get_or, length, bytes_eq, refl, sym, ap, ap₂, ◌∙◌, arith}
use Rattle.std.specs.Prelude.{filter}
use Rattle.std.proofs.lemmas.Bool.{and_left, and_right, cases_Bool, false≢true, false_from_ne_true}
use Rattle.std.proofs.lemmas.Slice.Eq.{bytes_eq-Decides}
use Rattle.std.proofs.lemmas.List.{take_rest}
use Rattle.std.proofs.Math.Seq.{drop-cons}
use Rattle.query_cli.specs.Words.{are_among, has, is_option}

-- a word that passes a test stands among those that pass it exactly where it stands
pub has-filter : (test : List ℕ → Bool) (words : List (List ℕ)) (word : List ℕ) → test word ≡ true
    → has (filter test words) word ≡ has words word
has-filter test [] word passes = refl
has-filter test (other ∷ words) word passes = elim (cases_Bool (test other)) [
  | inl e ↦ rw e (ap (λ found. bytes_eq other word || found) (has-filter test words word passes))
  | inr e ↦
      let apart : bytes_eq other word ≡ false = false_from_ne_true (bytes_eq other word)
      (λ same. false≢true (sym e ∙ (ap test ((bytes_eq-Decides other word).0 same) ∙ passes))) in
      rw (e, apart) (has-filter test words word passes)
]

-- at a place of a list, the words from there on are the word at that place and those after it
module _ {A : Type 0} (f : A → List ℕ) (xs : List A) (i : ℕ) (x : A) (word : List ℕ) (within : i < length xs) (there : x ≡ get_or xs i x) (same : word ≡ f x) where
  abbrev later : List (List ℕ)
  later = map f (drop (i + 1) xs)

  opened : map f (drop i xs) ≡ word ∷ map f (drop (i + 1) xs)
  opened =
      let next : suc i ≡ i + 1 = omega arith in
      ap (map f) (drop-cons xs i x within)
      ∙ ap₂ (λ first n. first ∷ map f (drop n xs)) (ap f (sym there) ∙ sym same) next

  stands_later : has (map f (take (length xs - (i + 1)) (drop (i + 1) xs))) word ≡ has (map f (drop (i + 1) xs)) word
  stands_later = ap (λ rest. has (map f rest) word) (take_rest xs (i + 1))

  module _ (known : List (List ℕ)) where
    abbrev among : List (List ℕ) → Bool
    among words = are_among known (filter is_option words)

    -- an option that stands later too is none that is taken
    pub twice : is_option word ≡ true → has (map f (take (length xs - (i + 1)) (drop (i + 1) xs))) word ≡ true
        → among (map f (drop i xs)) ≡ among (map f xs) → false ≡ among (map f xs)
    twice e h invariant =
        let stands : has (filter is_option later) word ≡ true = has-filter is_option later word e ∙ (sym stands_later ∙ h) in
        let stops : among (word ∷ later) ≡ false = rw (e, stands) (and_left _ _ (and_right (has known word) false refl)) in
        sym stops ∙ (ap among (sym opened) ∙ invariant)

    -- a known option that doesn't stand later is passed
    pub once : is_option word ≡ true → has known word ≡ true → has (map f (take (length xs - (i + 1)) (drop (i + 1) xs))) word ≡ false
        → among (map f (drop i xs)) ≡ among (map f xs) → among (map f (drop (i + 1) xs)) ≡ among (map f xs)
    once e k h invariant =
        let stands : has (filter is_option later) word ≡ false = has-filter is_option later word e ∙ (sym stands_later ∙ h) in
        let passes : among (word ∷ later) ≡ among later = rw (e, k, stands) refl in
        sym passes ∙ (ap among (sym opened) ∙ invariant)
