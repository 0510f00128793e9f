-- Options and values among the words that follow a mode.
use Rattle.std.specs.Prelude.{ℕ, Bool, true, false, not, ◌&&◌, ◌==◌, if◌then◌else◌, List, [], ◌∷◌, ◌++◌, codes, bytes_eq, filter}
use Rattle.std.specs.List.{list_any}

-- whether the word is one of the words
abbrev pub has : List (List ℕ) → List ℕ → Bool
has words word = list_any (λ other. bytes_eq other word) words

-- whether the word is `--`, which ends the options
abbrev pub is_end : List ℕ → Bool
is_end word = bytes_eq word (codes "--")

-- the words before the first `--`
abbrev pub before_end : List (List ℕ) → List (List ℕ)
before_end [] = []
before_end (word ∷ words) = if is_end word then [] else word ∷ before_end words

-- the words after the first `--`
abbrev pub after_end : List (List ℕ) → List (List ℕ)
after_end [] = []
after_end (word ∷ words) = if is_end word then words else after_end words

-- whether the word begins with `-` and is longer than that
abbrev pub is_option : List ℕ → Bool
is_option [] = false
is_option (first ∷ []) = false
is_option (first ∷ second ∷ rest) = first == 45

-- the options: of the words before the first `--` those that begin with `-`, other than `-` itself
abbrev pub options_of : List (List ℕ) → List (List ℕ)
options_of words = filter is_option (before_end words)

-- the values: the other words before the first `--`, and all words after it
abbrev pub values_of : List (List ℕ) → List (List ℕ)
values_of words = filter (λ word. not (is_option word)) (before_end words) ++ after_end words

-- whether each of the options is a known one, and none stands twice
abbrev pub are_among : List (List ℕ) → List (List ℕ) → Bool
are_among known [] = true
are_among known (option ∷ options) = has known option && not (has options option) && are_among known options
