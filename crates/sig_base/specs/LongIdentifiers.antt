-- Long identifiers, and the limit of their parts: the Definition of Standard ML, section 2.4.
use Rattle.std.specs.Prelude.{ℕ, ◌≤◌, ◌==◌, if◌then◌else◌, List, [], ◌∷◌, length}
use Rattle.std.specs.List.{All}
use Rattle.sig_base.specs.Identifiers.{IsAlphanumeric}

-- parts of which the first begins with one more byte
abbrev pub with_first : ℕ → List (List ℕ) → List (List ℕ)
with_first b [] = (b ∷ []) ∷ []
with_first b (part ∷ parts) = (b ∷ part) ∷ parts

-- the parts of a text, between which dots stand
abbrev pub parts : List ℕ → List (List ℕ)
parts [] = [] ∷ []
parts (b ∷ text) = if b == 46 then [] ∷ parts text else with_first b (parts text)

-- alphanumeric identifiers, any number of them, and then a last text of the given sort
abbrev pub AreIdentifiers : (List ℕ → Type 0) → List (List ℕ) → Type 0
AreIdentifiers Last [] = ⊥
AreIdentifiers Last (text ∷ []) = Last text
AreIdentifiers Last (text ∷ next ∷ texts) = IsAlphanumeric text × AreIdentifiers Last (next ∷ texts)

-- such texts joined by dots: an identifier, long or not, by what the last part may be
abbrev pub IsLong : (List ℕ → Type 0) → List ℕ → Type 0
IsLong Last text = AreIdentifiers Last (parts text)

-- a path: at least two such texts joined by dots
abbrev pub IsPath : (List ℕ → Type 0) → List ℕ → Type 0
IsPath Last text = (2 ≤ length (parts text)) × IsLong Last text

-- a text of at most 255 bytes
abbrev pub IsShort : List ℕ → Type 0
IsShort text = length text ≤ 255

-- a text whose parts have at most 255 bytes each
abbrev pub HasShortParts : List ℕ → Type 0
HasShortParts text = All IsShort (parts text)
