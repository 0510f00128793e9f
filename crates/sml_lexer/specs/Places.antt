-- At which line and column a byte of a text stands.
use Rattle.std.specs.Prelude.{ℕ, ◌+◌, ◌==◌, List, [], ◌∷◌, length, take, if◌then◌else◌}

-- how many lines end in the text
abbrev pub line_ends : List ℕ → ℕ
line_ends [] = 0
line_ends (b ∷ text) = (if b == 10 then 1 else 0) + line_ends text

-- the bytes after the last line end, or all where no line ends
abbrev pub last_line : List ℕ → List ℕ
last_line [] = []
last_line (b ∷ text) = if line_ends (b ∷ text) == 0 then b ∷ text else last_line text

-- the line of a place, counted from 1
abbrev pub line_at : List ℕ → ℕ → ℕ
line_at bytes at = 1 + line_ends (take at bytes)

-- its column, counted in bytes from 1
abbrev pub column_at : List ℕ → ℕ → ℕ
column_at bytes at = 1 + length (last_line (take at bytes))
