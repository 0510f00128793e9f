-- Schemes, and the closing of a type to a scheme.
use Rattle.std.specs.Prelude.{◌≡◌, ℕ, List, length, map}
use Rattle.std.specs.List.{range_with_len}
use Rattle.type_core.specs.declared.ty.VarId.{VarId}
use Rattle.type_core.specs.declared.ty.Scheme.{Scheme}
use Rattle.type_core.specs.declared.ty.Ty.{Ty}
use Rattle.type_core.specs.Variables.{place, by_first_occurrence}
use Rattle.type_core.specs.Renaming.{renamed, Renaming}

-- the numbers of the variables
abbrev pub numbers : List VarId → List ℕ
numbers = map (λ v. v.n)

-- its variables, in the order in which they first occur, have the numbers 0, 1, .., `vars` - 1;
-- so no number has two marks
abbrev pub IsScheme : Scheme → Type 0
IsScheme s = numbers (by_first_occurrence s.body) ≡ range_with_len 0 s.vars

-- each variable gets its place among these as its number, and keeps its mark
abbrev pub numbered_among : List VarId → Renaming
numbered_among vs v = record { n = place v vs; eq = v.eq }

-- the type with its variables numbered from 0 by first occurrence
abbrev pub closed : Ty → Scheme
closed t = record { vars = length (by_first_occurrence t); body = renamed (numbered_among (by_first_occurrence t)) t }
