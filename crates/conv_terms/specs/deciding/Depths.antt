-- Numbers of variables as they are counted, and whether a variable stands in a term.
use Rattle.std.specs.Prelude.{◌≡◌, ℕ, ◌≤◌, ◌==◌, ◌^◌, ◌&&◌, ◌⊎◌, not, Bool, List, map}
use Rattle.type_core.specs.Lists.{all_true}
use Rattle.conv_terms.specs.declared.term.Term.{Term}
use Rattle.conv_terms.specs.declared.term.Term.TheOpen.{Term-F, Var, Lam, App, Tup, Proj}
use Rattle.conv_terms.specs.declared.term.Term.TheFolds.{fold-Term}

-- the number as it is counted: exactly, or where it is at least 2^32, by some number of at least 2^32
abbrev pub IsDepth : ℕ → ℕ → Type 0
IsDepth n counted = (counted ≡ n) ⊎ ((2 ^ 32 ≤ counted) × (2 ^ 32 ≤ n))

-- a level is the same number below binders
abbrev pub absent_step : ℕ → Term-F Bool → Bool
absent_step n (Var i) = not (i == n)
absent_step n (Lam a body) = body
absent_step n (App function argument) = function && argument
absent_step n (Tup components) = all_true components
absent_step n (Proj i count e) = e

-- whether variable n doesn't stand in the term
unfoldable pub is_absent : ℕ → Term → Bool
is_absent n = fold-Term Bool (absent_step n)

-- whether variable n stands in none of the terms
abbrev pub are_absent : ℕ → List Term → Bool
are_absent n terms = all_true (map (is_absent n) terms)
