-- The moving of levels.
use Rattle.std.specs.Prelude.{ℕ, ◌+◌, ltb, if◌then◌else◌}
use Rattle.conv_terms.specs.declared.term.Term.{Term}
use Rattle.conv_terms.specs.declared.term.Term.TheVariants as term
use Rattle.conv_terms.specs.declared.term.Term.TheOpen.{Term-F, Var, Lam, App, Tup, Proj}
use Rattle.conv_terms.specs.declared.term.Term.TheFolds.{fold-Term}

-- the number with `by` added where it is at least `from`
abbrev pub raised : ℕ → ℕ → ℕ → ℕ
raised from by n = if ltb n from then n else (n + by)

-- a variable is raised, and each other form has its parts shifted
abbrev pub shift_step : ℕ → ℕ → Term-F Term → Term
shift_step from by (Var n) = term.Var (raised from by n)
shift_step from by (Lam a body) = term.Lam a body
shift_step from by (App function argument) = term.App function argument
shift_step from by (Tup components) = term.Tup components
shift_step from by (Proj i n e) = term.Proj i n e

-- the term with `by` added to every variable that is at least `from`
unfoldable pub shifted : ℕ → ℕ → Term → Term
shifted from by = fold-Term Term (shift_step from by)
