-- The levels of a term: a variable is the number of binders that enclose its own binder, counted from the outside.
use Rattle.std.specs.Prelude.{ℕ, ◌+◌, max, List, map}
use Rattle.type_core.specs.Lists.{greatest_of}
use Rattle.conv_terms.specs.declared.term.Term.{Term}
use Rattle.conv_terms.specs.declared.term.Term.TheOpen.{Term-F, Var, Lam, App, Tup, Proj}
use Rattle.conv_terms.specs.declared.term.Term.TheFolds.{fold-Term}

-- one above a variable; the greatest of the parts'
abbrev pub levels_step : Term-F ℕ → ℕ
levels_step (Var n) = n + 1
levels_step (Lam a body) = body
levels_step (App function argument) = max function argument
levels_step (Tup components) = greatest_of components
levels_step (Proj i n e) = e

-- the least number above all variables of the term, those that it binds among them; 0 where it has none
unfoldable pub levels : Term → ℕ
levels = fold-Term ℕ levels_step

-- the least number above all variables of the terms
abbrev pub levels_of_all : List Term → ℕ
levels_of_all terms = greatest_of (map levels terms)

-- one more at an abstraction; the greatest of the parts'
abbrev pub nesting_step : Term-F ℕ → ℕ
nesting_step (Var n) = 0
nesting_step (Lam a body) = body + 1
nesting_step (App function argument) = max function argument
nesting_step (Tup components) = greatest_of components
nesting_step (Proj i n e) = e

-- how many binders of the term stand within one another
unfoldable pub nesting : Term → ℕ
nesting = fold-Term ℕ nesting_step

-- how many binders of one of the terms stand within one another
abbrev pub nesting_of_all : List Term → ℕ
nesting_of_all terms = greatest_of (map nesting terms)
