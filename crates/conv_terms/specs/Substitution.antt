-- Substitution: a term for a variable, and terms for all variables of a context.
use Rattle.std.specs.Prelude.{ℕ, ◌+◌, ◌-◌, ltb, ◌==◌, if◌then◌else◌, List, [], ◌∷◌}
use Rattle.conv_terms.specs.declared.term.Term.{Term}
use Rattle.conv_terms.specs.declared.term.Term.TheVariants as term
use Rattle.conv_terms.specs.declared.term.Term.TheOpen.{Term-F, Var, Lam, App, Tup, Proj}
use Rattle.conv_terms.specs.declared.term.Term.TheFolds.{fold-Term}
use Rattle.conv_terms.specs.Shifting.{shifted}

-- what becomes of each variable below each number of binders
abbrev pub Images : Type 0
Images = ℕ → ℕ → Term

-- the terms, each below so many binders
abbrev pub each_below : List (ℕ → Term) → ℕ → List Term
each_below [] depth = []
each_below (part ∷ parts) depth = part depth ∷ each_below parts depth

-- a variable becomes its image, and an abstraction has its body one binder further down
abbrev pub traverse_step : Images → Term-F (ℕ → Term) → ℕ → Term
traverse_step at (Var n) depth = at n depth
traverse_step at (Lam a body) depth = term.Lam a (body (depth + 1))
traverse_step at (App function argument) depth = term.App (function depth) (argument depth)
traverse_step at (Tup components) depth = term.Tup (each_below components depth)
traverse_step at (Proj i n e) depth = term.Proj i n (e depth)

-- the term, itself below `depth` binders, with `at n d` for each occurrence of a variable n below d binders in all
unfoldable pub traversed : Images → Term → ℕ → Term
traversed at = fold-Term (ℕ → Term) (traverse_step at)

-- variable `level` becomes `by`, with each variable of it that is at least `level` raised by `depth`; those above `level` are lowered by one, and those below stay
abbrev pub image : ℕ → Term → Images
image level by n depth = if ltb n level then term.Var n else (if n == level then shifted level depth by else term.Var (n - 1))

-- the term, below `depth` binders, with `by` for variable `level`
abbrev pub substituted_below : ℕ → Term → Term → ℕ → Term
substituted_below level by t depth = traversed (image level by) t depth

-- the term with `by` for variable `level`
abbrev pub substituted : ℕ → Term → Term → Term
substituted level by t = substituted_below level by t 0

-- variable n of a context of `from` variables becomes `terms n`, which is in a context of `to`, with each variable of it that is at least `to` raised by `depth`; the variables from `from` on go on from `to`
abbrev pub images : ℕ → ℕ → (ℕ → Term) → Images
images from to terms n depth = if ltb n from then shifted to depth (terms n) else term.Var (n - from + to)

-- the term, below `depth` binders of a context of `from` variables, with `terms n` for each variable n of that context
abbrev pub substituted_all : ℕ → ℕ → (ℕ → Term) → Term → ℕ → Term
substituted_all from to terms t depth = traversed (images from to terms) t depth

-- `by` for variable `level`, and each variable below it for itself
abbrev pub only : ℕ → Term → ℕ → Term
only level by n = if ltb n level then term.Var n else by
