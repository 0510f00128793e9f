-- The two passes along steps: the leaves on the way, and the coordinate that is reached.
use Rattle.std.specs.Prelude.{◌≡◌, ℕ, List, [], ◌∷◌, ◌++◌, drop, length}
use Rattle.type_core.specs.declared.ty.Ty.{Ty}
use Rattle.type_core.specs.Coordinates.{coordinates}
use Rattle.conv_terms.specs.declared.term.Term.{Term}
use Rattle.conv_terms.specs.declared.term.Term.TheVariants as term
use Rattle.conv_build.specs.declared.step.Step.{Step}
use Rattle.conv_build.specs.declared.step.Step.TheVariants as step
use Rattle.conv_build.specs.direct.TwoPasses.{Leaf, built, leaves, reached, way}

-- the leaves of the arguments, in a context of so many variables
abbrev pub way_along : List Step → ℕ → List Leaf
way_along [] n = []
way_along (step.Component i count ∷ steps) n = way_along steps n
way_along (step.Argument a ∷ steps) n = leaves a n ++ way_along steps n

-- what the steps make of a term, at arguments around these terms of their atoms
abbrev pub reached_along : List Step → Term → List Term → Term
reached_along [] e terms = e
reached_along (step.Component i count ∷ steps) e terms = reached_along steps (term.Proj i count e) terms
reached_along (step.Argument a ∷ steps) e terms =
    reached_along steps (term.App e (built a terms)) (drop (length (coordinates a)) terms)

-- the steps lead from terms of the type to their coordinate at the place
pub record AreSteps (steps : List Step) (t : Ty) (place : ℕ) : Type 0 where
  pub way_is : (n : ℕ) → way t place n ≡ way_along steps n
  pub reached_is : (e : Term) (terms : List Term) → reached t place e terms ≡ reached_along steps e terms
