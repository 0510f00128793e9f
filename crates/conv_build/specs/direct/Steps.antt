-- The steps from a term of a type to each of its coordinates.
use Rattle.std.specs.Prelude.{ℕ, ◌+◌, List, [], ◌∷◌, ◌++◌, length, map}
use Rattle.type_core.specs.declared.ty.Ty.{Ty}
use Rattle.type_core.specs.declared.ty.Field.{Field}
use Rattle.type_core.specs.declared.ty.Ty.TheOpen.{Ty-F, Var, Con, Rec, Tup, Arrow}
use Rattle.type_core.specs.declared.ty.Ty.TheFolds.{para-Ty}
use Rattle.conv_build.specs.declared.step.Step.{Step}
use Rattle.conv_build.specs.declared.step.Step.TheVariants as step

-- there is no step to an atom
abbrev pub no_step : List (List Step)
no_step = [] ∷ []

-- the component is projected first, where components count from i on
abbrev pub steps_each : List (Ty × List (List Step)) → ℕ → ℕ → List (List Step)
steps_each [] i count = []
steps_each (part ∷ parts) i count =
    map (λ steps. step.Component i count ∷ steps) part.1 ++ steps_each parts (i + 1) count

-- a function is applied first
abbrev pub steps_step : Ty-F (Ty × List (List Step)) (Field × Unit {0}) → List (List Step)
steps_step (Var v) = no_step
steps_step (Con name arguments) = no_step
steps_step (Rec fields) = no_step
steps_step (Tup parts) = steps_each parts 1 (length parts)
steps_step (Arrow from to) = map (λ steps. step.Argument from.0 ∷ steps) to.1

-- the steps to each coordinate of the type, in their order
unfoldable pub steps_of : Ty → List (List Step)
steps_of = para-Ty (List (List Step)) (Unit {0}) steps_step (λ field. tt)

-- the steps behind these first ones
abbrev pub after_steps : List Step → List Step → List Step
after_steps first steps = first ++ steps

-- those to each coordinate of each component, behind these first ones, where components count from i on
abbrev pub steps_of_all : List Step → List Ty → ℕ → ℕ → List (List Step)
steps_of_all first [] i count = []
steps_of_all first (t ∷ ts) i count =
    map (after_steps (first ++ step.Component i count ∷ [])) (steps_of t) ++ steps_of_all first ts (i + 1) count
