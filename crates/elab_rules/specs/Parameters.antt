-- The parameters of described type constructors.
use Rattle.std.specs.Prelude.{ℕ, ◌+◌, List, [], ◌∷◌, ◌++◌, map, bytes_eq, Ok}
use Rattle.type_core.specs.declared.ty.VarId.{VarId}
use Rattle.type_core.specs.declared.ty.Ty.{Ty}
use Rattle.type_core.specs.declared.ty.Ty.TheVariants as ty
use Rattle.elab_rules.specs.declared.refusal.Why.TheVariants.{RepeatedParameter}
use Rattle.elab_rules.specs.Outcome.{Outcome}
use Rattle.elab_types.specs.Outcome.{checked}
use Rattle.elab_types.specs.Finding.{none_of}
use Rattle.elab_types.specs.Sources.{text_at, variable}

-- the variables at tokens
abbrev pub variables_at : List (List ℕ) → List ℕ → List VarId
variables_at texts tokens = map (variable texts) tokens

-- parameters, of which the first have these texts: none stands twice
abbrev pub parameters_checked : List (List ℕ) → List (List ℕ) → List ℕ → Outcome (Unit {0})
parameters_checked texts seen [] = Ok tt
parameters_checked texts seen (token ∷ tokens) =
    checked (none_of (bytes_eq (text_at texts token)) seen) RepeatedParameter token
    (parameters_checked texts (seen ++ text_at texts token ∷ []) tokens)

-- the parameters as types, numbered from n on, with their marks
abbrev pub numbered_from : ℕ → List VarId → List Ty
numbered_from n [] = []
numbered_from n (v ∷ parameters) = ty.Var (record { n = n; eq = v.eq }) ∷ numbered_from (n + 1) parameters

-- the name of this number, applied to its parameters in order, which keep their marks
abbrev pub marked : ℕ → List VarId → Ty
marked n parameters = ty.Con (record { 0 = n }) (numbered_from 0 parameters)
