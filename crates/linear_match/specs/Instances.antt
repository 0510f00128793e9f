-- Instances of a scheme, and those that are linearly isomorphic to a type.
use Rattle.std.specs.Prelude.{◌≡◌, IsTrue, List, length}
use Rattle.std.specs.List.{All}
use Rattle.type_core.specs.declared.names.TypeName.{TypeName}
use Rattle.type_core.specs.declared.ty.VarId.{VarId}
use Rattle.type_core.specs.declared.ty.Scheme.{Scheme}
use Rattle.type_core.specs.declared.ty.Ty.{Ty}
use Rattle.type_core.specs.AdmitsEquality.{AdmitsEquality}
use Rattle.type_core.specs.Substitution.{each_variable, substituted}
use Rattle.type_core.specs.Types.{IsType}
use Rattle.type_core.specs.Variables.{occurs, variables}
use Rattle.iso_axioms.specs.Theory.{IsLinearlyIsomorphic}
use Rattle.linear_match.specs.Meetings.{type_for}

-- each variable of the type is one of these
abbrev pub IsOverVariables : List VarId → Ty → Type 0
IsOverVariables vs t = IsTrue (each_variable (λ v. occurs v vs) t)

-- for each variable of the pattern that has the mark stands a type that admits equality
abbrev pub RespectsMarks : List TypeName → Ty → List Ty → Type 0
RespectsMarks names pattern by = (v : VarId) → IsTrue (occurs v (variables pattern)) → IsTrue v.eq
    → AdmitsEquality names (type_for by v)

-- an instance of the scheme for a type: for each variable of the scheme, by number, one type over the variables of that
-- type, which admits equality where the variable has the mark
pub record IsInstance (names : List TypeName) (pattern : Scheme) (subject : Ty) (by : List Ty) : Type 0 where
  pub one_each : length by ≡ pattern.vars
  pub types : All IsType by
  pub over : All (IsOverVariables (variables subject)) by
  pub marks : RespectsMarks names pattern.body by

-- a general match: an instance of the scheme that is linearly isomorphic to the type
pub record IsMatch (names : List TypeName) (pattern : Scheme) (subject : Ty) (by : List Ty) : Type 0 where
  pub instance : IsInstance names pattern subject by
  pub isomorphic : IsLinearlyIsomorphic (substituted by pattern.body) subject
