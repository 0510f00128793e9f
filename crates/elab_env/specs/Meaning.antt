-- What names mean by now, and how much there is to do to find it.
use Rattle.std.specs.Prelude.{◌≡◌, ℕ, ◌+◌, ◌≤◌, ◌==◌, ◌<◌, if◌then◌else◌, IfSome, IsTrue, List, [], ◌∷◌, Option, Some, None, drop, length, slice_get}
use Rattle.type_core.specs.declared.names.TypeName.{TypeName}
use Rattle.type_core.specs.declared.ty.NameId.{NameId}
use Rattle.type_core.specs.declared.ty.Ty.{Ty}
use Rattle.type_core.specs.declared.ty.Ty.TheVariants as ty
use Rattle.type_core.specs.declared.ty.Ty.TheOpen.{Ty-F, Field-F, Var, Con, Rec, Tup, Arrow}
use Rattle.type_core.specs.declared.ty.Ty.TheFolds.{fold-Ty}
use Rattle.type_core.specs.Lists.{sum_of}
use Rattle.type_core.specs.Substitution.{VariablesBelow, substituted}
use Rattle.type_core.specs.Types.{IsOver, takes}
use Rattle.elab_env.specs.declared.realization.Realization.{Realization}
use Rattle.elab_env.specs.Realizations.{resolved}

-- what a name means where it is applied to resolved arguments
abbrev pub meant : List Realization → NameId → List Ty → Ty
meant [] name arguments = ty.Con name arguments
meant (r ∷ rs) name arguments = if name.0 == r.name.0 then substituted arguments (resolved rs r.fun.body) else meant rs name arguments

-- the body of a realization, if there is one
abbrev pub body_of : Option Realization → Ty
body_of None = ty.Tup []
body_of (Some r) = r.fun.body

-- what a name means that has its realization at this place, or is none of the realized ones
abbrev pub meant_at : List Realization → NameId → Option ℕ → List Ty → Ty
meant_at rs name None arguments = ty.Con name arguments
meant_at rs name (Some p) arguments = substituted arguments (resolved (drop (p + 1) rs) (body_of (slice_get rs p)))

abbrev pub weigh_step : (ℕ → ℕ) → Ty-F ℕ ℕ → ℕ
weigh_step w (Var v) = 1
weigh_step w (Con name arguments) = 1 + (w name.0 + sum_of arguments)
weigh_step w (Rec fields) = 1 + sum_of fields
weigh_step w (Tup components) = 1 + sum_of components
weigh_step w (Arrow from to) = 1 + (from + to)

abbrev pub weigh_field_step : Field-F ℕ ℕ → ℕ
weigh_field_step field = field.ty

-- the size of a type where each name has a weight beside
abbrev pub weighed : (ℕ → ℕ) → Ty → ℕ
weighed w = fold-Ty ℕ ℕ (weigh_step w) weigh_field_step

-- the weight of a name: that of the body that takes its place
abbrev pub name_weight : List Realization → ℕ → ℕ
name_weight [] n = 0
name_weight (r ∷ rs) n = if n == r.name.0 then weighed (name_weight rs) r.fun.body else name_weight rs n

-- the weight of what stands at a place
abbrev pub weight_at : List Realization → Option ℕ → ℕ
weight_at rs None = 0
weight_at rs (Some p) = weighed (name_weight (drop (p + 1) rs)) (body_of (slice_get rs p))

-- the realization at a place is one whose body can take the arguments of a name
pub record CanTake (names : List TypeName) (rs : List Realization) (start : NameId) (p : ℕ) : Type 0 where
  pub within : p < length rs
  pub over : IsOver names (body_of (slice_get rs p))
  pub variables : (count : ℕ) → IsTrue (takes (slice_get names start.0) count) → VariablesBelow count (resolved (drop (p + 1) rs) (body_of (slice_get rs p)))

-- a name was followed from a place on to the one that it is by now, and to the place of that one's realization
pub record IsFollowed (names : List TypeName) (rs : List Realization) (start name : NameId) (from : ℕ) (place : Option ℕ) : Type 0 where
  pub means : (arguments : List Ty) → IsTrue (takes (slice_get names start.0) (length arguments)) → meant (drop from rs) start arguments ≡ meant_at rs name place arguments
  pub weighs : weight_at rs place ≤ name_weight (drop from rs) start.0
  pub can_take : IfSome place (CanTake names rs start)

-- a name was followed on the way, from a place to a later one
pub record IsLinked (names : List TypeName) (rs : List Realization) (start name : NameId) (from at : ℕ) : Type 0 where
  pub fits : (count : ℕ) → IsTrue (takes (slice_get names start.0) count) → IsTrue (takes (slice_get names name.0) count)
  pub means : (arguments : List Ty) → IsTrue (takes (slice_get names start.0) (length arguments)) → meant (drop from rs) start arguments ≡ meant (drop at rs) name arguments
  pub weighs : name_weight (drop at rs) name.0 ≤ name_weight (drop from rs) start.0
