-- What is asked of a list of names and what becomes of it.
use Rattle.std.specs.Prelude.{ℕ, zero, suc, ◌==◌, ◌&&◌, Bool, true, false, not, if◌then◌else◌, List, [], ◌∷◌, ◌++◌, Option, Some, None, bytes_eq, length, nat_le, slice_get}
use Rattle.std.specs.Option.{option_map}
use Rattle.type_core.specs.declared.names.Equality.{Equality}
use Rattle.type_core.specs.declared.names.Equality.TheVariants.{Never, IfArgs, Always}
use Rattle.type_core.specs.declared.names.TypeName.{TypeName}
use Rattle.type_core.specs.AdmitsEquality.{attribute_of}
use Rattle.type_core.specs.InitialNames.{initial_names}

-- the arity of a name: that of a name that there isn't is 0
abbrev pub arity_of : Option TypeName → ℕ
arity_of None = 0
arity_of (Some name) = name.arity

-- a name that a file describes
abbrev pub described : List ℕ → ℕ → Equality → TypeName
described path arity equality = record { path = path; arity = arity; equality = equality; external = false }

-- a name that a file only mentions
abbrev pub external : List ℕ → ℕ → TypeName
external path arity = record { path = path; arity = arity; equality = IfArgs; external = true }

-- whether it is the external name of this path and arity
abbrev pub is_external : List ℕ → ℕ → TypeName → Bool
is_external path arity name = name.external && ((arity == name.arity) && bytes_eq path name.path)

-- the number of the external name of this path and arity, if it is among them
abbrev pub external_number : List ℕ → ℕ → List TypeName → Option ℕ
external_number path arity [] = None
external_number path arity (name ∷ names) = if is_external path arity name then Some 0 else option_map suc (external_number path arity names)

-- the names with one more at the end, where it has no number among them
abbrev pub or_added : List TypeName → TypeName → Option ℕ → List TypeName
or_added names name None = names ++ name ∷ []
or_added names name (Some n) = names

-- the names, and the external name of this path and arity at the end where it isn't among them
abbrev pub with_external : List ℕ → ℕ → List TypeName → List TypeName
with_external path arity names = or_added names (external path arity) (external_number path arity names)

-- the names, with another equality of the one with this number
abbrev pub with_equality : ℕ → Equality → List TypeName → List TypeName
with_equality n equality [] = []
with_equality zero equality (name ∷ names) = record { path = name.path; arity = name.arity; equality = equality; external = name.external } ∷ names
with_equality (suc n) equality (name ∷ names) = name ∷ with_equality n equality names

-- the equality of two names that are one: `IfArgs` where one of them has it, else that of the first
abbrev pub joined_equality : Equality → Equality → Equality
joined_equality IfArgs b = IfArgs
joined_equality Never IfArgs = IfArgs
joined_equality Always IfArgs = IfArgs
joined_equality Never Never = Never
joined_equality Never Always = Never
joined_equality Always Never = Always
joined_equality Always Always = Always

-- the equality of the name with this number
abbrev pub equality_at : List TypeName → ℕ → Equality
equality_at names n = attribute_of (slice_get names n)

-- whether a name that a file may describe stands here
abbrev pub is_own : Option TypeName → Bool
is_own None = false
is_own (Some name) = not name.external

-- whether the name with this number was described: it is neither initial nor external
abbrev pub is_described : List TypeName → ℕ → Bool
is_described names n = nat_le (length initial_names) n && is_own (slice_get names n)
