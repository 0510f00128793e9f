-- What a table of names says.
use Rattle.std.specs.Prelude.{ℕ, ◌==◌, ◌&&◌, ◌||◌, Bool, false, not, max, min, if◌then◌else◌, List, [], ◌∷◌, slice_get}
use Rattle.type_core.specs.declared.names.TypeName.{TypeName}
use Rattle.elab_env.specs.declared.realization.Realization.{Realization}
use Rattle.elab_env.specs.Names.{arity_of, equality_at, is_described, joined_equality, with_equality}
use Rattle.elab_env.specs.Parameters.{name_function}

-- a table: all names in the order of their numbers, and the realizations in the order in which they were made
pub record Table : Type 0 where
  pub names : List TypeName
  pub realizations : List Realization

-- whether the name with this number is one of those that were realized
abbrev pub is_realized : List Realization → ℕ → Bool
is_realized [] n = false
is_realized (r ∷ rs) n = (n == r.name.0) || is_realized rs n

-- whether the name with this number is free: it was described, and neither realized nor joined away
abbrev pub is_free : Table → ℕ → Bool
is_free table n = is_described table.names n && not (is_realized table.realizations n)

-- what joining two names realizes: nothing where they are one name, else the greater by the lesser
abbrev pub joining : List TypeName → ℕ → ℕ → List Realization
joining names a b =
    if a == b then []
    else record { name = record { 0 = max a b }; fun = name_function (min a b) (arity_of (slice_get names a)) } ∷ []

-- the names after two of them were joined: the lesser has the equality of both
abbrev pub with_joined : ℕ → ℕ → List TypeName → List TypeName
with_joined a b names =
    if a == b then names
    else with_equality (min a b) (joined_equality (equality_at names (min a b)) (equality_at names (max a b))) names
