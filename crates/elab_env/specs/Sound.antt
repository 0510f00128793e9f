-- What holds of every table of names.
use Rattle.std.specs.Prelude.{◌≡◌, ◌<◌, List, [], ◌∷◌, ◌++◌, IsTrue, drop, length, slice_get}
use Rattle.std.specs.List.{AllByRecursion}
use Rattle.type_core.specs.declared.names.TypeName.{TypeName}
use Rattle.type_core.specs.declared.ty.Ty.{Ty}
use Rattle.type_core.specs.InitialNames.{initial_names}
use Rattle.type_core.specs.TypeFunctions.{IsTypeFn}
use Rattle.type_core.specs.Types.{IsTypeOver, takes}
use Rattle.elab_env.specs.declared.realization.Realization.{Realization}
use Rattle.elab_env.specs.Avoids.{Avoids}
use Rattle.elab_env.specs.Names.{is_described}
use Rattle.elab_env.specs.Table.{Table}

-- a realization of one of the names: that was described, and its type function has its arity and is one over the names
pub record IsRealization (names : List TypeName) (r : Realization) : Type 0 where
  pub described : IsTrue (is_described names r.name.0)
  pub arity : IsTrue (takes (slice_get names r.name.0) r.fun.arity)
  pub function : IsTypeFn r.fun
  pub body : IsTypeOver names r.fun.body

-- each is a realization of one of the names
abbrev pub AreRealizations : List TypeName → List Realization → Type 0
AreRealizations names rs = AllByRecursion (IsRealization names) rs

-- the type mentions none of the names that were realized
abbrev pub IsResolved : List Realization → Ty → Type 0
IsResolved rs t = AllByRecursion (λ r. Avoids r.name.0 t) rs

-- no type function mentions the name that it realizes, nor one that was realized before
abbrev pub AreSettled : List Realization → Type 0
AreSettled [] = Unit {0}
AreSettled (r ∷ rs) = AllByRecursion (λ later. Avoids r.name.0 later.fun.body) (r ∷ rs) × AreSettled rs

-- the table begins with the initial names, its names can be numbered, and its realizations are settled ones of its names
pub record IsSound (table : Table) : Type 0 where
  pub initial : table.names ≡ initial_names ++ drop (length initial_names) table.names
  pub numbered : length table.names < 4294967296
  pub realizations : AreRealizations table.names table.realizations
  pub settled : AreSettled table.realizations
