-- The numbers of external names.
use Rattle.std.specs.Prelude.{◌≡◌, ℕ, ◌==◌, ◌&&◌, if◌then◌else◌, List, Option, Some, None, bytes_eq}
use Rattle.std.specs.HashMap.{get_by}
use Rattle.type_core.specs.declared.names.TypeName.{TypeName}
use Rattle.elab_env.specs.declared.externals.Externals.{Externals}
use Rattle.elab_env.specs.Names.{external_number, is_external}

-- the number that is held for a path and an arity
abbrev pub number_held : Externals → List ℕ → ℕ → Option ℕ
number_held externals path arity = get_by (λ key. (arity == key.0) && bytes_eq path key.1.items) externals.numbers

-- the number for a path and an arity after one more name, with this number: that of before, where there was one
abbrev pub number_with : TypeName → ℕ → List ℕ → ℕ → Option ℕ → Option ℕ
number_with name n path arity (Some m) = Some m
number_with name n path arity None = if is_external path arity name then Some n else None

-- a number is held for each external name of the list, and for no other path and arity
abbrev pub AreNumbered : List TypeName → Externals → Type 0
AreNumbered names externals = (path : List ℕ) (arity : ℕ) → number_held externals path arity ≡ external_number path arity names
