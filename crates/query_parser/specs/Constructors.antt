-- What the type constructors of a query stand for.
use Rattle.std.specs.Prelude.{ℕ, ◌==◌, ◌&&◌, Bool, bytes_eq, codes, if◌then◌else◌, List, [], length, slice_get, Option, Some, None, Ok}
use Rattle.type_core.specs.declared.library.Library.{Library}
use Rattle.type_core.specs.declared.library.Tycon.{Tycon}
use Rattle.type_core.specs.declared.names.TypeName.{TypeName}
use Rattle.type_core.specs.declared.ty.Ty.{Ty}
use Rattle.type_core.specs.declared.ty.Ty.TheVariants as ty
use Rattle.type_core.specs.InitialNames.{initial_names}
use Rattle.type_core.specs.TypeFunctions.{applied}
use Rattle.type_core.specs.Types.{takes}
use Rattle.elab_types.specs.Finding.{first_given, none_of, place_of}
use Rattle.elab_types.specs.Outcome.{Outcome, checked, required}
use Rattle.elab_types.specs.Sources.{is_qualified}
use Rattle.query_parser.specs.declared.refusal.QueryWhy.{QueryWhy}
use Rattle.query_parser.specs.declared.refusal.QueryWhy.TheVariants.{Unbound, WrongArity}

-- the name of this number, applied to arguments
abbrev pub of_name : ℕ → List Ty → Ty
of_name n arguments = ty.Con (record { 0 = n }) arguments

-- the number of the first name of this path
abbrev pub number_of : List ℕ → List TypeName → Option ℕ
number_of path names = place_of (λ name. bytes_eq path name.path) names

-- an initial name, where there is one, applied to as many arguments as it takes
abbrev pub initial_applied : ℕ → Option ℕ → List Ty → Outcome QueryWhy Ty
initial_applied token number arguments =
    required number Unbound token (λ n. checked (takes (slice_get initial_names n) (length arguments)) WrongArity token (Ok (of_name n arguments)))

-- `unit`, which takes no arguments and is the tuple of none
abbrev pub unit_applied : ℕ → List Ty → Outcome QueryWhy Ty
unit_applied token arguments = checked (length arguments == 0) WrongArity token (Ok (ty.Tup []))

-- an unqualified constructor, applied: `unit`, or an initial name
abbrev pub unqualified_applied : ℕ → List ℕ → List Ty → Outcome QueryWhy Ty
unqualified_applied token id arguments = if bytes_eq id (codes "unit") then unit_applied token arguments else initial_applied token (number_of id initial_names) arguments

-- the type constructor, where it has this path
abbrev pub with_path : List ℕ → Tycon → Option Tycon
with_path path tycon = if bytes_eq path tycon.path then Some tycon else None

-- the library's type constructor of this path
abbrev pub tycon_of : List ℕ → List Tycon → Option Tycon
tycon_of path tycons = first_given (with_path path) tycons

-- whether the name is an external one of this path
abbrev pub is_external : List ℕ → TypeName → Bool
is_external path name = name.external && bytes_eq path name.path

-- the number of the external name of this path and arity
abbrev pub external_of : List ℕ → ℕ → List TypeName → Option ℕ
external_of path arity names = place_of (λ name. is_external path name && (name.arity == arity)) names

-- how a path fails of which no external name takes so many arguments: it is known where an external name has it
abbrev pub not_external : List ℕ → List TypeName → QueryWhy
not_external path names = if none_of (is_external path) names then Unbound else WrongArity

-- an external name of this path, applied to as many arguments as it takes
abbrev pub external_applied : ℕ → List ℕ → List TypeName → List Ty → Outcome QueryWhy Ty
external_applied token path names arguments = required (external_of path (length arguments) names) (not_external path names) token (λ n. Ok (of_name n arguments))

-- a qualified constructor, applied: a type constructor of the library, or else an external name
abbrev pub qualified_applied : ℕ → List ℕ → List TypeName → Option Tycon → List Ty → Outcome QueryWhy Ty
qualified_applied token path names (Some tycon) arguments = checked (length arguments == tycon.fun.arity) WrongArity token (Ok (applied tycon.fun arguments))
qualified_applied token path names None arguments = external_applied token path names arguments

-- the constructor of this path, at a token, applied to arguments
abbrev pub constructor_applied : Library → ℕ → List ℕ → List Ty → Outcome QueryWhy Ty
constructor_applied library token path arguments =
    if is_qualified path then qualified_applied token path library.names (tycon_of path library.tycons) arguments else unqualified_applied token path arguments
