-- What is answered for the type of a term: the type that it has, or that it has none.
use Rattle.std.specs.Prelude.{◌≡◌, ℕ, ◌==◌, if◌then◌else◌, List, length, slice_get, Option, option_map, Some, None, zero, suc}
use Rattle.type_core.specs.declared.ty.Ty.{Ty, out-Ty}
use Rattle.type_core.specs.declared.ty.Field.{Field}
use Rattle.type_core.specs.declared.ty.Ty.TheVariants as ty
use Rattle.type_core.specs.declared.ty.Ty.TheOpen.{Ty-F, Tup}
use Rattle.type_core.specs.Types.{is_type}
use Rattle.conv_terms.specs.declared.term.Term.{Term}
use Rattle.conv_typing.specs.Typing.{HasType, HaveTypes}

-- the term has this type, or it has none
abbrev pub IsTypeOf : List Ty → Term → Option Ty → Type 0
IsTypeOf ctx t (Some a) = HasType ctx t a
IsTypeOf ctx t None = (a : Ty) → ¬ (HasType ctx t a)

-- the terms have these types, or one of them has none
abbrev pub AreTypesOf : List Ty → List Term → Option (List Ty) → Type 0
AreTypesOf ctx terms (Some types) = HaveTypes ctx terms types
AreTypesOf ctx terms None = (types : List Ty) → ¬ (HaveTypes ctx terms types)

-- this, where it is a type
abbrev pub if_type : Option Ty → Option Ty
if_type (Some a) = if is_type a then Some a else None
if_type None = None

-- the function type from this one to that one, where the first is a type
abbrev pub function_from : Ty → Option Ty → Option Ty
function_from a b = if is_type a then option_map (ty.Arrow a) b else None

-- a function type to this one, and its argument's type; or there is no such function type
abbrev pub IsResult : Option Ty → Option Ty → Option Ty → Type 0
IsResult function argument (Some b) = (a : Ty) × (function ≡ Some (ty.Arrow a b)) × (argument ≡ Some a)
IsResult function argument None = (a b : Ty) → function ≡ Some (ty.Arrow a b) → ¬ (argument ≡ Some a)

-- the tuple type of these components, unless there is one of them
abbrev pub tuple_of : Option (List Ty) → Option Ty
tuple_of (Some types) = if length types == 1 then None else Some (ty.Tup types)
tuple_of None = None

-- the type at a place that is counted from 1
abbrev pub from_one : List Ty → ℕ → Option Ty
from_one types zero = None
from_one types (suc i) = slice_get types i

-- component i where this is a tuple type of n components, n not being 1
abbrev pub component_step : ℕ → ℕ → Ty-F Ty Field → Option Ty
component_step i n (Tup types) = if length types == n then (if n == 1 then None else from_one types i) else None
component_step i n _ = None

-- component i of a tuple type of n components, n not being 1
abbrev pub component : ℕ → ℕ → Option Ty → Option Ty
component i n (Some t) = component_step i n (out-Ty t)
component i n None = None
