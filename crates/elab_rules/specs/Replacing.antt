-- Environments in which a name is replaced, and which names may be replaced (the Definition, sections 5.2 and 5.7).
use Rattle.std.specs.Prelude.{ℕ, ◌&&◌, nat_le, if◌then◌else◌, Option, Some, None, map}
use Rattle.std.specs.Option.{option_and_then}
use Rattle.type_core.specs.declared.ty.Ty.{Ty, out-Ty}
use Rattle.type_core.specs.declared.ty.Field.{Field}
use Rattle.type_core.specs.declared.ty.Ty.TheOpen.{Ty-F, Var, Con, Rec, Tup, Arrow}
use Rattle.type_core.specs.declared.type_fn.TypeFn.{TypeFn}
use Rattle.type_core.specs.EqualTypes.{types_equal}
use Rattle.type_core.specs.Schemes.{closed}
use Rattle.elab_env.specs.declared.realization.Realization.{Realization}
use Rattle.elab_env.specs.Parameters.{name_function}
use Rattle.elab_env.specs.Realizations.{replaced}
use Rattle.elab_rules.specs.declared.entry.TypeEntry.{TypeEntry}
use Rattle.elab_rules.specs.declared.entry.ValueEntry.{ValueEntry}
use Rattle.elab_rules.specs.declared.entry.Entry.{Entry}
use Rattle.elab_rules.specs.declared.entry.Entry.TheOpen.{Entry-F, Tycon, Value, Structure}
use Rattle.elab_rules.specs.declared.entry.Entry.TheFolds.{fold-Entry}
use Rattle.elab_rules.specs.Environments.{Environment, the_structure, the_type, the_value}
use Rattle.elab_rules.specs.States.{State, is_free}

-- a type constructor whose body is changed, and a value whose type is, which is closed again
abbrev pub type_with : (Ty → Ty) → TypeEntry → TypeEntry
type_with g entry = record { id = entry.id; fun = record { arity = entry.fun.arity; body = g entry.fun.body }; constructors = entry.constructors }

abbrev pub value_with : (Ty → Ty) → ValueEntry → ValueEntry
value_with g entry = record { id = entry.id; kind = entry.kind; scheme = closed (g entry.scheme.body) }

abbrev pub with_step : (Ty → Ty) → Entry-F Entry → Entry
with_step g (Tycon entry) = the_type (type_with g entry)
with_step g (Value entry) = the_value (value_with g entry)
with_step g (Structure id entries) = the_structure id entries

-- an entry with each of its types changed
abbrev pub entry_with : (Ty → Ty) → Entry → Entry
entry_with g = fold-Entry Entry (with_step g)

-- an environment with each type changed
abbrev pub environment_with : (Ty → Ty) → Environment → Environment
environment_with g env = map (entry_with g) env

-- an environment in which a name is replaced throughout
abbrev pub replaced_in : Realization → Environment → Environment
replaced_in r env = environment_with (replaced r) env

abbrev pub head_step : Ty-F Ty Field → Option ℕ
head_step (Var v) = None
head_step (Con name arguments) = Some name.0
head_step (Rec fields) = None
head_step (Tup components) = None
head_step (Arrow from to) = None

-- the number, where the type function is that name applied to its parameters in order
abbrev pub if_denoted : TypeFn → ℕ → Option ℕ
if_denoted f n = if types_equal f.body (name_function n f.arity).body then Some n else None

-- the name that a type function denotes, if it is one applied to its parameters in order
abbrev pub denoted : TypeFn → Option ℕ
denoted f = option_and_then (if_denoted f) (head_step (out-Ty f.body))

-- the number, where the name was made from a number on and is free
abbrev pub if_flexible : ℕ → State → ℕ → Option ℕ
if_flexible base s n = if nat_le base n && is_free s n then Some n else None

-- the flexible name that a type function denotes, for an expression that began with so many names
abbrev pub flexible : ℕ → State → TypeFn → Option ℕ
flexible base s f = option_and_then (if_flexible base s) (denoted f)
