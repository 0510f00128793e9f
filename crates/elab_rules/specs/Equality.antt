-- Which names of a group of datatypes admit equality (the Definition, section 4.9 and rule 71).
use Rattle.std.specs.Prelude.{ℕ, zero, suc, ◌+◌, ◌||◌, Bool, true, false, List, [], ◌∷◌, map, slice_get}
use Rattle.type_core.specs.declared.names.Equality.{Equality}
use Rattle.type_core.specs.declared.names.Equality.TheVariants.{Never, IfArgs, Always}
use Rattle.type_core.specs.declared.names.TypeName.{TypeName}
use Rattle.type_core.specs.declared.ty.Ty.{Ty, out-Ty}
use Rattle.type_core.specs.declared.ty.Field.{Field}
use Rattle.type_core.specs.declared.ty.Ty.TheOpen.{Ty-F, Field-F, Var, Con, Rec, Tup, Arrow}
use Rattle.type_core.specs.declared.ty.Ty.TheFolds.{fold-Ty, fold-Field}
use Rattle.type_core.specs.AdmitsEquality.{by_attribute, attribute_of}
use Rattle.type_core.specs.Lists.{all_true}
use Rattle.elab_env.specs.Names.{with_equality}
use Rattle.elab_rules.specs.declared.entry.Entry.{Entry, out-Entry}
use Rattle.elab_rules.specs.declared.entry.Entry.TheOpen.{Entry-F, Value}
use Rattle.elab_rules.specs.Environments.{Environment}

-- variables are taken as admitting equality; an application does so by its name and its arguments, tuples and
-- records where all their parts do, an arrow never
abbrev pub admits_step : List TypeName → Ty-F Bool Bool → Bool
admits_step names (Var v) = true
admits_step names (Con name arguments) = by_attribute (attribute_of (slice_get names name.0)) arguments
admits_step names (Rec fields) = all_true fields
admits_step names (Tup components) = all_true components
admits_step names (Arrow from to) = false

abbrev pub admits_field_step : Field-F Bool Bool → Bool
admits_field_step field = field.ty

-- whether the type admits equality where all its variables do
abbrev pub admits : List TypeName → Ty → Bool
admits names = fold-Ty Bool Bool (admits_step names) admits_field_step

abbrev pub field_admits : List TypeName → Field → Bool
field_admits names = fold-Field Bool Bool (admits_step names) admits_field_step

-- whether a name of this attribute admits no equality at all
abbrev pub is_never : Equality → Bool
is_never Never = true
is_never IfArgs = false
is_never Always = false

-- whether the argument of a constructor admits equality, if the name that it makes does
abbrev pub result_fits : List TypeName → Ty → Ty-F Ty Field → Bool
result_fits names argument (Con name arguments) = is_never (attribute_of (slice_get names name.0)) || admits names argument
result_fits names argument _ = true

abbrev pub type_fits : List TypeName → Ty-F Ty Field → Bool
type_fits names (Arrow from to) = result_fits names from (out-Ty to)
type_fits names _ = true

abbrev pub entry_fits : List TypeName → Entry-F Entry → Bool
entry_fits names (Value value) = type_fits names (out-Ty value.scheme.body)
entry_fits names _ = true

-- whether all constructors among the entries fit: where the name that one makes admits equality, its argument does
abbrev pub all_fit : List TypeName → Environment → Bool
all_fit names entries = all_true (map (λ entry. entry_fits names (out-Entry entry)) entries)

-- the equality of a name of the group: as its arguments do where it is chosen, else never
abbrev pub by_choice : Bool → Equality
by_choice true = IfArgs
by_choice false = Never

-- names where those from number n on are settled by a choice
abbrev pub with_choice : ℕ → List Bool → List TypeName → List TypeName
with_choice n [] names = names
with_choice n (is_chosen ∷ choice) names = with_choice (n + 1) choice (with_equality n (by_choice is_chosen) names)

-- whether some choice among so many names passes the test
abbrev pub some_choice : ℕ → (List Bool → Bool) → Bool
some_choice zero test = test []
some_choice (suc count) test = some_choice count (λ choice. test (true ∷ choice)) || some_choice count (λ choice. test (false ∷ choice))

-- the union of the choices among so many names that pass the test: it has the first name where one of them has it,
-- and of the others what one of them has
abbrev pub union : ℕ → (List Bool → Bool) → List Bool
union zero test = []
union (suc count) test = some_choice count (λ choice. test (true ∷ choice)) ∷ union count (λ choice. test (true ∷ choice) || test (false ∷ choice))

-- the greatest choice of so many names from n on for which all constructors fit: the union of all such choices, which
-- has a name exactly where one of them has it
unfoldable pub greatest : ℕ → ℕ → Environment → List TypeName → List Bool
greatest n count entries names = union count (λ choice. all_fit (with_choice n choice names) entries)

-- the names, of which so many from n on admit equality where the greatest choice has them
abbrev pub with_greatest : ℕ → ℕ → Environment → List TypeName → List TypeName
with_greatest n count entries names = with_choice n (greatest n count entries names) names
