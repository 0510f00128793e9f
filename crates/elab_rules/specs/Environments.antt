-- Environments, and what an identifier is in them.
use Rattle.std.specs.Prelude.{ℕ, Bool, is_some, bytes_eq, if◌then◌else◌, List, [], ◌∷◌, ◌++◌, Option, Some, None}
use Rattle.std.specs.Option.{option_and_then, option_to_list}
use Rattle.elab_rules.specs.declared.entry.TypeEntry.{TypeEntry}
use Rattle.elab_rules.specs.declared.entry.ValueEntry.{ValueEntry}
use Rattle.elab_rules.specs.declared.entry.Entry.{Entry, out-Entry}
use Rattle.elab_rules.specs.declared.entry.Entry.TheVariants as entry
use Rattle.elab_types.specs.Finding.{first_given, none_of}
use Rattle.elab_rules.specs.declared.entry.Entry.TheOpen.{Entry-F, Tycon, Value, Structure}

-- a type constructor, a value and a structure as entries
abbrev pub the_type : TypeEntry → Entry
the_type type = entry.Tycon type

abbrev pub the_value : ValueEntry → Entry
the_value value = entry.Value value

abbrev pub the_structure : List ℕ → List Entry → Entry
the_structure id entries = entry.Structure id entries

-- what is described, in the order of description
abbrev pub Environment : Type 0
Environment = List Entry

abbrev pub type_at : List ℕ → Entry-F Entry → Option TypeEntry
type_at id (Tycon entry) = (if bytes_eq id entry.id then Some entry else None)
type_at id _ = None

abbrev pub value_at : List ℕ → Entry-F Entry → Option ValueEntry
value_at id (Value entry) = (if bytes_eq id entry.id then Some entry else None)
value_at id _ = None

-- the entry as a type constructor of this identifier
abbrev pub type_of : List ℕ → Entry → Option TypeEntry
type_of id entry = type_at id (out-Entry entry)

-- the entry as a value of this identifier
abbrev pub value_of : List ℕ → Entry → Option ValueEntry
value_of id entry = value_at id (out-Entry entry)

-- whether the entry is a type constructor of this identifier
abbrev pub is_type : List ℕ → Entry → Bool
is_type id entry = is_some (type_of id entry)

-- whether the entry is a value of this identifier
abbrev pub is_value : List ℕ → Entry → Bool
is_value id entry = is_some (value_of id entry)

abbrev pub structure_at : List ℕ → Entry-F Entry → Option Environment
structure_at id (Structure name entries) = (if bytes_eq id name then Some entries else None)
structure_at id _ = None

-- what the entry has, as a structure of this identifier
abbrev pub structure_of : List ℕ → Entry → Option Environment
structure_of id entry = structure_at id (out-Entry entry)

-- whether the entry is a structure of this identifier
abbrev pub is_structure : List ℕ → Entry → Bool
is_structure id entry = is_some (structure_of id entry)

abbrev pub type_step : Entry-F Entry → Option TypeEntry
type_step (Tycon type) = Some type
type_step _ = None

abbrev pub value_step : Entry-F Entry → Option ValueEntry
value_step (Value value) = Some value
value_step _ = None

-- the type constructor, or the value, that an entry is
abbrev pub type_entry : Option Entry → Option TypeEntry
type_entry found = option_and_then (λ entry. type_step (out-Entry entry)) found

abbrev pub value_entry : Option Entry → Option ValueEntry
value_entry found = option_and_then (λ entry. value_step (out-Entry entry)) found

-- the type constructor of this identifier
abbrev pub type_in : List ℕ → Environment → Option TypeEntry
type_in id env = first_given (type_of id) env

-- the value of this identifier
abbrev pub value_in : List ℕ → Environment → Option ValueEntry
value_in id env = first_given (value_of id) env

-- what the structure of this identifier has
abbrev pub structure_in : List ℕ → Environment → Option Environment
structure_in id env = first_given (structure_of id) env

-- whether no structure has the identifier
abbrev pub is_new_structure : List ℕ → Environment → Bool
is_new_structure id env = none_of (is_structure id) env

-- whether no type constructor has the identifier
abbrev pub is_new_type : List ℕ → Environment → Bool
is_new_type id env = none_of (is_type id) env

-- whether no value has the identifier
abbrev pub is_new_value : List ℕ → Environment → Bool
is_new_value id env = none_of (is_value id) env

-- the values of these identifiers; an identifier that no value has is passed over
abbrev pub values_in : List (List ℕ) → Environment → List ValueEntry
values_in [] env = []
values_in (id ∷ ids) env = option_to_list (value_in id env) ++ values_in ids env
