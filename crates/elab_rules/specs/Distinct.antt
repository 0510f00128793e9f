-- Environments in which no identifier stands twice.
use Rattle.std.specs.Prelude.{◌≡◌, ℕ, Bool, List, Some, slice_get}
use Rattle.elab_rules.specs.declared.entry.Entry.{Entry, out-Entry}
use Rattle.elab_rules.specs.declared.entry.Entry.TheOpen.{Entry-F, Tycon, Value, Structure}
use Rattle.elab_rules.specs.Environments.{Environment, is_structure, is_type, is_value}
use Rattle.elab_types.specs.Finding.{place_of}
use Rattle.elab_rules.specs.LongIdentifiers.{structure_along}

-- whether an entry is of the kind of another one and has its identifier
abbrev pub is_like : Entry-F Entry → Entry → Bool
is_like (Tycon type) = is_type type.id
is_like (Value value) = is_value value.id
is_like (Structure id entries) = is_structure id

-- the place is that of the first entry of this kind and identifier
abbrev pub IsFirst : ℕ → Environment → Entry-F Entry → Type 0
IsFirst n env entry = place_of (is_like entry) env ≡ Some n

-- each entry is the first that has its identifier, in the environment and along each path of structures
abbrev pub AreDistinct : Environment → Type 0
AreDistinct env =
    (path : List (List ℕ)) (entries : Environment) (n : ℕ) (entry : Entry) →
    structure_along path env ≡ Some entries → slice_get entries n ≡ Some entry → IsFirst n entries (out-Entry entry)
