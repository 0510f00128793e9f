-- Identifiers in bodies, by their places.
use Rattle.std.proofs.Common.{◌≡◌, ℕ, Bool, true, false, if◌then◌else◌, List, bytes_eq, Some, None}
use Rattle.elab_rules.specs.declared.entry.TypeEntry.{TypeEntry}
use Rattle.elab_rules.specs.declared.entry.ValueEntry.{ValueEntry}
use Rattle.elab_rules.specs.declared.entry.Entry.{Entry, out-Entry}
use Rattle.elab_rules.specs.declared.entry.Entry.TheOpen.{Entry-F, Tycon, Value, Structure}
use Rattle.elab_rules.specs.Environments.{Environment, is_type, is_value, type_at, type_in, type_of, type_step, value_at, value_in, value_of, value_step}
use Rattle.elab_types.specs.Finding.{place_of}
use Rattle.elab_types.proofs.FirstPlaces.{given_at, given_by_place}

-- ---- an entry of an identifier
pub some_if : {A : Type 0} (b : Bool) (x y : A) → (if b then Some x else None) ≡ Some y → Some x ≡ Some y
some_if true x y e = e
some_if false x y e = cc

type_plain : (id : List ℕ) (e : Entry-F Entry) (type : TypeEntry) → type_at id e ≡ Some type → type_step e ≡ Some type
type_plain id (Tycon entry) type is = some_if (bytes_eq id entry.id) entry type is
type_plain id (Value entry) type is = cc
type_plain id (Structure name entries) type is = cc

value_plain : (id : List ℕ) (e : Entry-F Entry) (value : ValueEntry) → value_at id e ≡ Some value → value_step e ≡ Some value
value_plain id (Tycon entry) value is = cc
value_plain id (Value entry) value is = some_if (bytes_eq id entry.id) entry value is
value_plain id (Structure name entries) value is = cc

pub type_by_place : (id : List ℕ) (env : Environment) → type_in id env ≡ given_at (λ e. type_step (out-Entry e)) env (place_of (is_type id) env)
type_by_place id env = given_by_place (type_of id) (λ e. type_step (out-Entry e)) (λ e. type_plain id (out-Entry e)) env

pub value_by_place : (id : List ℕ) (env : Environment) → value_in id env ≡ given_at (λ e. value_step (out-Entry e)) env (place_of (is_value id) env)
value_by_place id env = given_by_place (value_of id) (λ e. value_step (out-Entry e)) (λ e. value_plain id (out-Entry e)) env
