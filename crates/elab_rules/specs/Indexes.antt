-- Where the identifiers of environments stand.
use Rattle.std.specs.Prelude.{◌≡◌, ◌<◌, ℕ, List, [], ◌∷◌, Option, Some, None, if◌then◌else◌, length, nat_lt, slice_get}
use Rattle.std.specs.Option.{option_and_then, option_map}
use Rattle.elab_rules.specs.declared.index.Index.{Index, out-Index}
use Rattle.elab_rules.specs.declared.index.Inner.{Inner, out-Inner}
use Rattle.elab_rules.specs.Environments.{Environment, is_structure, is_type, is_value, structure_in}
use Rattle.elab_types.specs.Finding.{place_of}
use Rattle.elab_rules.specs.LongIdentifiers.{structure_along}
use Rattle.elab_types.specs.Places.{place_at}

-- the index at a number
abbrev pub inner_at : Index → Option ℕ → Option Inner
inner_at index None = None
inner_at index (Some n) = slice_get (out-Index index).inner n

-- the place of a structure, with its index
abbrev pub inner_of : List ℕ → Index → Option Inner
inner_of id index = inner_at index (place_at (out-Index index).structures id)

-- the index along a path of structures
abbrev pub index_along : List (List ℕ) → Index → Option Index
index_along [] index = Some index
index_along (id ∷ ids) index = option_and_then (λ inner. index_along ids (out-Inner inner).index) (inner_of id index)

-- an index has for each identifier the place of the first entry of the environment that has it, and an index for each
-- structure that it knows
pub record IsLevel (index : Index) (env : Environment) : Type 0 where
  pub types : (id : List ℕ) → place_at (out-Index index).types id ≡ place_of (is_type id) env
  pub values : (id : List ℕ) → place_at (out-Index index).values id ≡ place_of (is_value id) env
  pub structures : (id : List ℕ) → option_map (λ inner. (out-Inner inner).place) (inner_of id index) ≡ place_of (is_structure id) env
  pub within : (id : List ℕ) (n : ℕ) → place_at (out-Index index).structures id ≡ Some n → n < length (out-Index index).inner

-- the same along each path of structures
abbrev pub IsIndex : Index → Environment → Type 0
IsIndex index env =
    (path : List (List ℕ)) (inner : Index) (entries : Environment) →
    index_along path index ≡ Some inner → structure_along path env ≡ Some entries → IsLevel inner entries

-- the place, if it is one of the first
abbrev pub below : Option ℕ → ℕ → Option ℕ
below None count = None
below (Some place) count = if nat_lt place count then Some place else None

-- an index of an environment of which the entries are the first: each of their identifiers has its place, and what further
-- identifiers have isn't looked at
pub record IsSeen (index : Index) (seen : Environment) : Type 0 where
  pub types : (id : List ℕ) → below (place_at (out-Index index).types id) (length seen) ≡ place_of (is_type id) seen
  pub values : (id : List ℕ) → below (place_at (out-Index index).values id) (length seen) ≡ place_of (is_value id) seen
  pub structures : (id : List ℕ) → below (option_map (λ inner. (out-Inner inner).place) (inner_of id index)) (length seen) ≡ place_of (is_structure id) seen
  pub within : (id : List ℕ) (inner : Inner) (entries : Environment) → inner_of id index ≡ Some inner → structure_in id seen ≡ Some entries → IsIndex (out-Inner inner).index entries
