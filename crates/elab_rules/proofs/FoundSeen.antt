-- Finding in what is seen of an environment, by the places of its index.
use Rattle.std.proofs.Common.{◌≡◌, ℕ, ◌<◌, ◌&&◌, Bool, not, is_some, bytes_eq, List, [], ◌∷◌, length, get_or, slice_get, Option, Some, None, refl, sym, ap, ◌∙◌}
use Rattle.std.specs.Option.{option_and_then, option_map, option_or}
use Rattle.std.proofs.lemmas.Option.{slice_get_read}
use Rattle.elab_rules.specs.declared.entry.Entry.{Entry, out-Entry}
use Rattle.elab_rules.specs.declared.entry.Entry.TheOpen.{Entry-F, Tycon, Value, Structure}
use Rattle.elab_rules.specs.declared.entry.Entry.TheVariants as entry
use Rattle.elab_rules.specs.declared.entry.TypeEntry.{TypeEntry}
use Rattle.elab_rules.specs.declared.entry.ValueEntry.{ValueEntry}
use Rattle.elab_rules.specs.declared.index.Index.{Index, out-Index}
use Rattle.elab_rules.specs.declared.index.Inner.{Inner, out-Inner}
use Rattle.elab_rules.specs.Environments.{Environment, structure_at, structure_in, structure_of, type_in, type_step, value_in, value_step}
use Rattle.elab_types.specs.Finding.{first_given, none_of}
use Rattle.elab_rules.specs.Indexes.{IsSeen, below, inner_at, inner_of}
use Rattle.elab_types.specs.Places.{place_at}
use Rattle.elab_rules.proofs.Bodies.{some_if, type_by_place, value_by_place}
use Rattle.elab_rules.proofs.Entries.{induct_entry, out_structure, out_type, out_value}
use Rattle.elab_types.proofs.FirstPlaces.{given_at, given_by_place, is_none_by}
use Rattle.elab_rules.proofs.SeenEntries.{seen_whole}

-- ---- what an entry is as a structure
abbrev structure_step : Entry-F Entry → Option Environment
structure_step (Structure id entries) = Some entries
structure_step (Tycon type) = None
structure_step (Value value) = None

structure_plain : (id : List ℕ) (e : Entry-F Entry) (entries : Environment) → structure_at id e ≡ Some entries → structure_step e ≡ Some entries
structure_plain id (Tycon type) entries is = cc
structure_plain id (Value value) entries is = cc
structure_plain id (Structure name inner) entries is = some_if (bytes_eq id name) inner entries is

-- ---- at the place that is known, if there is one
module _ (index : Index) (env : Environment) (id : List ℕ) (place : Option ℕ) (seen : IsSeen index env) where
  type_seen : place ≡ below (place_at (out-Index index).types id) (length env) → type_in id env ≡ given_at (λ e. type_step (out-Entry e)) env place
  type_seen is = type_by_place id env ∙ ap (given_at (λ e. type_step (out-Entry e)) env) (sym (is ∙ seen.types id))

  value_seen : place ≡ below (place_at (out-Index index).values id) (length env) → value_in id env ≡ given_at (λ e. value_step (out-Entry e)) env place
  value_seen is = value_by_place id env ∙ ap (given_at (λ e. value_step (out-Entry e)) env) (sym (is ∙ seen.values id))

  structure_seen : place ≡ below (option_map (λ (i : Inner). (out-Inner i).place) (inner_of id index)) (length env) → structure_in id env ≡ given_at (λ e. structure_step (out-Entry e)) env place
  structure_seen is =
      given_by_place (structure_of id) (λ e. structure_step (out-Entry e)) (λ e. structure_plain id (out-Entry e)) env
      ∙ ap (given_at (λ e. structure_step (out-Entry e)) env) (sym (is ∙ seen.structures id))

-- ---- what an entry isn't
not_type : (e : Entry) → ((type : TypeEntry) → e ≡ entry.Tycon type → ⊥) → type_step (out-Entry e) ≡ None
not_type = induct_entry (λ e. ((type : TypeEntry) → e ≡ entry.Tycon type → ⊥) → type_step (out-Entry e) ≡ None)
    (λ type no. absurd (no type refl)) (λ value no. ap type_step (out_value value)) (λ id es hs no. ap type_step (out_structure id es))

not_value : (e : Entry) → ((value : ValueEntry) → e ≡ entry.Value value → ⊥) → value_step (out-Entry e) ≡ None
not_value = induct_entry (λ e. ((value : ValueEntry) → e ≡ entry.Value value → ⊥) → value_step (out-Entry e) ≡ None)
    (λ type no. ap value_step (out_type type)) (λ value no. absurd (no value refl)) (λ id es hs no. ap value_step (out_structure id es))

not_structure : (e : Entry) → ((id : List ℕ) (entries : Environment) → e ≡ entry.Structure id entries → ⊥) → structure_step (out-Entry e) ≡ None
not_structure = induct_entry (λ e. ((id : List ℕ) (entries : Environment) → e ≡ entry.Structure id entries → ⊥) → structure_step (out-Entry e) ≡ None)
    (λ type no. ap structure_step (out_type type)) (λ value no. ap structure_step (out_value value)) (λ id es hs no. absurd (no id es refl))

-- ---- the entry at the place
given_there : {B : Type 0} (plain : Entry → Option B) (env : Environment) (place : Option ℕ) (p : ℕ) (e : Entry) → place ≡ Some p → p < length env → e ≡ get_or env p e → given_at plain env place ≡ plain e
given_there plain env place p e is within here = ap (given_at plain env) is ∙ ap (option_and_then plain) (slice_get_read env (length env) p e refl within here)

module _ (index : Index) (env : Environment) (id : List ℕ) (known place : Option ℕ) (seen : IsSeen index env) where
  module _ (found : known ≡ place_at (out-Index index).types id) (front : place ≡ below known (length env)) where
    type_given : type_in id env ≡ given_at (λ e. type_step (out-Entry e)) env place
    type_given = type_seen index env id place seen (front ∙ ap (λ o. below o (length env)) found)

    pub type_nowhere : place ≡ None → None ≡ type_in id env
    type_nowhere none = sym (type_given ∙ ap (given_at (λ e. type_step (out-Entry e)) env) none)

    module _ (p : ℕ) (e : Entry) (at : place ≡ Some p) (within : p < length env) (here : e ≡ get_or env p e) where
      pub type_here : (type : TypeEntry) → e ≡ entry.Tycon type → Some type ≡ type_in id env
      type_here type is = sym (type_given ∙ given_there (λ x. type_step (out-Entry x)) env place p e at within here ∙ ap type_step (ap out-Entry is ∙ out_type type))

      pub no_type_here : ((type : TypeEntry) → e ≡ entry.Tycon type → ⊥) → None ≡ type_in id env
      no_type_here other = sym (type_given ∙ given_there (λ x. type_step (out-Entry x)) env place p e at within here ∙ not_type e other)

  module _ (found : known ≡ place_at (out-Index index).values id) (front : place ≡ below known (length env)) where
    value_given : value_in id env ≡ given_at (λ e. value_step (out-Entry e)) env place
    value_given = value_seen index env id place seen (front ∙ ap (λ o. below o (length env)) found)

    pub value_nowhere : place ≡ None → None ≡ value_in id env
    value_nowhere none = sym (value_given ∙ ap (given_at (λ e. value_step (out-Entry e)) env) none)

    module _ (p : ℕ) (e : Entry) (at : place ≡ Some p) (within : p < length env) (here : e ≡ get_or env p e) where
      pub value_here : (value : ValueEntry) → e ≡ entry.Value value → Some value ≡ value_in id env
      value_here value is = sym (value_given ∙ given_there (λ x. value_step (out-Entry x)) env place p e at within here ∙ ap value_step (ap out-Entry is ∙ out_value value))

      pub no_value_here : ((value : ValueEntry) → e ≡ entry.Value value → ⊥) → None ≡ value_in id env
      no_value_here other = sym (value_given ∙ given_there (λ x. value_step (out-Entry x)) env place p e at within here ∙ not_value e other)

-- ---- the index of a structure
inner_known : (index : Index) (id : List ℕ) (known : Option ℕ) (n : ℕ) (o : Option Inner) → known ≡ place_at (out-Index index).structures id → known ≡ Some n → o ≡ slice_get (out-Index index).inner n → inner_of id index ≡ o
inner_known index id known n o found is at = ap (inner_at index) (sym found ∙ is) ∙ sym at

module _ (index : Index) (env : Environment) (id : List ℕ) (known : Option ℕ) (seen : IsSeen index env) (found : known ≡ place_at (out-Index index).structures id) where
  nothing_known : inner_of id index ≡ None → None ≡ structure_in id env
  nothing_known none = sym (structure_seen index env id None seen (sym (ap (λ (o : Option Inner). below (option_map (λ (i : Inner). (out-Inner i).place) o) (length env)) none)))

  pub structure_unknown : known ≡ None → None ≡ structure_in id env
  structure_unknown none = nothing_known (ap (inner_at index) (sym found ∙ none))

  module _ (n : ℕ) (is : known ≡ Some n) where
    pub no_inner : None ≡ slice_get (out-Index index).inner n → None ≡ structure_in id env
    no_inner at = nothing_known (inner_known index id known n None found is at)

    module _ (inner : Inner) (at : Some inner ≡ slice_get (out-Index index).inner n) (place : Option ℕ) (front : place ≡ below (Some (out-Inner inner).place) (length env)) where
      inner_is : inner_of id index ≡ Some inner
      inner_is = inner_known index id known n (Some inner) found is at

      structure_given : structure_in id env ≡ given_at (λ e. structure_step (out-Entry e)) env place
      structure_given = structure_seen index env id place seen (front ∙ sym (ap (λ (o : Option Inner). below (option_map (λ (i : Inner). (out-Inner i).place) o) (length env)) inner_is))

      pub structure_nowhere : place ≡ None → None ≡ structure_in id env
      structure_nowhere none = sym (structure_given ∙ ap (given_at (λ e. structure_step (out-Entry e)) env) none)

      module _ (p : ℕ) (e : Entry) (there : place ≡ Some p) (within : p < length env) (here : e ≡ get_or env p e) where
        pub no_structure_here : ((name : List ℕ) (entries : Environment) → e ≡ entry.Structure name entries → ⊥) → None ≡ structure_in id env
        no_structure_here other = sym (structure_given ∙ given_there (λ x. structure_step (out-Entry x)) env place p e there within here ∙ not_structure e other)

        module _ (name : List ℕ) (entries items : Environment) (form : e ≡ entry.Structure name entries) (same : items ≡ entries) where
          pub structure_here : Some items ≡ structure_in id env
          structure_here =
              ap (λ es. Some es) same
              ∙ sym (structure_given ∙ given_there (λ x. structure_step (out-Entry x)) env place p e there within here ∙ ap structure_step (ap out-Entry form ∙ out_structure name entries))

          -- what it has is seen whole
          pub inside_seen : IsSeen (out-Inner inner).index items
          inside_seen = seen_whole (out-Inner inner).index items (seen.within id inner items inner_is (sym structure_here))

-- ---- whether an identifier is new
none_given : {A B : Type 0} (given : A → Option B) (xs : List A) → none_of (λ x. is_some (given x)) xs ≡ not (is_some (first_given given xs))
none_given given [] = refl
none_given given (x ∷ xs) = ap (λ b. not (is_some (given x)) && b) (none_given given xs) ∙ by_case (given x) (first_given given xs)
  where
    by_case : {B : Type 0} (o p : Option B) → (not (is_some o) && not (is_some p)) ≡ not (is_some (option_or o p))
    by_case None p = refl
    by_case (Some b) p = refl

pub new_where_none : {A B C : Type 0} (given : A → Option B) (xs : List A) (view : C → B) (found : Option C) (new : Bool) → is_some found ≡ not new → option_map view found ≡ first_given given xs → new ≡ none_of (λ x. is_some (given x)) xs
new_where_none {C = C} given xs view found new is value =
    is_none_by new found is ∙ ap not (seen_too found) ∙ ap (λ o. not (is_some o)) value ∙ sym (none_given given xs)
  where
    seen_too : (o : Option C) → is_some o ≡ is_some (option_map view o)
    seen_too None = refl
    seen_too (Some x) = refl
