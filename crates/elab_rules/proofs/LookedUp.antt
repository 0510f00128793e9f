-- Looking up in an environment whose types were changed finds what was found, with its types changed.
use Rattle.std.proofs.Common.{◌≡◌, ℕ, ◌&&◌, Bool, true, false, not, is_some, if◌then◌else◌, bytes_eq, List, [], ◌∷◌, ◌++◌, map, Option, Some, None, refl, sym, ap, ap₂, ◌∙◌}
use Rattle.std.specs.Option.{option_and_then, option_map, option_or, option_to_list}
use Rattle.type_core.specs.declared.ty.Ty.{Ty}
use Rattle.elab_rules.specs.declared.entry.Entry.{Entry, out-Entry}
use Rattle.elab_rules.specs.declared.entry.TypeEntry.{TypeEntry}
use Rattle.elab_rules.specs.declared.entry.ValueEntry.{ValueEntry}
use Rattle.elab_rules.specs.Environments.{Environment, is_new_structure, is_new_type, is_new_value, is_structure, is_type, is_value, structure_at, structure_in, structure_of, type_at, type_in, type_of, value_at, value_in, value_of, values_in}
use Rattle.elab_types.specs.Finding.{first_given, none_of}
use Rattle.elab_rules.specs.LongIdentifiers.{Found, found_in, structure_along, type_along}
use Rattle.elab_rules.specs.Replacing.{entry_with, environment_with, type_with, value_with}
use Rattle.elab_rules.proofs.Entries.{induct_entry, out_structure, out_type, out_value, with_structure, with_type, with_value}

-- ---- what is given for an entry, after it was changed
given_with : {A B : Type 0} (f : B → B) (h : A → A) (given : A → Option B) → ((x : A) → given (h x) ≡ option_map f (given x)) → (xs : List A) → first_given given (map h xs) ≡ option_map f (first_given given xs)
given_with f h given one [] = refl
given_with f h given one (x ∷ xs) = ap₂ option_or (one x) (given_with f h given one xs) ∙ or_mapped f (given x) (first_given given xs)
  where
    or_mapped : {B : Type 0} (f : B → B) (o p : Option B) → option_or (option_map f o) (option_map f p) ≡ option_map f (option_or o p)
    or_mapped f None p = refl
    or_mapped f (Some b) p = refl

chosen : {A B : Type 0} (f : A → B) (b : Bool) (x : A) → (if b then Some (f x) else None) ≡ option_map f (if b then Some x else None)
chosen f true x = refl
chosen f false x = refl

-- some found where something is found
some_mapped : {A B : Type 0} (f : A → B) (o : Option A) → is_some (option_map f o) ≡ is_some o
some_mapped f None = refl
some_mapped f (Some a) = refl

none_with : {A : Type 0} (h : A → A) (test : A → Bool) → ((x : A) → test (h x) ≡ test x) → (xs : List A) → none_of test (map h xs) ≡ none_of test xs
none_with h test one [] = refl
none_with h test one (x ∷ xs) = ap₂ (λ b c. not b && c) (one x) (none_with h test one xs)

module _ (g : Ty → Ty) where
  pub type_of_with : (id : List ℕ) (e : Entry) → type_of id (entry_with g e) ≡ option_map (type_with g) (type_of id e)
  type_of_with id = induct_entry (λ e. type_of id (entry_with g e) ≡ option_map (type_with g) (type_of id e))
      (λ type. ap (type_at id) (ap out-Entry (with_type g type) ∙ out_type (type_with g type)) ∙ chosen (type_with g) (bytes_eq id type.id) type ∙ sym (ap (λ x. option_map (type_with g) (type_at id x)) (out_type type)))
      (λ value. ap (type_at id) (ap out-Entry (with_value g value) ∙ out_value (value_with g value)) ∙ sym (ap (λ x. option_map (type_with g) (type_at id x)) (out_value value)))
      (λ name es hs. ap (type_at id) (ap out-Entry (with_structure g name es) ∙ out_structure name (environment_with g es)) ∙ sym (ap (λ x. option_map (type_with g) (type_at id x)) (out_structure name es)))

  pub value_of_with : (id : List ℕ) (e : Entry) → value_of id (entry_with g e) ≡ option_map (value_with g) (value_of id e)
  value_of_with id = induct_entry (λ e. value_of id (entry_with g e) ≡ option_map (value_with g) (value_of id e))
      (λ type. ap (value_at id) (ap out-Entry (with_type g type) ∙ out_type (type_with g type)) ∙ sym (ap (λ x. option_map (value_with g) (value_at id x)) (out_type type)))
      (λ value. ap (value_at id) (ap out-Entry (with_value g value) ∙ out_value (value_with g value)) ∙ chosen (value_with g) (bytes_eq id value.id) value ∙ sym (ap (λ x. option_map (value_with g) (value_at id x)) (out_value value)))
      (λ name es hs. ap (value_at id) (ap out-Entry (with_structure g name es) ∙ out_structure name (environment_with g es)) ∙ sym (ap (λ x. option_map (value_with g) (value_at id x)) (out_structure name es)))

  pub structure_of_with : (id : List ℕ) (e : Entry) → structure_of id (entry_with g e) ≡ option_map (environment_with g) (structure_of id e)
  structure_of_with id = induct_entry (λ e. structure_of id (entry_with g e) ≡ option_map (environment_with g) (structure_of id e))
      (λ type. ap (structure_at id) (ap out-Entry (with_type g type) ∙ out_type (type_with g type)) ∙ sym (ap (λ x. option_map (environment_with g) (structure_at id x)) (out_type type)))
      (λ value. ap (structure_at id) (ap out-Entry (with_value g value) ∙ out_value (value_with g value)) ∙ sym (ap (λ x. option_map (environment_with g) (structure_at id x)) (out_value value)))
      (λ name es hs. ap (structure_at id) (ap out-Entry (with_structure g name es) ∙ out_structure name (environment_with g es)) ∙ chosen (environment_with g) (bytes_eq id name) es ∙ sym (ap (λ x. option_map (environment_with g) (structure_at id x)) (out_structure name es)))

  -- ---- in an environment
  pub type_in_with : (id : List ℕ) (env : Environment) → type_in id (environment_with g env) ≡ option_map (type_with g) (type_in id env)
  type_in_with id = given_with (type_with g) (entry_with g) (type_of id) (type_of_with id)

  pub value_in_with : (id : List ℕ) (env : Environment) → value_in id (environment_with g env) ≡ option_map (value_with g) (value_in id env)
  value_in_with id = given_with (value_with g) (entry_with g) (value_of id) (value_of_with id)

  pub structure_in_with : (id : List ℕ) (env : Environment) → structure_in id (environment_with g env) ≡ option_map (environment_with g) (structure_in id env)
  structure_in_with id = given_with (environment_with g) (entry_with g) (structure_of id) (structure_of_with id)

  pub is_type_with : (id : List ℕ) (e : Entry) → is_type id (entry_with g e) ≡ is_type id e
  is_type_with id e = ap is_some (type_of_with id e) ∙ some_mapped (type_with g) (type_of id e)

  pub is_value_with : (id : List ℕ) (e : Entry) → is_value id (entry_with g e) ≡ is_value id e
  is_value_with id e = ap is_some (value_of_with id e) ∙ some_mapped (value_with g) (value_of id e)

  pub is_structure_with : (id : List ℕ) (e : Entry) → is_structure id (entry_with g e) ≡ is_structure id e
  is_structure_with id e = ap is_some (structure_of_with id e) ∙ some_mapped (environment_with g) (structure_of id e)

  pub new_type_with : (id : List ℕ) (env : Environment) → is_new_type id (environment_with g env) ≡ is_new_type id env
  new_type_with id = none_with (entry_with g) (is_type id) (is_type_with id)

  pub new_value_with : (id : List ℕ) (env : Environment) → is_new_value id (environment_with g env) ≡ is_new_value id env
  new_value_with id = none_with (entry_with g) (is_value id) (is_value_with id)

  pub new_structure_with : (id : List ℕ) (env : Environment) → is_new_structure id (environment_with g env) ≡ is_new_structure id env
  new_structure_with id = none_with (entry_with g) (is_structure id) (is_structure_with id)

  pub values_in_with : (ids : List (List ℕ)) (env : Environment) → values_in ids (environment_with g env) ≡ map (value_with g) (values_in ids env)
  values_in_with [] env = refl
  values_in_with (id ∷ ids) env = ap₂ (λ o rest. option_to_list o ++ rest) (value_in_with id env) (values_in_with ids env) ∙ listed (value_in id env)
    where
      listed : (o : Option ValueEntry) → option_to_list (option_map (value_with g) o) ++ map (value_with g) (values_in ids env) ≡ map (value_with g) (option_to_list o ++ values_in ids env)
      listed None = refl
      listed (Some value) = refl

  -- ---- along paths
  abbrev pub found_with : Found → Found
  found_with found = record { entry = type_with g found.entry; constructors = map (value_with g) found.constructors }

  pub found_in_with : (env : Environment) (o : Option TypeEntry) → found_in (environment_with g env) (option_map (type_with g) o) ≡ option_map found_with (found_in env o)
  found_in_with env None = refl
  found_in_with env (Some type) = ap (λ vs. let f : Found = record { entry = type_with g type; constructors = vs } in Some f) (values_in_with type.constructors env)

  step_with : (o : Option Environment) (f : Environment → Option Environment) → ((env : Environment) → f (environment_with g env) ≡ option_map (environment_with g) (f env))
      → option_and_then f (option_map (environment_with g) o) ≡ option_map (environment_with g) (option_and_then f o)
  step_with None f one = refl
  step_with (Some env) f one = one env

  pub structure_along_with : (ids : List (List ℕ)) (env : Environment) → structure_along ids (environment_with g env) ≡ option_map (environment_with g) (structure_along ids env)
  structure_along_with [] env = refl
  structure_along_with (id ∷ ids) env = ap (option_and_then (structure_along ids)) (structure_in_with id env) ∙ step_with (structure_in id env) (structure_along ids) (structure_along_with ids)

  type_step_with : (o : Option Environment) (f : Environment → Option Found) → ((env : Environment) → f (environment_with g env) ≡ option_map found_with (f env))
      → option_and_then f (option_map (environment_with g) o) ≡ option_map found_with (option_and_then f o)
  type_step_with None f one = refl
  type_step_with (Some env) f one = one env

  pub type_along_with : (ids : List (List ℕ)) (env : Environment) → type_along ids (environment_with g env) ≡ option_map found_with (type_along ids env)
  type_along_with [] env = refl
  type_along_with (id ∷ []) env = ap (found_in (environment_with g env)) (type_in_with id env) ∙ found_in_with env (type_in id env)
  type_along_with (id ∷ next ∷ ids) env = ap (option_and_then (type_along (next ∷ ids))) (structure_in_with id env) ∙ type_step_with (structure_in id env) (type_along (next ∷ ids)) (type_along_with (next ∷ ids))
