-- Changing types moves no identifier: places, indexes and paths stay.
use Rattle.std.proofs.Common.{◌≡◌, ℕ, zero, suc, ◌&&◌, Bool, if◌then◌else◌, List, [], ◌∷◌, ◌++◌, map, slice_get, Option, Some, None, refl, sym, ap, ap₂, ◌∙◌, subst}
use Rattle.std.specs.Option.{option_map}
use Rattle.type_core.specs.declared.ty.Ty.{Ty}
use Rattle.type_core.specs.Lists.{concatenated}
use Rattle.type_core.proofs.Trees.{EachOf}
use Rattle.elab_env.proofs.Parts.{map_map}
use Rattle.elab_rules.specs.declared.entry.Entry.{Entry, out-Entry}
use Rattle.elab_rules.specs.declared.entry.Entry.TheFolds.{fold-roll-Entry}
use Rattle.elab_rules.specs.declared.entry.Entry.TheOpen.{Tycon, Value, Structure}
use Rattle.elab_rules.specs.declared.entry.Entry.TheVariants as entry
use Rattle.elab_rules.specs.declared.entry.Entry.TheVariants.{rolls-Tycon, rolls-Value, rolls-Structure}
use Rattle.elab_rules.specs.declared.entry.TypeEntry.{TypeEntry}
use Rattle.elab_rules.specs.declared.entry.ValueEntry.{ValueEntry}
use Rattle.elab_rules.specs.declared.index.Index.{Index}
use Rattle.elab_rules.specs.Distinct.{AreDistinct, IsFirst}
use Rattle.elab_rules.specs.Environments.{Environment, is_structure, is_type, is_value}
use Rattle.elab_types.specs.Finding.{place_of}
use Rattle.elab_rules.specs.Indexes.{IsIndex, IsLevel}
use Rattle.elab_rules.specs.LongIdentifiers.{structure_along}
use Rattle.elab_rules.specs.Replacing.{entry_with, environment_with, type_with, value_with}
use Rattle.elab_rules.specs.Sharing.{entry_paths, paths_from, paths_step, type_paths}
use Rattle.elab_rules.specs.Specifications.{are_new, is_new_step}
use Rattle.elab_rules.proofs.Entries.{each_entry, induct_entry, out_structure, out_type, out_value, with_structure, with_type, with_value}
use Rattle.elab_rules.proofs.LookedUp.{is_structure_with, is_type_with, is_value_with, new_structure_with, new_type_with, new_value_with, structure_along_with}

place_with : {A : Type 0} (h : A → A) (test : A → Bool) → ((x : A) → test (h x) ≡ test x) → (xs : List A) → place_of test (map h xs) ≡ place_of test xs
place_with h test one [] = refl
place_with h test one (x ∷ xs) = ap₂ (λ b o. if b then Some 0 else option_map (λ place. suc place) o) (one x) (place_with h test one xs)

-- what stands in a list that was mapped
mapped_at : {A B : Type 0} (f : A → B) (xs : List A) (n : ℕ) (y : B) → slice_get (map f xs) n ≡ Some y → (x : A) × ((slice_get xs n ≡ Some x) × (f x ≡ y))
mapped_at f [] n y at = cc
mapped_at f (x ∷ xs) zero y at = (x, (refl, cc))
mapped_at f (x ∷ xs) (suc n) y at = mapped_at f xs n y at

module _ (g : Ty → Ty) where
  -- ---- places
  type_place_with : (id : List ℕ) (env : Environment) → place_of (is_type id) (environment_with g env) ≡ place_of (is_type id) env
  type_place_with id = place_with (entry_with g) (is_type id) (is_type_with g id)

  value_place_with : (id : List ℕ) (env : Environment) → place_of (is_value id) (environment_with g env) ≡ place_of (is_value id) env
  value_place_with id = place_with (entry_with g) (is_value id) (is_value_with g id)

  structure_place_with : (id : List ℕ) (env : Environment) → place_of (is_structure id) (environment_with g env) ≡ place_of (is_structure id) env
  structure_place_with id = place_with (entry_with g) (is_structure id) (is_structure_with g id)

  -- what stands along a path is what stood there, with its types changed
  changed : (o : Option Environment) (entries : Environment) → option_map (environment_with g) o ≡ Some entries → (before : Environment) × ((o ≡ Some before) × (environment_with g before ≡ entries))
  changed None entries e = cc
  changed (Some before) entries e = (before, (refl, cc))

  pub along_changed : (path : List (List ℕ)) (env entries : Environment) → structure_along path (environment_with g env) ≡ Some entries
      → (before : Environment) × ((structure_along path env ≡ Some before) × (environment_with g before ≡ entries))
  along_changed path env entries at = changed (structure_along path env) entries (sym (structure_along_with g path env) ∙ at)

  -- ---- indexes
  level_with : (index : Index) (env : Environment) → IsLevel index env → IsLevel index (environment_with g env)
  level_with index env h = record {
    types = λ id. h.types id ∙ sym (type_place_with id env);
    values = λ id. h.values id ∙ sym (value_place_with id env);
    structures = λ id. h.structures id ∙ sym (structure_place_with id env);
    within = h.within;
  }

  pub index_with : (index : Index) (env : Environment) → IsIndex index env → IsIndex index (environment_with g env)
  index_with index env h path inner entries at along =
      let k = along_changed path env entries along in
      subst (IsLevel inner) k.1.1 (level_with inner k.0 (h path inner k.0 at k.1.0))

  -- ---- identifiers that don't stand twice
  first_with : (n : ℕ) (env : Environment) (e : Entry) → IsFirst n env (out-Entry e) → IsFirst n (environment_with g env) (out-Entry (entry_with g e))
  first_with n env = induct_entry (λ e. IsFirst n env (out-Entry e) → IsFirst n (environment_with g env) (out-Entry (entry_with g e)))
      (λ type f. let before : IsFirst n env (Tycon type) = subst (IsFirst n env) (out_type type) f in
      subst (IsFirst n (environment_with g env)) (sym (ap out-Entry (with_type g type) ∙ out_type (type_with g type))) (type_place_with type.id env ∙ before))
      (λ value f. let before : IsFirst n env (Value value) = subst (IsFirst n env) (out_value value) f in
      subst (IsFirst n (environment_with g env)) (sym (ap out-Entry (with_value g value) ∙ out_value (value_with g value))) (value_place_with value.id env ∙ before))
      (λ id es hs f. let before : IsFirst n env (Structure id es) = subst (IsFirst n env) (out_structure id es) f in
      subst (IsFirst n (environment_with g env)) (sym (ap out-Entry (with_structure g id es) ∙ out_structure id (environment_with g es))) (structure_place_with id env ∙ before))

  pub distinct_with : (env : Environment) → AreDistinct env → AreDistinct (environment_with g env)
  distinct_with env h path entries n e along at =
      let k = along_changed path env entries along in
      let m = mapped_at (entry_with g) k.0 n e (ap (λ xs. slice_get xs n) k.1.1 ∙ at) in
      let first : IsFirst n (environment_with g k.0) (out-Entry (entry_with g m.0)) = first_with n k.0 m.0 (h path k.0 n m.0 k.1.0 m.1.0) in
      subst (λ xs. IsFirst n xs (out-Entry e)) k.1.1 (subst (λ x. IsFirst n (environment_with g k.0) (out-Entry x)) m.1.1 first)

  -- ---- identifiers that are new
  new_step_with : (own : Environment) (e : Entry) → is_new_step (environment_with g own) (out-Entry (entry_with g e)) ≡ is_new_step own (out-Entry e)
  new_step_with own = induct_entry (λ e. is_new_step (environment_with g own) (out-Entry (entry_with g e)) ≡ is_new_step own (out-Entry e))
      (λ type. ap (is_new_step (environment_with g own)) (ap out-Entry (with_type g type) ∙ out_type (type_with g type)) ∙ new_type_with g type.id own ∙ sym (ap (is_new_step own) (out_type type)))
      (λ value. ap (is_new_step (environment_with g own)) (ap out-Entry (with_value g value) ∙ out_value (value_with g value)) ∙ new_value_with g value.id own ∙ sym (ap (is_new_step own) (out_value value)))
      (λ id es hs. ap (is_new_step (environment_with g own)) (ap out-Entry (with_structure g id es) ∙ out_structure id (environment_with g es)) ∙ new_structure_with g id own ∙ sym (ap (is_new_step own) (out_structure id es)))

  pub new_with : (more own : Environment) → are_new (environment_with g more) (environment_with g own) ≡ are_new more own
  new_with [] own = refl
  new_with (e ∷ more) own = ap₂ ◌&&◌ (new_step_with own e) (new_with more own)

-- ---- the paths of type constructors
pub paths_type : (type : TypeEntry) (path : List (List ℕ)) → entry_paths (entry.Tycon type) path ≡ (path ++ type.id ∷ []) ∷ []
paths_type type path = ap (λ e. entry_paths e path) (sym (rolls-Tycon type)) ∙ ap (λ f. f path) (fold-roll-Entry _ paths_step _)

pub paths_value : (value : ValueEntry) (path : List (List ℕ)) → entry_paths (entry.Value value) path ≡ []
paths_value value path = ap (λ e. entry_paths e path) (sym (rolls-Value value)) ∙ ap (λ f. f path) (fold-roll-Entry _ paths_step _)

pub paths_structure : (id : List ℕ) (entries : List Entry) (path : List (List ℕ)) → entry_paths (entry.Structure id entries) path ≡ paths_from (path ++ id ∷ []) entries
paths_structure id entries path =
    ap (λ e. entry_paths e path) (sym (rolls-Structure id entries)) ∙ ap (λ f. f path) (fold-roll-Entry _ paths_step _)
    ∙ ap concatenated (map_map (λ f. f (path ++ id ∷ [])) entry_paths entries)

module _ (g : Ty → Ty) where
  abbrev SamePaths : Entry → Type 0
  SamePaths e = (path : List (List ℕ)) → entry_paths (entry_with g e) path ≡ entry_paths e path

  same_paths : (es : List Entry) → EachOf SamePaths es → (path : List (List ℕ)) → paths_from path (environment_with g es) ≡ paths_from path es
  same_paths [] hs path = refl
  same_paths (e ∷ es) hs path = ap₂ ◌++◌ (hs.0 path) (same_paths es hs.1 path)

  paths_at : (e : Entry) → SamePaths e
  paths_at = induct_entry SamePaths
      (λ type path. ap (λ e. entry_paths e path) (with_type g type) ∙ paths_type (type_with g type) path ∙ sym (paths_type type path))
      (λ value path. ap (λ e. entry_paths e path) (with_value g value) ∙ paths_value (value_with g value) path ∙ sym (paths_value value path))
      (λ id es hs path. ap (λ e. entry_paths e path) (with_structure g id es) ∙ paths_structure id (environment_with g es) path ∙ same_paths es hs (path ++ id ∷ []) ∙ sym (paths_structure id es path))

  pub paths_from_with : (path : List (List ℕ)) (env : Environment) → paths_from path (environment_with g env) ≡ paths_from path env
  paths_from_with path env = same_paths env (each_entry SamePaths paths_at env) path

  pub type_paths_with : (env : Environment) → type_paths (environment_with g env) ≡ type_paths env
  type_paths_with = paths_from_with []
