-- Indexes one level at a time, and indexes of an environment with one entry more.
use Rattle.std.proofs.Common.{◌≡◌, ℕ, zero, suc, ◌<◌, Bool, true, false, is_some, if◌then◌else◌, bytes_eq, List, [], ◌∷◌, ◌++◌, length, slice_get, Option, Some, None, refl, sym, ap, ap₂, ◌∙◌, subst, subst₂, arith, rules, length-append}
use Rattle.std.specs.Option.{option_and_then, option_map, option_or}
use Rattle.std.proofs.lemmas.Slice.Eq.{bytes_eq-Decides}
use Rattle.elab_rules.specs.declared.entry.Entry.{Entry}
use Rattle.elab_rules.specs.declared.entry.Entry.TheViews as views
use Rattle.elab_rules.specs.declared.entry.TypeEntry.{TypeEntry}
use Rattle.elab_rules.specs.declared.entry.ValueEntry.{ValueEntry}
use Rattle.elab_rules.specs.declared.index.Index.{Index, out-Index}
use Rattle.elab_rules.specs.declared.index.Index.TheViews as index_views
use Rattle.elab_rules.specs.declared.index.Index.TheViews.{roll-Index}
use Rattle.elab_types.specs.declared.places.Places.{Places}
use Rattle.elab_rules.specs.declared.index.Inner.{Inner, out-Inner}
use Rattle.elab_rules.specs.Environments.{Environment, is_structure, is_type, is_value, structure_in, structure_of, the_structure, the_type, the_value, type_of, value_of}
use Rattle.elab_types.specs.Finding.{first_given, place_of}
use Rattle.elab_rules.specs.Indexes.{IsIndex, IsLevel, index_along, inner_at, inner_of}
use Rattle.elab_rules.specs.LongIdentifiers.{structure_along}
use Rattle.elab_types.specs.Places.{place_at}
use Rattle.elab_types.proofs.FirstPlaces.{kept_place, place_more}

-- ---- one level at a time
pub index_level : (index : Index) (env : Environment) → IsIndex index env → IsLevel index env
index_level index env h = h [] index env refl refl

pub index_inner : (index : Index) (env : Environment) (id : List ℕ) (inner : Inner) (entries : Environment) → IsIndex index env → inner_of id index ≡ Some inner → structure_in id env ≡ Some entries → IsIndex (out-Inner inner).index entries
index_inner index env id inner entries h is here ids i es at along =
    h (id ∷ ids) i es (ap (option_and_then (λ (j : Inner). index_along ids (out-Inner j).index)) is ∙ at) (ap (option_and_then (structure_along ids)) here ∙ along)

pub index_from : (index : Index) (env : Environment) → IsLevel index env
    → ((id : List ℕ) (inner : Inner) (entries : Environment) → inner_of id index ≡ Some inner → structure_in id env ≡ Some entries → IsIndex (out-Inner inner).index entries)
    → IsIndex index env
index_from index env level below [] inner entries at along =
    let same : index ≡ inner = cc in
    let here : env ≡ entries = cc in
    subst₂ IsLevel same here level
index_from index env level below (id ∷ ids) inner entries at along = by_case (inner_of id index) (structure_in id env) refl refl at along
  where
    by_case : (o : Option Inner) (p : Option Environment) → inner_of id index ≡ o → structure_in id env ≡ p
        → option_and_then (λ (j : Inner). index_along ids (out-Inner j).index) o ≡ Some inner → option_and_then (structure_along ids) p ≡ Some entries → IsLevel inner entries
    by_case None p is here at along = cc
    by_case (Some j) None is here at along = cc
    by_case (Some j) (Some es) is here at along = below id j es is here ids inner entries at along

pub index_empty : (index : Index) → ((id : List ℕ) → place_at (out-Index index).types id ≡ None) → ((id : List ℕ) → place_at (out-Index index).values id ≡ None)
    → ((id : List ℕ) → place_at (out-Index index).structures id ≡ None) → IsIndex index []
index_empty index types values structures =
    index_from index []
    (record {
      types = types;
      values = values;
      structures = λ id. ap (λ o. option_map (λ (i : Inner). (out-Inner i).place) (inner_at index o)) (structures id);
      within = λ id n at. (let no : None ≡ Some n = sym (structures id) ∙ at in cc);
    })
    (λ id inner entries is here. cc)

pub index_new : (types values structures : Places) (inner : List Inner) → ((id : List ℕ) → place_at types id ≡ None) → ((id : List ℕ) → place_at values id ≡ None) → ((id : List ℕ) → place_at structures id ≡ None)
    → IsIndex (roll-Index (record { types = types; values = values; structures = structures; inner = inner })) []
index_new types values structures inner t v s =
    index_empty (roll-Index (record { types = types; values = values; structures = structures; inner = inner }))
    (λ id. ap (λ p. place_at p id) (let e : (out-Index (roll-Index (record { types = types; values = values; structures = structures; inner = inner }))).types ≡ types = search (rules, index_views.the_lemmas) in e) ∙ t id)
    (λ id. ap (λ p. place_at p id) (let e : (out-Index (roll-Index (record { types = types; values = values; structures = structures; inner = inner }))).values ≡ values = search (rules, index_views.the_lemmas) in e) ∙ v id)
    (λ id. ap (λ p. place_at p id) (let e : (out-Index (roll-Index (record { types = types; values = values; structures = structures; inner = inner }))).structures ≡ structures = search (rules, index_views.the_lemmas) in e) ∙ s id)

-- ---- the structure of an identifier, with one entry more
or_assoc : {A : Type 0} (o p q : Option A) → option_or o (option_or p q) ≡ option_or (option_or o p) q
or_assoc None p q = refl
or_assoc (Some a) p q = refl

or_none : {A : Type 0} (o : Option A) → option_or o None ≡ o
or_none None = refl
or_none (Some a) = refl

pub given_more : {A B : Type 0} (given : A → Option B) (xs : List A) (x : A) → first_given given (xs ++ x ∷ []) ≡ option_or (first_given given xs) (given x)
given_more given [] x = or_none (given x)
given_more given (y ∷ xs) x = ap (option_or (given y)) (given_more given xs x) ∙ or_assoc (given y) (first_given given xs) (given x)

pub structure_in_more : (id : List ℕ) (env : Environment) (e : Entry) → structure_in id (env ++ e ∷ []) ≡ option_or (structure_in id env) (structure_of id e)
structure_in_more id = given_more (structure_of id)

no_structure : (id : List ℕ) (env : Environment) (e : Entry) → structure_of id e ≡ None → structure_in id (env ++ e ∷ []) ≡ structure_in id env
no_structure id env e none = structure_in_more id env e ∙ ap (option_or (structure_in id env)) none ∙ or_none (structure_in id env)

-- ---- what an entry is
is_some_if : {A : Type 0} (b : Bool) (x : A) → is_some (if b then Some x else None) ≡ b
is_some_if true x = refl
is_some_if false x = refl

pub type_is_type : (id : List ℕ) (type : TypeEntry) → is_type id (the_type type) ≡ bytes_eq id type.id
type_is_type id type = ap is_some (let e : type_of id (the_type type) ≡ (if bytes_eq id type.id then Some type else None) = search (rules, views.the_lemmas) in e) ∙ is_some_if (bytes_eq id type.id) type

pub type_is_no_value : (id : List ℕ) (type : TypeEntry) → value_of id (the_type type) ≡ None
type_is_no_value id type = search (rules, views.the_lemmas)

pub type_is_no_structure : (id : List ℕ) (type : TypeEntry) → structure_of id (the_type type) ≡ None
type_is_no_structure id type = search (rules, views.the_lemmas)

pub value_is_value : (id : List ℕ) (value : ValueEntry) → is_value id (the_value value) ≡ bytes_eq id value.id
value_is_value id value = ap is_some (let e : value_of id (the_value value) ≡ (if bytes_eq id value.id then Some value else None) = search (rules, views.the_lemmas) in e) ∙ is_some_if (bytes_eq id value.id) value

pub value_is_no_type : (id : List ℕ) (value : ValueEntry) → type_of id (the_value value) ≡ None
value_is_no_type id value = search (rules, views.the_lemmas)

pub value_is_no_structure : (id : List ℕ) (value : ValueEntry) → structure_of id (the_value value) ≡ None
value_is_no_structure id value = search (rules, views.the_lemmas)

pub structure_of_structure : (id name : List ℕ) (entries : Environment) → structure_of id (the_structure name entries) ≡ (if bytes_eq id name then Some entries else None)
structure_of_structure id name entries = search (rules, views.the_lemmas)

pub structure_is_structure : (id name : List ℕ) (entries : Environment) → is_structure id (the_structure name entries) ≡ bytes_eq id name
structure_is_structure id name entries = ap is_some (structure_of_structure id name entries) ∙ is_some_if (bytes_eq id name) entries

pub structure_is_no_type : (id name : List ℕ) (entries : Environment) → type_of id (the_structure name entries) ≡ None
structure_is_no_type id name entries = search (rules, views.the_lemmas)

pub structure_is_no_value : (id name : List ℕ) (entries : Environment) → value_of id (the_structure name entries) ≡ None
structure_is_no_value id name entries = search (rules, views.the_lemmas)

-- ---- a type constructor or a value more
inner_kept : (old new : Index) (id : List ℕ) → (out-Index new).structures ≡ (out-Index old).structures → (out-Index new).inner ≡ (out-Index old).inner → inner_of id new ≡ inner_of id old
inner_kept old new id structures inner = ap (λ p. inner_at new (place_at p id)) structures ∙ at_kept (place_at (out-Index old).structures id)
  where
    at_kept : (o : Option ℕ) → inner_at new o ≡ inner_at old o
    at_kept None = refl
    at_kept (Some n) = ap (λ xs. slice_get xs n) inner

module _ (old new : Index) (env : Environment) (e : Entry) (h : IsIndex old env) (structures : (out-Index new).structures ≡ (out-Index old).structures) (inner : (out-Index new).inner ≡ (out-Index old).inner) (none : (id : List ℕ) → structure_of id e ≡ None) where
  structures_kept : (id : List ℕ) → option_map (λ (i : Inner). (out-Inner i).place) (inner_of id new) ≡ place_of (is_structure id) (env ++ e ∷ [])
  structures_kept id = ap (option_map (λ (i : Inner). (out-Inner i).place)) (inner_kept old new id structures inner) ∙ kept_place (is_structure id) env e _ (ap is_some (none id)) ((index_level old env h).structures id)

  within_kept : (id : List ℕ) (n : ℕ) → place_at (out-Index new).structures id ≡ Some n → n < length (out-Index new).inner
  within_kept id n at = subst (λ xs. n < length xs) (sym inner) ((index_level old env h).within id n (sym (ap (λ p. place_at p id) structures) ∙ at))

  below_kept : (id : List ℕ) (i : Inner) (entries : Environment) → inner_of id new ≡ Some i → structure_in id (env ++ e ∷ []) ≡ Some entries → IsIndex (out-Inner i).index entries
  below_kept id i entries is here = index_inner old env id i entries h (sym (inner_kept old new id structures inner) ∙ is) (sym (no_structure id env e (none id)) ∙ here)

pub index_with_type : (old new : Index) (env : Environment) (type : TypeEntry) → IsIndex old env
    → ((id : List ℕ) → place_at (out-Index new).types id ≡ option_or (place_at (out-Index old).types id) (if bytes_eq id type.id then Some (length env) else None))
    → (out-Index new).values ≡ (out-Index old).values → (out-Index new).structures ≡ (out-Index old).structures → (out-Index new).inner ≡ (out-Index old).inner → IsIndex new (env ++ the_type type ∷ [])
index_with_type old new env type h types values structures inner =
    let none : (id : List ℕ) → structure_of id (the_type type) ≡ None = λ id. type_is_no_structure id type in
    let level = index_level old env h in
    index_from new (env ++ the_type type ∷ [])
    (record {
      types = λ id. types id ∙ ap₂ (λ o b. option_or o (if b then Some (length env) else None)) (level.types id) (sym (type_is_type id type)) ∙ sym (place_more (is_type id) env (the_type type));
      values = λ id. ap (λ p. place_at p id) values ∙ kept_place (is_value id) env (the_type type) _ (ap is_some (type_is_no_value id type)) (level.values id);
      structures = structures_kept old new env (the_type type) h structures inner none;
      within = within_kept old new env (the_type type) h structures inner none;
    })
    (below_kept old new env (the_type type) h structures inner none)

pub index_with_value : (old new : Index) (env : Environment) (value : ValueEntry) → IsIndex old env
    → ((id : List ℕ) → place_at (out-Index new).values id ≡ option_or (place_at (out-Index old).values id) (if bytes_eq id value.id then Some (length env) else None))
    → (out-Index new).types ≡ (out-Index old).types → (out-Index new).structures ≡ (out-Index old).structures → (out-Index new).inner ≡ (out-Index old).inner → IsIndex new (env ++ the_value value ∷ [])
index_with_value old new env value h values types structures inner =
    let none : (id : List ℕ) → structure_of id (the_value value) ≡ None = λ id. value_is_no_structure id value in
    let level = index_level old env h in
    index_from new (env ++ the_value value ∷ [])
    (record {
      types = λ id. ap (λ p. place_at p id) types ∙ kept_place (is_type id) env (the_value value) _ (ap is_some (value_is_no_type id value)) (level.types id);
      values = λ id. values id ∙ ap₂ (λ o b. option_or o (if b then Some (length env) else None)) (level.values id) (sym (value_is_value id value)) ∙ sym (place_more (is_value id) env (the_value value));
      structures = structures_kept old new env (the_value value) h structures inner none;
      within = within_kept old new env (the_value value) h structures inner none;
    })
    (below_kept old new env (the_value value) h structures inner none)

-- ---- a structure more, whose identifier has a place already
place_is_some : (o p : Option ℕ) → is_some o ≡ true → option_or o p ≡ o
place_is_some None p e = cc
place_is_some (Some n) p e = refl

some_place : (o : Option Inner) → is_some (option_map (λ (i : Inner). (out-Inner i).place) o) ≡ is_some o
some_place None = refl
some_place (Some i) = refl

inner_within : (index : Index) (env : Environment) (id : List ℕ) (n : ℕ) → IsLevel index env → place_at (out-Index index).structures id ≡ Some n → is_some (inner_of id index) ≡ true
inner_within index env id n level at = ap (λ o. is_some (inner_at index o)) at ∙ there (out-Index index).inner n (level.within id n at)
  where
    there : {A : Type 0} (xs : List A) (n : ℕ) → n < length xs → is_some (slice_get xs n) ≡ true
    there [] n l = absurd (omega (arith, l))
    there (x ∷ xs) zero l = refl
    there (x ∷ xs) (suc n) l = there xs n (omega (arith, l))

-- the structure is given before, where its identifier has a place
given_by_place_of : (id : List ℕ) (env : Environment) → is_some (structure_in id env) ≡ is_some (place_of (is_structure id) env)
given_by_place_of id [] = refl
given_by_place_of id (e ∷ env) = by_case (given_by_place_of id env) (structure_of id e)
  where
    later : (o : Option ℕ) → is_some (option_map (λ n. suc n) o) ≡ is_some o
    later None = refl
    later (Some n) = refl

    by_case : is_some (structure_in id env) ≡ is_some (place_of (is_structure id) env) → (o : Option Environment) → is_some (option_or o (structure_in id env)) ≡ is_some (if is_some o then Some 0 else option_map (λ n. suc n) (place_of (is_structure id) env))
    by_case rest (Some es) = refl
    by_case rest None = rest ∙ sym (later (place_of (is_structure id) env))

module _ (index : Index) (env : Environment) (name : List ℕ) (entries : Environment) (n : ℕ) (h : IsIndex index env) (has : place_at (out-Index index).structures name ≡ Some n) where
  placed_before : is_some (place_of (is_structure name) env) ≡ true
  placed_before = ap is_some (sym ((index_level index env h).structures name)) ∙ some_place (inner_of name index) ∙ inner_within index env name n (index_level index env h) has

  given_before : is_some (structure_in name env) ≡ true
  given_before = given_by_place_of name env ∙ placed_before

  place_stays : (id : List ℕ) → place_of (is_structure id) env ≡ place_of (is_structure id) (env ++ the_structure name entries ∷ [])
  place_stays id = by_case (bytes_eq id name) refl
    where
      by_case : (b : Bool) → bytes_eq id name ≡ b → place_of (is_structure id) env ≡ place_of (is_structure id) (env ++ the_structure name entries ∷ [])
      by_case true is =
          let same : id ≡ name = (bytes_eq-Decides id name).0 is in
          sym (place_more (is_structure id) env (the_structure name entries)
          ∙ place_is_some (place_of (is_structure id) env) _ (ap (λ i. is_some (place_of (is_structure i) env)) same ∙ placed_before))
      by_case false is = kept_place (is_structure id) env (the_structure name entries) _ (structure_is_structure id name entries ∙ is) refl

  structure_stays : (id : List ℕ) → structure_in id (env ++ the_structure name entries ∷ []) ≡ structure_in id env
  structure_stays id = by_case (bytes_eq id name) refl
    where
      some_or : (o p : Option Environment) → is_some o ≡ true → option_or o p ≡ o
      some_or None p e = cc
      some_or (Some es) p e = refl

      by_case : (b : Bool) → bytes_eq id name ≡ b → structure_in id (env ++ the_structure name entries ∷ []) ≡ structure_in id env
      by_case true is =
          let same : id ≡ name = (bytes_eq-Decides id name).0 is in
          structure_in_more id env (the_structure name entries) ∙ some_or (structure_in id env) _ (ap (λ i. is_some (structure_in i env)) same ∙ given_before)
      by_case false is = no_structure id env (the_structure name entries) (structure_of_structure id name entries ∙ ap (λ b. if b then Some entries else None) is)

  pub index_with_known : IsIndex index (env ++ the_structure name entries ∷ [])
  index_with_known =
      let level = index_level index env h in
      index_from index (env ++ the_structure name entries ∷ [])
      (record {
        types = λ id. kept_place (is_type id) env (the_structure name entries) _ (ap is_some (structure_is_no_type id name entries)) (level.types id);
        values = λ id. kept_place (is_value id) env (the_structure name entries) _ (ap is_some (structure_is_no_value id name entries)) (level.values id);
        structures = λ id. level.structures id ∙ place_stays id;
        within = level.within;
      })
      (λ id i es is here. index_inner index env id i es h is (sym (structure_stays id) ∙ here))

-- ---- a structure more, whose identifier is new
module _ (old new : Index) (env : Environment) (name : List ℕ) (entries : Environment) (added : Inner) (h : IsIndex old env) (none : place_at (out-Index old).structures name ≡ None)
    (types : (out-Index new).types ≡ (out-Index old).types) (values : (out-Index new).values ≡ (out-Index old).values)
    (placed : (id : List ℕ) → place_at (out-Index new).structures id ≡ (if bytes_eq id name then Some (length (out-Index old).inner) else place_at (out-Index old).structures id))
    (pushed : (out-Index new).inner ≡ (out-Index old).inner ++ added ∷ []) (at_end : (out-Inner added).place ≡ length env) (indexed : IsIndex (out-Inner added).index entries) where
  last_of : {A : Type 0} (xs : List A) (x : A) → slice_get (xs ++ x ∷ []) (length xs) ≡ Some x
  last_of [] x = refl
  last_of (y ∷ xs) x = last_of xs x

  among : {A : Type 0} (xs : List A) (x : A) (n : ℕ) → n < length xs → slice_get (xs ++ x ∷ []) n ≡ slice_get xs n
  among [] x n l = absurd (omega (arith, l))
  among (y ∷ xs) x zero l = refl
  among (y ∷ xs) x (suc n) l = among xs x n (omega (arith, l))

  inner_is_new : (id : List ℕ) → bytes_eq id name ≡ true → inner_of id new ≡ Some added
  inner_is_new id is =
      ap (inner_at new) (placed id ∙ ap (λ b. if b then Some (length (out-Index old).inner) else place_at (out-Index old).structures id) is)
      ∙ ap (λ xs. slice_get xs (length (out-Index old).inner)) pushed ∙ last_of (out-Index old).inner added

  inner_is_old : (id : List ℕ) → bytes_eq id name ≡ false → inner_of id new ≡ inner_of id old
  inner_is_old id is =
      ap (inner_at new) (placed id ∙ ap (λ b. if b then Some (length (out-Index old).inner) else place_at (out-Index old).structures id) is)
      ∙ by_place (place_at (out-Index old).structures id) refl
    where
      by_place : (o : Option ℕ) → place_at (out-Index old).structures id ≡ o → inner_at new o ≡ inner_at old o
      by_place None at = refl
      by_place (Some n) at = ap (λ xs. slice_get xs n) pushed ∙ among (out-Index old).inner added n ((index_level old env h).within id n at)

  no_place : (id : List ℕ) → bytes_eq id name ≡ true → place_of (is_structure id) env ≡ None
  no_place id is =
      let same : id ≡ name = (bytes_eq-Decides id name).0 is in
      sym ((index_level old env h).structures id) ∙ ap (λ i. option_map (λ (j : Inner). (out-Inner j).place) (inner_at old (place_at (out-Index old).structures i))) same
      ∙ ap (λ o. option_map (λ (j : Inner). (out-Inner j).place) (inner_at old o)) none

  not_given : (id : List ℕ) → bytes_eq id name ≡ true → structure_in id env ≡ None
  not_given id is = is_none (structure_in id env) (given_by_place_of id env ∙ ap is_some (no_place id is))
    where
      is_none : (o : Option Environment) → is_some o ≡ false → o ≡ None
      is_none None e = refl
      is_none (Some es) e = cc

  structure_placed : (id : List ℕ) → option_map (λ (i : Inner). (out-Inner i).place) (inner_of id new) ≡ place_of (is_structure id) (env ++ the_structure name entries ∷ [])
  structure_placed id = by_case (bytes_eq id name) refl
    where
      by_case : (b : Bool) → bytes_eq id name ≡ b → option_map (λ (i : Inner). (out-Inner i).place) (inner_of id new) ≡ place_of (is_structure id) (env ++ the_structure name entries ∷ [])
      by_case true is =
          ap (option_map (λ (i : Inner). (out-Inner i).place)) (inner_is_new id is) ∙ ap (λ n. Some n) at_end
          ∙ sym (place_more (is_structure id) env (the_structure name entries)
          ∙ ap₂ (λ o b. option_or o (if b then Some (length env) else None)) (no_place id is) (structure_is_structure id name entries ∙ is))
      by_case false is =
          ap (option_map (λ (i : Inner). (out-Inner i).place)) (inner_is_old id is)
          ∙ kept_place (is_structure id) env (the_structure name entries) _ (structure_is_structure id name entries ∙ is) ((index_level old env h).structures id)

  structure_within : (id : List ℕ) (n : ℕ) → place_at (out-Index new).structures id ≡ Some n → n < length (out-Index new).inner
  structure_within id n at = subst (λ xs. n < length xs) (sym pushed) (by_case (bytes_eq id name) (sym (placed id) ∙ at))
    where
      by_case : (b : Bool) → (if b then Some (length (out-Index old).inner) else place_at (out-Index old).structures id) ≡ Some n → n < length ((out-Index old).inner ++ added ∷ [])
      by_case true e = let same : length (out-Index old).inner ≡ n = cc in omega (arith, same, length-append (out-Index old).inner (added ∷ []))
      by_case false e = omega (arith, (index_level old env h).within id n e, length-append (out-Index old).inner (added ∷ []))

  structure_below : (id : List ℕ) (i : Inner) (es : Environment) → inner_of id new ≡ Some i → structure_in id (env ++ the_structure name entries ∷ []) ≡ Some es → IsIndex (out-Inner i).index es
  structure_below id i es is here = by_case (bytes_eq id name) refl
    where
      by_case : (b : Bool) → bytes_eq id name ≡ b → IsIndex (out-Inner i).index es
      by_case true same =
          let this : added ≡ i = (let e : Some added ≡ Some i = sym (inner_is_new id same) ∙ is in cc) in
          let given : structure_in id (env ++ the_structure name entries ∷ []) ≡ Some entries =
          structure_in_more id env (the_structure name entries)
          ∙ ap₂ option_or (not_given id same) (structure_of_structure id name entries ∙ ap (λ b. if b then Some entries else None) same) in
          let those : entries ≡ es = (let e : Some entries ≡ Some es = sym given ∙ here in cc) in
          subst₂ (λ (j : Inner) xs. IsIndex (out-Inner j).index xs) this those indexed
      by_case false differs =
          index_inner old env id i es h (sym (inner_is_old id differs) ∙ is)
          (sym (no_structure id env (the_structure name entries) (structure_of_structure id name entries ∙ ap (λ b. if b then Some entries else None) differs)) ∙ here)

  pub index_with_structure : IsIndex new (env ++ the_structure name entries ∷ [])
  index_with_structure =
      let level = index_level old env h in
      index_from new (env ++ the_structure name entries ∷ [])
      (record {
        types = λ id. ap (λ p. place_at p id) types ∙ kept_place (is_type id) env (the_structure name entries) _ (ap is_some (structure_is_no_type id name entries)) (level.types id);
        values = λ id. ap (λ p. place_at p id) values ∙ kept_place (is_value id) env (the_structure name entries) _ (ap is_some (structure_is_no_value id name entries)) (level.values id);
        structures = structure_placed;
        within = structure_within;
      })
      structure_below
