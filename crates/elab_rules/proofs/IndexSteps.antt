-- Indexes after one step: one more entry, or some of a list.
use Rattle.std.proofs.Common.{◌≡◌, ℕ, ◌+◌, ◌<◌, ◌≤◌, true, false, is_some, if◌then◌else◌, bytes_eq, List, [], ◌∷◌, ◌++◌, length, take, get_or, Option, Some, None, refl, sym, ap, ap₂, ◌∙◌, subst, subst₂, arith}
use Rattle.std.specs.Option.{option_or}
use Rattle.std.proofs.lemmas.List.{length-take-le, take_all, take_more}
use Rattle.elab_rules.specs.declared.entry.Entry.{Entry}
use Rattle.elab_rules.specs.declared.entry.Entry.TheVariants as entry
use Rattle.elab_rules.specs.declared.entry.TypeEntry.{TypeEntry}
use Rattle.elab_rules.specs.declared.entry.ValueEntry.{ValueEntry}
use Rattle.elab_rules.specs.declared.index.Index.{Index, out-Index}
use Rattle.elab_rules.specs.declared.index.Index.TheOpen.{Index-F}
use Rattle.elab_rules.specs.declared.index.Inner.{Inner, out-Inner}
use Rattle.elab_types.specs.declared.places.Places.{Places}
use Rattle.elab_rules.specs.Environments.{Environment, the_structure}
use Rattle.elab_rules.specs.Indexes.{IsIndex}
use Rattle.elab_types.specs.Places.{place_at}
use Rattle.elab_rules.proofs.IndexMore.{index_with_known, index_with_structure, index_with_type, index_with_value}

-- ---- a type constructor or a value more
pub type_indexed : (old new : Index) (types : Places) (more : Entry) (type : TypeEntry) (text : List ℕ) (place : ℕ)
    → out-Index new ≡ record { types = types; values = (out-Index old).values; structures = (out-Index old).structures; inner = (out-Index old).inner }
    → more ≡ entry.Tycon type → text ≡ type.id
    → ((id : List ℕ) → place_at types id ≡ option_or (place_at (out-Index old).types id) (if bytes_eq id text then Some place else None))
    → (env : Environment) → IsIndex old env → place ≡ length env → IsIndex new (env ++ more ∷ [])
type_indexed old new types more type text place out is named placed env h end =
    subst (λ e. IsIndex new (env ++ e ∷ [])) (sym is) (index_with_type old new env type h
    (λ id. ap (λ (r : Index-F Index Inner). place_at r.types id) out ∙ placed id ∙ ap₂ (λ t n. option_or (place_at (out-Index old).types id) (if bytes_eq id t then Some n else None)) named end)
    (ap (λ (r : Index-F Index Inner). r.values) out) (ap (λ (r : Index-F Index Inner). r.structures) out) (ap (λ (r : Index-F Index Inner). r.inner) out))

pub value_indexed : (old new : Index) (values : Places) (more : Entry) (value : ValueEntry) (text : List ℕ) (place : ℕ)
    → out-Index new ≡ record { types = (out-Index old).types; values = values; structures = (out-Index old).structures; inner = (out-Index old).inner }
    → more ≡ entry.Value value → text ≡ value.id
    → ((id : List ℕ) → place_at values id ≡ option_or (place_at (out-Index old).values id) (if bytes_eq id text then Some place else None))
    → (env : Environment) → IsIndex old env → place ≡ length env → IsIndex new (env ++ more ∷ [])
value_indexed old new values more value text place out is named placed env h end =
    subst (λ e. IsIndex new (env ++ e ∷ [])) (sym is) (index_with_value old new env value h
    (λ id. ap (λ (r : Index-F Index Inner). place_at r.values id) out ∙ placed id ∙ ap₂ (λ t n. option_or (place_at (out-Index old).values id) (if bytes_eq id t then Some n else None)) named end)
    (ap (λ (r : Index-F Index Inner). r.types) out) (ap (λ (r : Index-F Index Inner). r.structures) out) (ap (λ (r : Index-F Index Inner). r.inner) out))

-- ---- a structure more
-- its identifier has a place already
pub structure_known : (index : Index) (name : List ℕ) (env entries : Environment) → is_some (place_at (out-Index index).structures name) ≡ true → IsIndex index env → IsIndex index (env ++ the_structure name entries ∷ [])
structure_known index name env entries has h = by_case (place_at (out-Index index).structures name) refl has
  where
    by_case : (o : Option ℕ) → place_at (out-Index index).structures name ≡ o → is_some o ≡ true → IsIndex index (env ++ the_structure name entries ∷ [])
    by_case None at e = cc
    by_case (Some n) at e = index_with_known index env name entries n h at

-- it has none
pub structure_added : (old new : Index) (structures : Places) (inner : List Inner) (name : List ℕ) (added : Inner) (index : Index) (count place : ℕ)
    → out-Index new ≡ record { types = (out-Index old).types; values = (out-Index old).values; structures = structures; inner = inner }
    → is_some (place_at (out-Index old).structures name) ≡ false → count ≡ length (out-Index old).inner
    → ((id : List ℕ) → place_at structures id ≡ (if bytes_eq id name then Some count else place_at (out-Index old).structures id))
    → inner ≡ (out-Index old).inner ++ added ∷ [] → (out-Inner added).place ≡ place → (out-Inner added).index ≡ index
    → (env entries : Environment) → IsIndex old env → place ≡ length env → IsIndex index entries → IsIndex new (env ++ the_structure name entries ∷ [])
structure_added old new structures inner name added index count place out new_name counted placed pushed at below env entries h end indexed =
    index_with_structure old new env name entries added h (is_none (place_at (out-Index old).structures name) new_name)
    (ap (λ (r : Index-F Index Inner). r.types) out) (ap (λ (r : Index-F Index Inner). r.values) out)
    (λ id. ap (λ (r : Index-F Index Inner). place_at r.structures id) out ∙ placed id ∙ ap (λ n. if bytes_eq id name then Some n else place_at (out-Index old).structures id) counted)
    (ap (λ (r : Index-F Index Inner). r.inner) out ∙ pushed) (at ∙ end) (subst (λ (i : Index). IsIndex i entries) (sym below) indexed)
  where
    is_none : (o : Option ℕ) → is_some o ≡ false → o ≡ None
    is_none None e = refl
    is_none (Some n) e = cc

-- an entry that is a structure
pub structure_indexed : (new : Index) (more : Entry) (name text : List ℕ) (entries items env : Environment) → more ≡ entry.Structure name entries → text ≡ name → items ≡ entries
    → IsIndex new (env ++ the_structure text items ∷ []) → IsIndex new (env ++ more ∷ [])
structure_indexed new more name text entries items env is named same h =
    subst (λ e. IsIndex new (env ++ e ∷ [])) (sym is) (subst₂ (λ t es. IsIndex new (env ++ the_structure t es ∷ [])) named same h)

-- ---- the entries of a list in turn
pub indexed_further : (index : Index) (entries : Environment) (place : ℕ) (more : Entry) → place < length entries → more ≡ get_or entries place more
    → (place ≡ length (take place entries) → IsIndex index (take place entries ++ more ∷ [])) → IsIndex index (take (place + 1) entries)
indexed_further index entries place more within here added =
    subst (IsIndex index) (ap (λ e. take place entries ++ e ∷ []) here ∙ sym (take_more entries place more within))
    (added (sym (length-take-le place entries (omega (arith, within)))))

pub indexed_whole : (index : Index) (entries : Environment) (place : ℕ) → length entries ≤ place → IsIndex index (take place entries) → IsIndex index entries
indexed_whole index entries place past h = subst (IsIndex index) (take_all place entries past) h
