-- What two structures of a body share, path by path.
use Rattle.std.proofs.Common.{◌≡◌, ℕ, ◌+◌, ◌<◌, List, [], ◌∷◌, ◌++◌, length, drop, get_or, Option, Some, None, Ok, Err, refl, sym, ap, ap₂, ◌∙◌, append_assoc}
use Rattle.std.specs.Option.{option_and_then, option_map}
use Rattle.std.proofs.lemmas.Option.{slice_get_read}
use Rattle.type_core.proofs.Trees.{EachOf}
use Rattle.type_core.specs.declared.ty.Ty.{Ty}
use Rattle.elab_rules.specs.declared.entry.Entry.{Entry}
use Rattle.elab_rules.specs.declared.entry.Entry.TheVariants as entry
use Rattle.elab_rules.specs.declared.entry.TypeEntry.{TypeEntry}
use Rattle.elab_rules.specs.declared.entry.ValueEntry.{ValueEntry}
use Rattle.elab_rules.specs.Bodies.{Described, Site}
use Rattle.elab_rules.specs.Distinct.{AreDistinct}
use Rattle.elab_rules.specs.Environments.{Environment, structure_in, type_in}
use Rattle.elab_rules.specs.Joining.{IsEntryAlong}
use Rattle.elab_rules.specs.LongIdentifiers.{Found, found_in, structure_along, type_along}
use Rattle.elab_types.specs.Outcome.{and_then}
use Rattle.elab_rules.specs.Replacing.{environment_with, type_with}
use Rattle.elab_rules.specs.Sharing.{entry_paths, functions_shared, if_both, paths_from, paths_shared}
use Rattle.elab_rules.specs.States.{State}
use Rattle.elab_rules.proofs.Entries.{each_entry, induct_entry}
use Rattle.elab_rules.proofs.IndexWith.{paths_structure, paths_type, paths_value}
use Rattle.elab_rules.proofs.LookedUp.{found_with, type_along_with}
use Rattle.elab_types.proofs.Lists.{dropped}
use Rattle.elab_realizing.proofs.PathsShared.{shared_appended, structure_at_end, structure_is_found, type_at_end, type_is_found}

whole_outcome : (o : Described) → and_then o (λ r. Ok (r.0, r.1)) ≡ o
whole_outcome (Ok r) = refl
whole_outcome (Err failure) = refl

module _ (a b : List (List ℕ)) (token : ℕ) (site : Site) where
  -- ---- one path
  one_path : (path : List (List ℕ)) (own : Environment) (s : State) → paths_shared a b token (path ∷ []) site own s ≡ if_both (type_along (a ++ path) own) (type_along (b ++ path) own) token site own s
  one_path path own s = whole_outcome (if_both (type_along (a ++ path) own) (type_along (b ++ path) own) token site own s)

  -- ---- where the other structure has nothing
  nothing_shared : (found : Option Found) (own : Environment) (s : State) → if_both found None token site own s ≡ Ok (own, s)
  nothing_shared None own s = refl
  nothing_shared (Some f) own s = refl

  -- nothing stands below the path in the other structure
  abbrev IsMissing : List (List ℕ) → Environment → Type 0
  IsMissing path own = (id : List ℕ) (ids : List (List ℕ)) → type_along (b ++ (path ++ id ∷ ids)) own ≡ None

  module _ (own : Environment) (s : State) where
    abbrev SharesNothing : Entry → Type 0
    SharesNothing e = (path : List (List ℕ)) → IsMissing path own → paths_shared a b token (entry_paths e path) site own s ≡ Ok (own, s)

    all_share_nothing : (es : List Entry) → EachOf SharesNothing es → (path : List (List ℕ)) → IsMissing path own → paths_shared a b token (paths_from path es) site own s ≡ Ok (own, s)
    all_share_nothing [] hs path missing = refl
    all_share_nothing (e ∷ es) hs path missing =
        shared_appended a b token (entry_paths e path) (paths_from path es) site own s
        ∙ ap (λ o. and_then o (λ r. paths_shared a b token (paths_from path es) site r.0 r.1)) (hs.0 path missing)
        ∙ all_share_nothing es hs.1 path missing

    entry_shares_nothing : (e : Entry) → SharesNothing e
    entry_shares_nothing = induct_entry SharesNothing
        (λ type path missing.
        ap (λ paths. paths_shared a b token paths site own s) (paths_type type path)
        ∙ one_path (path ++ type.id ∷ []) own s
        ∙ ap (λ o. if_both (type_along (a ++ (path ++ type.id ∷ [])) own) o token site own s) (missing type.id [])
        ∙ nothing_shared (type_along (a ++ (path ++ type.id ∷ [])) own) own s)
        (λ value path missing. ap (λ paths. paths_shared a b token paths site own s) (paths_value value path))
        (λ id es hs path missing.
        ap (λ paths. paths_shared a b token paths site own s) (paths_structure id es path)
        ∙ all_share_nothing es hs (path ++ id ∷ []) (λ next ids. ap (λ p. type_along (b ++ p) own) (append_assoc path (id ∷ []) (next ∷ ids)) ∙ missing id (next ∷ ids)))

    pub nothing_below : (es : List Entry) (path : List (List ℕ)) → IsMissing path own → paths_shared a b token (paths_from path es) site own s ≡ Ok (own, s)
    nothing_below es = all_share_nothing es (each_entry SharesNothing entry_shares_nothing es)

-- ---- along a path that no structure ends
pub type_along_after : (ids : List (List ℕ)) (next : List ℕ) (more : List (List ℕ)) (env : Environment) → type_along (ids ++ next ∷ more) env ≡ option_and_then (type_along (next ∷ more)) (structure_along ids env)
type_along_after [] next more env = refl
type_along_after (x ∷ []) next more env = by_case (structure_in x env)
  where
    by_case : (o : Option Environment) → option_and_then (type_along (next ∷ more)) o ≡ option_and_then (type_along (next ∷ more)) (option_and_then (structure_along []) o)
    by_case None = refl
    by_case (Some es) = refl
type_along_after (x ∷ y ∷ ids) next more env = by_case (λ es. type_along_after (y ∷ ids) next more es) (structure_in x env)
  where
    by_case : ((es : Environment) → type_along (y ∷ (ids ++ next ∷ more)) es ≡ option_and_then (type_along (next ∷ more)) (structure_along (y ∷ ids) es))
        → (o : Option Environment) → option_and_then (type_along (y ∷ (ids ++ next ∷ more))) o ≡ option_and_then (type_along (next ∷ more)) (option_and_then (structure_along (y ∷ ids)) o)
    by_case rest None = refl
    by_case rest (Some es) = rest es

-- where a structure has none of an identifier, nothing stands below that
pub missing_structure : (b path : List (List ℕ)) (id : List ℕ) (whole other : Environment) → structure_along (b ++ path) whole ≡ Some other → structure_in id other ≡ None
    → (next : List ℕ) (more : List (List ℕ)) → type_along (b ++ ((path ++ id ∷ []) ++ next ∷ more)) whole ≡ None
missing_structure b path id whole other along none next more =
    ap (λ ids. type_along ids whole) (sym (append_assoc b (path ++ id ∷ []) (next ∷ more)) ∙ ap (λ ids. ids ++ next ∷ more) (sym (append_assoc b path (id ∷ []))))
    ∙ type_along_after ((b ++ path) ++ id ∷ []) next more whole
    ∙ ap (option_and_then (type_along (next ∷ more))) (structure_at_end (b ++ path) id whole ∙ ap (option_and_then (structure_in id)) along ∙ none)

-- ---- an entry that stands along a path, and the other structure of the same path
module _ (a b path : List (List ℕ)) (token : ℕ) (site : Site) (s : State) (g : Ty → Ty) (whole other : Environment) (x : Entry) (along : structure_along (b ++ path) whole ≡ Some other) where
  abbrev own : Environment
  own = environment_with g whole

  abbrev entry_shared : Described
  entry_shared = paths_shared a b token (entry_paths x path) site own s

  -- a type constructor of the other structure, by now
  other_type : (id : List ℕ) → type_along (b ++ (path ++ id ∷ [])) own ≡ option_map (found_with g) (found_in other (type_in id other))
  other_type id =
      type_along_with g (b ++ (path ++ id ∷ [])) whole
      ∙ ap (option_map (found_with g)) (ap (λ ids. type_along ids whole) (sym (append_assoc b path (id ∷ []))) ∙ type_at_end (b ++ path) id whole ∙ ap (option_and_then (λ env. found_in env (type_in id env))) along)

  -- a value shares nothing
  pub value_shared : (value : ValueEntry) → x ≡ entry.Value value → entry_shared ≡ Ok (own, s)
  value_shared value is = ap (λ e. paths_shared a b token (entry_paths e path) site own s) is ∙ ap (λ paths. paths_shared a b token paths site own s) (paths_value value path)

  type_by_path : (type : TypeEntry) → x ≡ entry.Tycon type → entry_shared ≡ if_both (type_along (a ++ (path ++ type.id ∷ [])) own) (type_along (b ++ (path ++ type.id ∷ [])) own) token site own s
  type_by_path type is =
      ap (λ e. paths_shared a b token (entry_paths e path) site own s) is
      ∙ ap (λ paths. paths_shared a b token paths site own s) (paths_type type path)
      ∙ one_path a b token site (path ++ type.id ∷ []) own s

  -- a type constructor that the other structure hasn't
  pub type_missing : (type : TypeEntry) → x ≡ entry.Tycon type → type_in type.id other ≡ None → entry_shared ≡ Ok (own, s)
  type_missing type is none =
      type_by_path type is
      ∙ ap (λ o. if_both (type_along (a ++ (path ++ type.id ∷ [])) own) o token site own s) (other_type type.id ∙ ap (λ o. option_map (found_with g) (found_in other o)) none)
      ∙ nothing_shared a b token site (type_along (a ++ (path ++ type.id ∷ [])) own) own s

  -- one that it has
  pub type_shared : (type found : TypeEntry) → x ≡ entry.Tycon type → AreDistinct whole → IsEntryAlong (a ++ path) x whole → type_in type.id other ≡ Some found
      → entry_shared ≡ functions_shared (type_with g type).fun (type_with g found).fun token site own s
  type_shared type found is distinct stands some =
      let here : type_along (a ++ (path ++ type.id ∷ [])) whole ≡ found_in stands.entries (Some type) =
      ap (λ ids. type_along ids whole) (sym (append_assoc a path (type.id ∷ []))) ∙ type_is_found whole stands.entries (a ++ path) stands.place type distinct stands.along (stands.stands ∙ ap Some is) in
      type_by_path type is
      ∙ ap₂ (λ o q. if_both o q token site own s) (type_along_with g (a ++ (path ++ type.id ∷ [])) whole ∙ ap (option_map (found_with g)) here) (other_type type.id ∙ ap (λ o. option_map (found_with g) (found_in other o)) some)

  -- what it has in one that it has
  pub structure_shared : (id : List ℕ) (entries : List Entry) → x ≡ entry.Structure id entries → entry_shared ≡ paths_shared a b token (paths_from (path ++ id ∷ []) entries) site own s
  structure_shared id entries is =
      ap (λ e. paths_shared a b token (entry_paths e path) site own s) is
      ∙ ap (λ paths. paths_shared a b token paths site own s) (paths_structure id entries path)

  -- a structure that the other one hasn't
  pub structure_missing : (id : List ℕ) (entries : List Entry) → x ≡ entry.Structure id entries → structure_in id other ≡ None → entry_shared ≡ Ok (own, s)
  structure_missing id entries is none =
      structure_shared id entries is
      ∙ nothing_below a b token site own s entries (path ++ id ∷ [])
      (λ next more. type_along_with g (b ++ ((path ++ id ∷ []) ++ next ∷ more)) whole ∙ ap (option_map (found_with g)) (missing_structure b path id whole other along none next more))

  -- where the entries of both stand
  pub inner_along : (id : List ℕ) (entries : List Entry) → x ≡ entry.Structure id entries → AreDistinct whole → IsEntryAlong (a ++ path) x whole → structure_along (a ++ (path ++ id ∷ [])) whole ≡ Some entries
  inner_along id entries is distinct stands =
      ap (λ ids. structure_along ids whole) (sym (append_assoc a path (id ∷ [])))
      ∙ structure_is_found whole stands.entries entries (a ++ path) stands.place id distinct stands.along (stands.stands ∙ ap Some is)

  pub other_along : (id : List ℕ) (inner : Environment) → structure_in id other ≡ Some inner → structure_along (b ++ (path ++ id ∷ [])) whole ≡ Some inner
  other_along id inner some =
      ap (λ ids. structure_along ids whole) (sym (append_assoc b path (id ∷ [])))
      ∙ structure_at_end (b ++ path) id whole ∙ ap (option_and_then (structure_in id)) along ∙ some

-- ---- entries in turn
module _ (a b path : List (List ℕ)) (token : ℕ) (site : Site) (own : Environment) (s : State) (entries : List Entry) (i : ℕ) (x d : Entry) (all : Described)
    (within : i < length entries) (is : x ≡ get_or entries i d) (so_far : paths_shared a b token (paths_from path (drop i entries)) site own s ≡ all) where
  abbrev rest : Environment × State → Described
  rest r = paths_shared a b token (paths_from path (drop (i + 1) entries)) site r.0 r.1

  pub entry_turn : and_then (paths_shared a b token (entry_paths x path) site own s) rest ≡ all
  entry_turn =
      sym (shared_appended a b token (entry_paths x path) (paths_from path (drop (i + 1) entries)) site own s)
      ∙ sym (ap (λ es. paths_shared a b token (paths_from path es) site own s) (dropped entries i x d within is))
      ∙ so_far

  pub entry_moves_on : (more : Environment) (t : State) → paths_shared a b token (entry_paths x path) site own s ≡ Ok (more, t) → paths_shared a b token (paths_from path (drop (i + 1) entries)) site more t ≡ all
  entry_moves_on more t ok = sym (ap (λ o. and_then o rest) ok) ∙ entry_turn

-- the entry that a loop is at stands along the path
pub item_along : (path : List (List ℕ)) (whole : Environment) (entries : List Entry) (i : ℕ) (x : Entry) → i < length entries → x ≡ get_or entries i x → structure_along path whole ≡ Some entries → IsEntryAlong path x whole
item_along path whole entries i x within is along = record { entries = entries; place = i; along = along; stands = slice_get_read entries (length entries) i x refl within is }
