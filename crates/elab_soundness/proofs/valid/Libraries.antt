-- The library of a sound basis is valid.
use Rattle.std.proofs.Common.{◌≡◌, ◌≢◌, ◌⊎◌, ℕ, zero, suc, ◌≤◌, Bool, true, false, true≢false, not, if◌then◌else◌, List, [], ◌∷◌, ◌++◌, drop, length, map, slice_get, slice_index_or, refl, sym, ap, ap₂, ◌∙◌, subst, arith}
use Rattle.std.proofs.lemmas.Bool.{and_parts, not-true}
use Rattle.std.proofs.lemmas.List.{length-map, map-append}
use Rattle.std.proofs.lemmas.List.Elements.{All-append, All-cons, All-contains, All-contains_itself, All-head, All-map, All-nil, All-tail, All-weaker}
use Rattle.std.proofs.lemmas.List.Kept.{AllPairs-cons}
use Rattle.std.proofs.Math.Seq.{drop-append_seam}
use Rattle.std.specs.List.{All, Contains, filter}
use Rattle.sig_base.specs.Identifiers.{IsAlphanumeric}
use Rattle.type_core.specs.declared.library.Library.{Library}
use Rattle.type_core.specs.declared.library.Tycon.{Tycon}
use Rattle.type_core.specs.declared.member.Member.{Member}
use Rattle.type_core.specs.declared.names.Equality.TheVariants.{Never, IfArgs}
use Rattle.type_core.specs.declared.names.TypeName.{TypeName}
use Rattle.type_core.specs.declared.ty.Ty.{Ty}
use Rattle.type_core.specs.InitialNames.{initial_names}
use Rattle.type_core.specs.Lists.{concatenated}
use Rattle.type_core.specs.NormalSize.{normal_size_of}
use Rattle.sig_base.specs.LongIdentifiers.{HasShortParts, IsLong, IsPath, IsShort, parts}
use Rattle.sig_base.proofs.LongIdentifiers.{NoDot, identifier_alone, long_onward, path_onward}
use Rattle.type_core.specs.Paths.{IsMemberIdentifier, IsMemberPath, IsTypeIdentifier, IsTypePath}
use Rattle.type_core.specs.Schemes.{IsScheme}
use Rattle.type_core.specs.TypeFunctions.{IsTypeFn}
use Rattle.type_core.specs.Types.{takes}
use Rattle.type_core.specs.ValidLibrary.{AreDistinct, BeginsWithUnit, IsTypeOf, IsUnit, IsValidLibrary, IsWithinLimits, described_names, external_names, own_names, path_and_arity}
use Rattle.elab_rules.specs.declared.entry.TypeEntry.{TypeEntry}
use Rattle.elab_rules.specs.declared.entry.UnitEntry.{UnitEntry}
use Rattle.elab_rules.specs.declared.entry.ValueEntry.{ValueEntry}
use Rattle.elab_rules.specs.Copies.{with_numbers}
use Rattle.elab_rules.specs.Environments.{Environment, the_structure, the_type, the_value}
use Rattle.elab_rules.specs.Files.{first_of}
use Rattle.elab_rules.specs.Library.{Basis, entry_members, entry_tycons, kept_names, library, number_kept, unit_members, unit_of, unit_renumbered, unit_tycons, units_renumbered}
use Rattle.elab_soundness.specs.Soundness.{IsSoundBasis, IsSoundName, IsSoundTycon, IsSoundType, IsSoundUnit, IsSoundValue, IsUnitId, Known, known_by, made_paths, no_entries, paths_within, structure_entry, type_entry, unit_paths, value_entry}
use Rattle.elab_rules.specs.States.{State, member_of, tycon_of, within}
use Rattle.elab_soundness.proofs.valid.Body.{no_dots}
use Rattle.elab_soundness.proofs.valid.KnownNames.{names_over}
use Rattle.elab_types.proofs.Lists.{all_in_lists, pairs_parts, unmapped}
use Rattle.elab_soundness.proofs.valid.LongPaths.{first_part, type_no_dot, value_no_dot}
use Rattle.elab_soundness.proofs.valid.Named.{all_kept, kept_together}
use Rattle.elab_soundness.proofs.valid.Numbered.{environment_numbered}
use Rattle.elab_soundness.proofs.valid.Paths.{ArePaths, member_paths, member_paths_within, members_structure, members_type, members_value, members_within, paths_with, tycon_paths, tycons_structure, tycons_type, tycons_value, tycons_within, within_within}
use Rattle.elab_soundness.proofs.valid.States.{filtered}
use Rattle.elab_soundness.proofs.valid.Units.{unit_ids, units_distinct}
use Rattle.elab_soundness.proofs.valid.Weaker.{AreSound}

-- ---- names that are left
kept_at : (names : List TypeName) (flags : List Bool) (n count : ℕ) → length flags ≡ length names → takes (slice_get names n) count ≡ true → slice_index_or flags n false ≡ false
    → takes (slice_get (kept_names names flags) (number_kept flags n)) count ≡ true
kept_at [] flags n count e t f = absurd (true≢false (sym t))
kept_at (name ∷ names) [] n count e t f = absurd (omega (arith, e))
kept_at (name ∷ names) (true ∷ flags) zero count e t f = absurd (true≢false f)
kept_at (name ∷ names) (false ∷ flags) zero count e t f = t
kept_at (name ∷ names) (true ∷ flags) (suc n) count e t f = kept_at names flags n count (omega (arith, e)) t f
kept_at (name ∷ names) (false ∷ flags) (suc n) count e t f = kept_at names flags n count (omega (arith, e)) t f

kept_all : (names : List TypeName) → kept_names names (map (λ name. false) names) ≡ names
kept_all [] = refl
kept_all (name ∷ names) = ap (λ rest. name ∷ rest) (kept_all names)

-- pairs that were distinct are so among the names that are left
module _ (g : TypeName → List ℕ × ℕ) (test : TypeName → Bool) where
  abbrev listed : List TypeName → List (List ℕ × ℕ)
  listed names = map g (filter test names)

  all_listed : (P : List ℕ × ℕ → Type 0) (names : List TypeName) (flags : List Bool) → All P (listed names) → All P (listed (kept_names names flags))
  all_listed P [] flags h = h
  all_listed P (name ∷ names) flags h = by_flags flags (λ fs k. all_listed P names fs k) h
    where
      dropped : (b : Bool) (rest : List TypeName) → All P (map g (if b then name ∷ rest else rest)) → All P (map g rest)
      dropped true rest k = All-tail P (g name) (map g rest) k
      dropped false rest k = k

      stays : (b : Bool) (xs ys : List TypeName) → (All P (map g xs) → All P (map g ys)) → All P (map g (if b then name ∷ xs else xs)) → All P (map g (if b then name ∷ ys else ys))
      stays true xs ys next k = All-cons P (g name) (map g ys) (All-head P (g name) (map g xs) k) (next (All-tail P (g name) (map g xs) k))
      stays false xs ys next k = next k

      by_flags : (fs : List Bool) → ((rest : List Bool) → All P (listed names) → All P (listed (kept_names names rest))) → All P (listed (name ∷ names)) → All P (listed (kept_names (name ∷ names) fs))
      by_flags [] next k = stays (test name) (filter test names) (filter test (kept_names names [])) (next []) k
      by_flags (true ∷ fs) next k = next fs (dropped (test name) (filter test names) k)
      by_flags (false ∷ fs) next k = stays (test name) (filter test names) (filter test (kept_names names fs)) (next fs) k

  distinct_kept : (names : List TypeName) (flags : List Bool) → AreDistinct (listed names) → AreDistinct (listed (kept_names names flags))
  distinct_kept [] flags h = h
  distinct_kept (name ∷ names) flags h = by_flags flags (λ P fs k. all_listed P names fs k) (λ fs k. distinct_kept names fs k) h
    where
      dropped : (b : Bool) (rest : List TypeName) → AreDistinct (map g (if b then name ∷ rest else rest)) → AreDistinct (map g rest)
      dropped true rest k = (pairs_parts (λ a b. a ≢ b) (g name) (map g rest) k).1
      dropped false rest k = k

      stays : (b : Bool) (xs ys : List TypeName) → ((P : List ℕ × ℕ → Type 0) → All P (map g xs) → All P (map g ys)) → (AreDistinct (map g xs) → AreDistinct (map g ys)) → AreDistinct (map g (if b then name ∷ xs else xs))
          → AreDistinct (map g (if b then name ∷ ys else ys))
      stays true xs ys all next k = let p = pairs_parts (λ a b. a ≢ b) (g name) (map g xs) k in AllPairs-cons (λ a b. a ≢ b) (g name) (map g ys) (all (λ q. g name ≢ q) p.0) (next p.1)
      stays false xs ys all next k = next k

      by_flags : (fs : List Bool) → ((P : List ℕ × ℕ → Type 0) (rest : List Bool) → All P (listed names) → All P (listed (kept_names names rest))) → ((rest : List Bool) → AreDistinct (listed names) → AreDistinct (listed (kept_names names rest)))
          → AreDistinct (listed (name ∷ names)) → AreDistinct (listed (kept_names (name ∷ names) fs))
      by_flags [] all next k = stays (test name) (filter test names) (filter test (kept_names names [])) (λ P. all P []) (next []) k
      by_flags (true ∷ fs) all next k = next fs (dropped (test name) (filter test names) k)
      by_flags (false ∷ fs) all next k = stays (test name) (filter test names) (filter test (kept_names names fs)) (λ P. all P fs) (next fs) k

-- what is so of those that pass a test, and of those that don't
split : {A : Type 0} (P : A → Type 0) (test : A → Bool) (xs : List A) → All P (filter test xs) → All P (filter (λ x. not (test x)) xs) → All P xs
split P test [] h k = All-nil P
split {A = A} P test (x ∷ xs) h k = by_case (test x) (filter test xs) (filter (λ y. not (test y)) xs) (split P test xs) h k
  where
    by_case : (b : Bool) (first second : List A) → (All P first → All P second → All P xs) → All P (if b then x ∷ first else first) → All P (if not b then x ∷ second else second) → All P (x ∷ xs)
    by_case true first second rest p q = All-cons P x xs (All-head P x first p) (rest (All-tail P x first p) q)
    by_case false first second rest p q = All-cons P x xs (All-head P x second q) (rest p (All-tail P x second q))

-- ---- what is so of all type constructors, and of all members
module _ (known : Known) (S : List ℕ → Type 0) (deeper : (path id : List ℕ) → S path → IsUnitId id → S (within path id)) where
  tycons_so : (T : Tycon → Type 0) → ((path : List ℕ) (type : TypeEntry) → S path → IsSoundTycon known type → T (tycon_of path type)) → (path : List ℕ) (env : Environment) → S path → AreSound known env → All T (tycons_within path env)
  tycons_so T one path env s no_entries = All-nil T
  tycons_so T one path env s (type_entry {type = t} {entries = es} p h) =
      All-append T (entry_tycons (the_type t) path) (tycons_within path es) (subst (All T) (sym (tycons_type t path)) (All-cons T (tycon_of path t) [] (one path t s p) (All-nil T))) (tycons_so T one path es s h)
  tycons_so T one path env s (value_entry {value = v} {entries = es} p h) =
      All-append T (entry_tycons (the_value v) path) (tycons_within path es) (subst (All T) (sym (tycons_value v path)) (All-nil T)) (tycons_so T one path es s h)
  tycons_so T one path env s (structure_entry {id = id} {inner = inner} {entries = es} r k h) =
      All-append T (entry_tycons (the_structure id inner) path) (tycons_within path es)
      (subst (All T) (sym (tycons_structure id inner path)) (tycons_so T one (within path id) inner (deeper path id s r) k)) (tycons_so T one path es s h)

  members_so : (T : Member → Type 0) → ((path : List ℕ) (value : ValueEntry) → S path → IsSoundValue known value → T (member_of path value)) → (path : List ℕ) (env : Environment) → S path → AreSound known env → All T (members_within path env)
  members_so T one path env s no_entries = All-nil T
  members_so T one path env s (type_entry {type = t} {entries = es} p h) =
      All-append T (entry_members (the_type t) path) (members_within path es) (subst (All T) (sym (members_type t path)) (All-nil T)) (members_so T one path es s h)
  members_so T one path env s (value_entry {value = v} {entries = es} p h) =
      All-append T (entry_members (the_value v) path) (members_within path es) (subst (All T) (sym (members_value v path)) (All-cons T (member_of path v) [] (one path v s p) (All-nil T))) (members_so T one path es s h)
  members_so T one path env s (structure_entry {id = id} {inner = inner} {entries = es} r k h) =
      All-append T (entry_members (the_structure id inner) path) (members_within path es)
      (subst (All T) (sym (members_structure id inner path)) (members_so T one (within path id) inner (deeper path id s r) k)) (members_so T one path es s h)

-- ---- the basis
module _ (basis : Basis) (h : IsSoundBasis basis) where
  abbrev s : State
  s = basis.state

  abbrev f : ℕ → ℕ
  f = number_kept s.gone

  abbrev kept : List TypeName
  kept = kept_names s.names s.gone

  abbrev known_after : Known
  known_after n count = takes (slice_get kept n) count

  abbrev the_library : Library
  the_library = library basis

  known_kept : (n count : ℕ) → known_by s n count ≡ true → known_after (f n) count ≡ true
  known_kept n count e =
      let p = and_parts (takes (slice_get s.names n) count) _ e in
      kept_at s.names s.gone n count ((h.state).sound).counted p.0 (not-true (slice_index_or s.gone n false) p.1)

  same_ids : (units : List UnitEntry) → map (λ unit. unit.id) (map unit_of units) ≡ unit_ids units
  same_ids [] = refl
  same_ids (unit ∷ units) = ap (λ ids. unit.id ∷ ids) (same_ids units)

  -- a long identifier at a path makes a path from an identifier on
  abbrev Leads : (List ℕ → Type 0) → List ℕ → List ℕ → Type 0
  Leads Last path first = (text : List ℕ) → IsLong Last text × HasShortParts text → (rest : List ℕ) × ((within path text ≡ within first rest) × (IsLong Last rest × HasShortParts rest))

  -- a path at which an environment of the library stands
  record IsPlace (path : List ℕ) : Type 0 where
    first : List ℕ
    known : IsUnit the_library first
    id : IsUnitId first
    types : Leads IsTypeIdentifier path first
    values : Leads IsMemberIdentifier path first

  leads_deeper : (Last : List ℕ → Type 0) (path first id : List ℕ) → IsUnitId id → Leads Last path first → Leads Last (within path id) first
  leads_deeper Last path first id k leads text l = let q = leads (within id text) (long_onward Last id text k.alphanumeric k.short l) in (q.0, (within_within path id text ∙ q.1.0, q.1.1))

  deeper : (path id : List ℕ) → IsPlace path → IsUnitId id → IsPlace (within path id)
  deeper path id p k = record {
    first = p.first;
    known = p.known;
    id = p.id;
    types = leads_deeper IsTypeIdentifier path p.first id k p.types;
    values = leads_deeper IsMemberIdentifier path p.first id k p.values;
  }

  path_is : (Last : List ℕ → Type 0) (path id : List ℕ) (p : IsPlace path) → Leads Last path p.first → NoDot id → IsShort id → Last id → IsPath Last (within path id) × HasShortParts (within path id)
  path_is Last path id p leads none short spelled =
      let q = leads id (identifier_alone Last id none short spelled) in
      subst (λ text. IsPath Last text × HasShortParts text) (sym q.1.0) (path_onward Last p.first q.0 (p.id).alphanumeric (p.id).short q.1.1)

  begins : (Last : List ℕ → Type 0) (path id : List ℕ) (p : IsPlace path) → Leads Last path p.first → NoDot id → IsShort id → Last id → BeginsWithUnit the_library (within path id)
  begins Last path id p leads none short spelled = let q = leads id (identifier_alone Last id none short spelled) in (p.first, p.known, (q.0, q.1.0))

  type_of_library : (t : Ty) → IsSoundType known_after t → IsTypeOf the_library t
  type_of_library t k = record { over = record { is_type = k.is_type; over = names_over known_after kept (λ n count e. e) t k.names }; labels = k.labels }

  -- what is asked of a type constructor, and of a member
  record IsValidTycon (tycon : Tycon) : Type 0 where
    path : IsTypePath tycon.path
    begins : BeginsWithUnit the_library tycon.path
    arity : tycon.fun.arity ≤ 1999
    function : IsTypeFn tycon.fun
    type : IsTypeOf the_library tycon.fun.body
    limits : IsWithinLimits tycon.fun.body

  record IsValidMember (member : Member) : Type 0 where
    path : IsMemberPath member.path
    begins : BeginsWithUnit the_library member.path
    scheme : IsScheme member.scheme
    type : IsTypeOf the_library member.scheme.body
    limits : IsWithinLimits member.scheme.body
    normal : normal_size_of member.scheme.body ≤ 8000

  valid_tycon : (path : List ℕ) (type : TypeEntry) → IsPlace path → IsSoundTycon known_after type → IsValidTycon (tycon_of path type)
  valid_tycon path type p k =
      let id = k.id in
      let fun = k.fun in
      let formed = fun.formed in
      record {
        path = path_is IsTypeIdentifier path type.id p p.types (type_no_dot type.id id.spelled) id.short id.spelled;
        begins = begins IsTypeIdentifier path type.id p p.types (type_no_dot type.id id.spelled) id.short id.spelled;
        arity = formed.arity;
        function = formed.function;
        type = type_of_library type.fun.body formed.body;
        limits = fun.limits;
      }

  valid_member : (path : List ℕ) (value : ValueEntry) → IsPlace path → IsSoundValue known_after value → IsValidMember (member_of path value)
  valid_member path value p k =
      let id = k.id in
      let scheme = k.scheme in
      let formed = scheme.formed in
      record {
        path = path_is IsMemberIdentifier path value.id p p.values (value_no_dot value.id id.spelled) id.short id.spelled;
        begins = begins IsMemberIdentifier path value.id p p.values (value_no_dot value.id id.spelled) id.short id.spelled;
        scheme = formed.scheme;
        type = type_of_library value.scheme.body formed.body;
        limits = scheme.limits;
        normal = scheme.normal;
      }

  -- a unit as the library has it
  record IsOneOf (unit : UnitEntry) : Type 0 where
    place : IsPlace unit.id
    entries : AreSound known_after unit.entries

  place_of_unit : (unit : UnitEntry) → IsSoundUnit s unit → IsUnit the_library unit.id → IsPlace unit.id
  place_of_unit unit k known = record { first = unit.id; known = known; id = k.id; types = λ text l. (text, (refl, l)); values = λ text l. (text, (refl, l)) }

  units_known : All (λ unit. IsUnit the_library unit.id) basis.units
  units_known = subst (λ xs. All (λ (unit : UnitEntry). Contains xs unit.id) basis.units) (sym (same_ids basis.units)) (unmapped (Contains (unit_ids basis.units)) (λ (unit : UnitEntry). unit.id) basis.units (All-contains_itself (unit_ids basis.units)))

  all_of : (units : List UnitEntry) → All (IsSoundUnit s) units → All (λ (unit : UnitEntry). IsUnit the_library unit.id) units → All IsOneOf (map (unit_renumbered s.gone) units)
  all_of [] k l = All-nil IsOneOf
  all_of (unit ∷ units) k l =
      let u = All-head (IsSoundUnit s) unit units k in
      All-cons IsOneOf (unit_renumbered s.gone unit) (map (unit_renumbered s.gone) units)
      (record { place = place_of_unit unit u (All-head (λ (x : UnitEntry). IsUnit the_library x.id) unit units l); entries = (environment_numbered (known_by s) known_after f known_kept unit.entries u.entries).entries })
      (all_of units (All-tail (IsSoundUnit s) unit units k) (All-tail (λ (x : UnitEntry). IsUnit the_library x.id) unit units l))

  units_are : All IsOneOf (units_renumbered basis)
  units_are = all_of basis.units h.units units_known

  tycons_valid : All IsValidTycon the_library.tycons
  tycons_valid = all_in_lists IsOneOf IsValidTycon unit_tycons (λ unit k. tycons_so known_after IsPlace deeper IsValidTycon valid_tycon unit.id unit.entries k.place k.entries) (units_renumbered basis) units_are

  members_valid : All IsValidMember the_library.members
  members_valid = all_in_lists IsOneOf IsValidMember unit_members (λ unit k. members_so known_after IsPlace deeper IsValidMember valid_member unit.id unit.entries k.place k.entries) (units_renumbered basis) units_are

  -- ---- paths
  map_concatenated : {A : Type 0} (g : A → List ℕ) (listed_of : UnitEntry → List A) (units : List UnitEntry) → map g (concatenated (map listed_of units)) ≡ concatenated (map (λ unit. map g (listed_of unit)) units)
  map_concatenated g listed_of [] = refl
  map_concatenated g listed_of (unit ∷ units) = map-append g (listed_of unit) (concatenated (map listed_of units)) ∙ ap (λ rest. map g (listed_of unit) ++ rest) (map_concatenated g listed_of units)

  paths_stay : (types values : Bool) (paths : List ℕ → Environment → List (List ℕ)) (are : ArePaths types values paths) (units : List UnitEntry) → All (IsSoundUnit s) units
      → concatenated (map (λ (unit : UnitEntry). paths unit.id unit.entries) (map (unit_renumbered s.gone) units)) ≡ concatenated (map (λ (unit : UnitEntry). paths unit.id unit.entries) units)
  paths_stay types values paths are [] k = refl
  paths_stay types values paths are (unit ∷ units) k =
      let u = All-head (IsSoundUnit s) unit units k in
      ap₂ ◌++◌ (paths_with types values paths are (with_numbers f) unit.id unit.entries (no_dots (known_by s) unit.entries (u.entries).entries)) (paths_stay types values paths are units (All-tail (IsSoundUnit s) unit units k))

  tycon_paths_are : map (λ (t : Tycon). t.path) the_library.tycons ≡ unit_paths basis.units
  tycon_paths_are = map_concatenated (λ (t : Tycon). t.path) unit_tycons (units_renumbered basis) ∙ paths_stay true false paths_within tycon_paths basis.units h.units

  member_paths_are : map (λ (m : Member). m.path) the_library.members ≡ concatenated (map (λ (unit : UnitEntry). member_paths_within unit.id unit.entries) basis.units)
  member_paths_are = map_concatenated (λ (m : Member). m.path) unit_members (units_renumbered basis) ∙ paths_stay false true member_paths_within member_paths basis.units h.units

  -- ---- names
  abbrev own : List TypeName
  own = (((h.state).sound).names).own

  abbrev left : List TypeName
  left = kept_names own (h.state).flags

  whole : kept ≡ initial_names ++ left
  whole =
      let fs = map (λ (name : TypeName). false) initial_names in
      ap₂ kept_names (((h.state).sound).names).whole (h.state).gone
      ∙ kept_together initial_names fs own (h.state).flags (length-map initial_names (λ (name : TypeName). false))
      ∙ ap (λ names. names ++ left) (kept_all initial_names)

  own_is : own_names the_library ≡ left
  own_is = ap (drop (length initial_names)) whole ∙ drop-append_seam initial_names left

  of_own : (P : TypeName → Type 0) → All P left → All P (own_names the_library)
  of_own P k = subst (All P) (sym own_is) k

  of_described : (P : TypeName → Type 0) → All P (filter (λ (name : TypeName). not name.external) left) → All P (described_names the_library)
  of_described P k = subst (λ names. All P (filter (λ (name : TypeName). not name.external) names)) (sym own_is) k

  of_external : (P : TypeName → Type 0) → All P (filter (λ (name : TypeName). name.external) left) → All P (external_names the_library)
  of_external P k = subst (λ names. All P (filter (λ (name : TypeName). name.external) names)) (sym own_is) k

  abbrev tops : List (List ℕ)
  tops = unit_ids basis.units

  left_sound : All (IsSoundName tops) left
  left_sound = all_kept (IsSoundName tops) own (h.state).flags (((h.state).sound).names).each

  external_so : (P : TypeName → Type 0) → ((name : TypeName) → name.external ≡ true → IsSoundName tops name → P name) → All P (filter (λ (name : TypeName). name.external) left)
  external_so P one = filtered P (IsSoundName tops) (λ (name : TypeName). name.external) one left left_sound

  -- what is so of the path of each type constructor is so of that of each described name
  by_tycons : (P : List ℕ → Type 0) → All (λ tycon. P tycon.path) the_library.tycons → All (λ (name : TypeName). P name.path) (filter (λ (name : TypeName). not name.external) left)
  by_tycons P k =
      unmapped P (λ (name : TypeName). name.path) (filter (λ (name : TypeName). not name.external) left)
      (All-weaker (Contains (unit_paths basis.units)) P (λ path c. All-contains P (unit_paths basis.units) path (subst (All P) tycon_paths_are (All-map P (λ (tycon : Tycon). tycon.path) the_library.tycons k)) c)
      (made_paths own (h.state).flags) ((h.state).named).described)

  abbrev tycon_fact : (P : Tycon → Type 0) → ((tycon : Tycon) → IsValidTycon tycon → P tycon) → All P the_library.tycons
  tycon_fact P one = All-weaker IsValidTycon P one the_library.tycons tycons_valid

  abbrev member_fact : (P : Member → Type 0) → ((member : Member) → IsValidMember member → P member) → All P the_library.members
  member_fact P one = All-weaker IsValidMember P one the_library.members members_valid

  abbrev all_units : (P : List ℕ → Type 0) → ((unit : UnitEntry) → IsSoundUnit s unit → P unit.id) → All (λ unit. P unit.id) the_library.units
  all_units P one = All-map (λ unit. P unit.id) unit_of basis.units (All-weaker (IsSoundUnit s) (λ (unit : UnitEntry). P unit.id) one basis.units h.units)

  unit_alphanumeric : (id : List ℕ) → IsUnit the_library id → IsAlphanumeric id
  unit_alphanumeric id known =
      All-contains IsAlphanumeric (unit_ids basis.units) id (All-map IsAlphanumeric (λ (unit : UnitEntry). unit.id) basis.units (All-weaker (IsSoundUnit s) (λ (unit : UnitEntry). IsAlphanumeric unit.id) (λ unit k. (k.id).alphanumeric) basis.units h.units))
      (subst (λ xs. Contains xs id) (same_ids basis.units) known)

  outside : (name : TypeName) → name.external ≡ true → IsSoundName tops name → BeginsWithUnit the_library name.path → ⊥
  outside name e k b =
      All-contains (λ top. top ≢ first_of (parts name.path)) tops b.0 (k.external e).elsewhere (subst (λ xs. Contains xs b.0) (same_ids basis.units) b.1) (sym (first_part b.0 name.path (unit_alphanumeric b.0 b.1) b.2))

  abbrev HasUsual : TypeName → Type 0
  HasUsual name = (name.equality ≡ Never) ⊎ (name.equality ≡ IfArgs)

  pub valid_library : IsValidLibrary the_library
  valid_library = record {
    units_distinct = subst AreDistinct (sym (same_ids basis.units)) h.units_distinct;
    units_alphanumeric = all_units IsAlphanumeric (λ unit k. (k.id).alphanumeric);
    units_short = all_units IsShort (λ unit k. (k.id).short);
    name_paths = of_own (λ name. IsTypePath name.path)
        (split (λ (name : TypeName). IsTypePath name.path) (λ (name : TypeName). name.external) left
        (external_so (λ name. IsTypePath name.path) (λ name e k. (k.external e).path))
        (by_tycons IsTypePath (tycon_fact (λ tycon. IsTypePath tycon.path) (λ tycon k. k.path))));
    tycon_paths = tycon_fact (λ tycon. IsTypePath tycon.path) (λ tycon k. k.path);
    member_paths = member_fact (λ member. IsMemberPath member.path) (λ member k. k.path);
    initial = whole ∙ ap (λ names. initial_names ++ names) (sym own_is);
    tycons_in_units = tycon_fact (λ tycon. BeginsWithUnit the_library tycon.path) (λ tycon k. k.begins);
    members_in_units = member_fact (λ member. BeginsWithUnit the_library member.path) (λ member k. k.begins);
    described_in_units = of_described (λ name. BeginsWithUnit the_library name.path) (by_tycons (BeginsWithUnit the_library) (tycon_fact (λ tycon. BeginsWithUnit the_library tycon.path) (λ tycon k. k.begins)));
    external_outside_units = of_external (λ name. ¬ (BeginsWithUnit the_library name.path)) (external_so (λ name. ¬ (BeginsWithUnit the_library name.path)) outside);
    external_equality = of_external (λ name. name.equality ≡ IfArgs) (external_so (λ name. name.equality ≡ IfArgs) (λ name e k. (k.external e).equality));
    described_equality = of_described HasUsual (filtered HasUsual (IsSoundName tops) (λ (name : TypeName). not name.external) (λ name e k. k.described (not-true name.external e)) left left_sound);
    tycons_distinct = subst AreDistinct (sym tycon_paths_are) (units_distinct true false paths_within tycon_paths (λ a b. true≢false (sym b)) s basis.units h.units h.units_distinct);
    members_distinct = subst AreDistinct (sym member_paths_are) (units_distinct false true member_paths_within member_paths (λ a b. true≢false (sym a)) s basis.units h.units h.units_distinct);
    described_distinct = subst (λ names. AreDistinct (map (λ (name : TypeName). name.path) (filter (λ (name : TypeName). not name.external) names))) (sym own_is) ((h.state).named).distinct;
    external_distinct = subst (λ names. AreDistinct (map path_and_arity (filter (λ (name : TypeName). name.external) names))) (sym own_is)
        (distinct_kept path_and_arity (λ (name : TypeName). name.external) own (h.state).flags (((h.state).sound).names).apart);
    described_have_tycons = of_described (λ name. Contains (map (λ (t : Tycon). t.path) the_library.tycons) name.path)
        (subst (λ paths. All (λ (name : TypeName). Contains paths name.path) (filter (λ (name : TypeName). not name.external) left)) (sym tycon_paths_are)
        (unmapped (Contains (unit_paths basis.units)) (λ (name : TypeName). name.path) (filter (λ (name : TypeName). not name.external) left) ((h.state).named).described));
    name_arities = of_own (λ name. name.arity ≤ 1999) (All-weaker (IsSoundName tops) (λ name. name.arity ≤ 1999) (λ name k. k.arity) left left_sound);
    tycon_arities = tycon_fact (λ tycon. tycon.fun.arity ≤ 1999) (λ tycon k. k.arity);
    tycon_functions = tycon_fact (λ tycon. IsTypeFn tycon.fun) (λ tycon k. k.function);
    tycon_types = tycon_fact (λ tycon. IsTypeOf the_library tycon.fun.body) (λ tycon k. k.type);
    member_schemes = member_fact (λ member. IsScheme member.scheme) (λ member k. k.scheme);
    member_types = member_fact (λ member. IsTypeOf the_library member.scheme.body) (λ member k. k.type);
    tycon_limits = tycon_fact (λ tycon. IsWithinLimits tycon.fun.body) (λ tycon k. k.limits);
    member_limits = member_fact (λ member. IsWithinLimits member.scheme.body) (λ member k. k.limits);
    normal_limits = member_fact (λ member. normal_size_of member.scheme.body ≤ 8000) (λ member k. k.normal);
    normal_sum = h.normal_sum;
    member_limit = h.member_limit;
    weight_limit = h.weight_limit;
  }
