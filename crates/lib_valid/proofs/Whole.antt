-- A library is valid exactly where its units, its type constructors, its members, its names and its weight are.
use Rattle.std.proofs.Common.{◌≡◌, ℕ, ◌≤◌, Bool, true, false, true≢false, not, cond, List, [], ◌∷◌, refl, sym, ap, ◌∙◌}
use Rattle.std.proofs.lemmas.List.Elements.{All-cons, All-head, All-nil, All-tail}
use Rattle.std.specs.List.{All, filter}
use Rattle.type_core.specs.declared.library.Library.{Library}
use Rattle.type_core.specs.declared.names.TypeName.{TypeName}
use Rattle.type_core.specs.ValidLibrary.{IsValidLibrary, own_names}
use Rattle.type_core.specs.Weight.{library_weight}
use Rattle.lib_valid.specs.Parts.{HasValidMembers, HasValidNames, HasValidTycons, HasValidUnits, IsDescribed, IsExternal, identifiers_of, paths_of}

-- ---- two facts of each element
module _ {A : Type 0} (p : A → Bool) (P : A → Type 0) where
  -- what is so of each where the test is true is so of each that is kept
  kept : (xs : List A) → All (λ x. p x ≡ true → P x) xs → All P (filter p xs)
  kept [] h = All-nil P
  kept (x ∷ xs) h = by (p x) refl (kept xs (All-tail (λ z. p z ≡ true → P z) x xs h))
    where
      by : (b : Bool) → p x ≡ b → All P (filter p xs) → All P (cond b (x ∷ filter p xs) (filter p xs))
      by true is rest = All-cons P x (filter p xs) (All-head (λ z. p z ≡ true → P z) x xs h is) rest
      by false is rest = rest

  of_kept : (xs : List A) → All P (filter p xs) → All (λ x. p x ≡ true → P x) xs
  of_kept [] h = All-nil _
  of_kept (x ∷ xs) h = by (p x) refl h (of_kept xs)
    where
      by : (b : Bool) → p x ≡ b → All P (cond b (x ∷ filter p xs) (filter p xs))
          → (All P (filter p xs) → All (λ z. p z ≡ true → P z) xs)
          → All (λ z. p z ≡ true → P z) (x ∷ xs)
      by true is k rest = All-cons (λ z. p z ≡ true → P z) x xs (λ e. All-head P x (filter p xs) k)
          (rest (All-tail P x (filter p xs) k))
      by false is k rest = All-cons (λ z. p z ≡ true → P z) x xs (λ e. absurd (true≢false (sym e ∙ is))) (rest k)

was_false : (b : Bool) → not b ≡ true → b ≡ false
was_false true e = absurd (true≢false (sym e))
was_false false e = refl

module _ (library : Library) where
  abbrev units : List (List ℕ)
  units = identifiers_of library.units

  abbrev tycons : List (List ℕ)
  tycons = paths_of library.tycons

  abbrev own : List TypeName
  own = own_names library

  abbrev is_described : TypeName → Bool
  is_described name = not name.external

  abbrev is_external : TypeName → Bool
  is_external name = name.external

  pub valid_from_parts : HasValidUnits library → HasValidTycons units library → HasValidMembers units library
      → HasValidNames units tycons library
      → library_weight library ≤ 8000000 → IsValidLibrary library
  valid_from_parts u t m n w =
      let described = kept is_described (IsDescribed units tycons) own
      (λ k d l e. (n.each k d l).described (was_false _ e)) in
      let external = kept is_external (IsExternal units) own (λ k d l. (n.each k d l).external) in
      record {
        units_distinct = u.distinct;
        units_alphanumeric = λ k d l. (u.each k d l).alphanumeric;
        units_short = λ k d l. (u.each k d l).short;
        name_paths = λ k d l. (n.each k d l).path;
        tycon_paths = λ k d l. (t.each k d l).path;
        member_paths = λ k d l. (m.each k d l).path;
        initial = n.initial;
        tycons_in_units = λ k d l. (t.each k d l).in_units;
        members_in_units = λ k d l. (m.each k d l).in_units;
        described_in_units = λ k d l. (described k d l).in_units;
        external_outside_units = λ k d l. (external k d l).outside;
        external_equality = λ k d l. (external k d l).equality;
        described_equality = λ k d l. (described k d l).equality;
        tycons_distinct = t.distinct;
        members_distinct = m.distinct;
        described_distinct = n.described_distinct;
        external_distinct = n.external_distinct;
        described_have_tycons = λ k d l. (described k d l).tycon;
        name_arities = λ k d l. (n.each k d l).arity;
        tycon_arities = λ k d l. (t.each k d l).arity;
        tycon_functions = λ k d l. (t.each k d l).function;
        tycon_types = λ k d l. (t.each k d l).types;
        member_schemes = λ k d l. (m.each k d l).scheme;
        member_types = λ k d l. (m.each k d l).types;
        tycon_limits = λ k d l. (t.each k d l).limits;
        member_limits = λ k d l. (m.each k d l).limits;
        normal_limits = λ k d l. (m.each k d l).normal;
        normal_sum = m.normal_sum;
        member_limit = m.limit;
        weight_limit = w;
      }

  module _ (v : IsValidLibrary library) where
    pub valid_tycons : HasValidTycons units library
    valid_tycons = record {
      each = λ k d l. record {
        path = v.tycon_paths k d l;
        in_units = v.tycons_in_units k d l;
        arity = v.tycon_arities k d l;
        function = v.tycon_functions k d l;
        types = v.tycon_types k d l;
        limits = v.tycon_limits k d l;
      };
      distinct = v.tycons_distinct;
    }

    pub valid_members : HasValidMembers units library
    valid_members = record {
      each = λ k d l. record {
        path = v.member_paths k d l;
        in_units = v.members_in_units k d l;
        scheme = v.member_schemes k d l;
        types = v.member_types k d l;
        limits = v.member_limits k d l;
        normal = v.normal_limits k d l;
      };
      distinct = v.members_distinct;
      limit = v.member_limit;
      normal_sum = v.normal_sum;
    }

    pub valid_names : HasValidNames units tycons library
    valid_names =
        let described = of_kept is_described (IsDescribed units tycons) own
        (λ k d l. record {
          equality = v.described_equality k d l;
          in_units =
              v.described_in_units k d l;
          tycon = v.described_have_tycons k d l;
        }) in
        let external = of_kept is_external (IsExternal units) own
        (λ k d l. record { equality = v.external_equality k d l; outside = v.external_outside_units k d l }) in
        record {
          initial = v.initial;
          each = λ k d l. record {
            path = v.name_paths k d l;
            arity = v.name_arities k d l;
            described = λ e. described k d l (ap not e);
            external = λ e. external k d l e;
          };
          described_distinct = v.described_distinct;
          external_distinct = v.external_distinct;
        }
