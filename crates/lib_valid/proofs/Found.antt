-- What the parts of a library are found to be, and whether it is valid by them.
use Rattle.std.proofs.Common.{◌≡◌, ℕ, ◌↔◌, ◌≤◌, min, List, MatchOption, None, Option, Some, sym, subst, arith}
use Rattle.std.proofs.lemmas.List.Elements.{All-map}
use Rattle.std.specs.List.{All}
use Rattle.sig_base.specs.Identifiers.{IsAlphanumeric}
use Rattle.type_core.specs.declared.library.Library.{Library}
use Rattle.type_core.specs.ValidLibrary.{IsValidLibrary}
use Rattle.type_core.specs.Weight.{library_weight}
use Rattle.lib_valid.specs.Parts.{HasValidMembers, HasValidNames, HasValidTycons, HasValidUnits, identifiers_of, paths_of}
use Rattle.lib_valid.proofs.Whole.{valid_from_parts, valid_members, valid_names, valid_tycons}

module _ (library : Library) where
  -- the units, where they are all right
  pub record AreUnits (units : List (List ℕ)) : Type 0 where
    pub valid : HasValidUnits library
    pub whole : units ≡ identifiers_of library.units

  abbrev ToldUnits : Option (List (List ℕ)) → Type 0
  ToldUnits found = MatchOption found (¬ (HasValidUnits library))
      (λ units. HasValidUnits library × (units ≡ identifiers_of library.units))

  pub found_units : (found : Option (List (List ℕ))) (units : List (List ℕ)) → ToldUnits found → found ≡ Some units
      → AreUnits units
  found_units found units told e = let h : ToldUnits (Some units) = subst ToldUnits e told in
      record { valid = h.0; whole = h.1 }

  module _ (units : List (List ℕ)) (are : AreUnits units) where
    pub words : All IsAlphanumeric units
    words = subst (All IsAlphanumeric) (sym are.whole)
        (All-map IsAlphanumeric (λ unit. unit.id) library.units (λ k d l. (are.valid.each k d l).alphanumeric))

    abbrev ToldTycons : Option (List (List ℕ)) → Type 0
    ToldTycons found = MatchOption found (¬ (HasValidTycons units library))
        (λ paths. HasValidTycons units library × (paths ≡ paths_of library.tycons))

    pub no_tycons : (found : Option (List (List ℕ))) → ToldTycons found → found ≡ None → ¬ (IsValidLibrary library)
    no_tycons found told e valid =
        let h : ToldTycons None = subst ToldTycons e told in
        h (subst (λ us. HasValidTycons us library) (sym are.whole) (valid_tycons library valid))

    -- the type constructors, where they are all right
    pub record AreTycons (tycons : List (List ℕ)) : Type 0 where
      pub valid : HasValidTycons units library
      pub whole : tycons ≡ paths_of library.tycons

    pub found_tycons : (found : Option (List (List ℕ))) (tycons : List (List ℕ)) → ToldTycons found
        → found ≡ Some tycons → AreTycons tycons
    found_tycons found tycons told e = let h : ToldTycons (Some tycons) = subst ToldTycons e told in
        record { valid = h.0; whole = h.1 }

    pub needs_members : IsValidLibrary library → HasValidMembers units library
    needs_members valid = subst (λ us. HasValidMembers us library) (sym are.whole) (valid_members library valid)

    -- the names decide, where all else is right
    pub names_decide : (tycons : List (List ℕ)) → AreTycons tycons → HasValidMembers units library → (weight : ℕ)
        → weight ≡ min (library_weight library) 0xffff_ffff_ffff_ffff → weight ≤ 8000000
        → HasValidNames units tycons library ↔ IsValidLibrary library
    names_decide tycons t members weight e light =
        let at = λ (P : List (List ℕ) → Type 0) (h : P units). subst P are.whole h in (
          λ names. valid_from_parts library are.valid (at (λ us. HasValidTycons us library) t.valid)
              (at (λ us. HasValidMembers us library) members)
              (subst (λ ts. HasValidNames (identifiers_of library.units) ts library) t.whole
              (at (λ us. HasValidNames us tycons library) names)) (omega (arith, e, light)),
          λ valid. subst (λ us. HasValidNames us tycons library) (sym are.whole)
              (subst (λ ts. HasValidNames (identifiers_of library.units) ts library) (sym t.whole)
              (valid_names library valid)),
        )
