-- Finding a top identifier by its place.
use Rattle.std.proofs.Common.{◌≡◌, ℕ, zero, suc, ◌<◌, ◌≤◌, Bool, true, false, not, ◌&&◌, nat_lt, is_some, if◌then◌else◌, bytes_eq, List, [], ◌∷◌, length, take, get_or, slice_get, Option, Some, None, refl, sym, ap, ◌∙◌, arith}
use Rattle.std.specs.Option.{option_map, option_or}
use Rattle.std.proofs.lemmas.Bool.{ltb-false}
use Rattle.std.proofs.lemmas.List.{length-take-le}
use Rattle.std.proofs.lemmas.Option.{slice_get_read}
use Rattle.elab_rules.specs.declared.entry.UnitEntry.{UnitEntry}
use Rattle.elab_types.specs.declared.places.Places.{Places}
use Rattle.elab_rules.specs.Files.{is_new_unit}
use Rattle.elab_types.specs.Finding.{first_given, none_of, place_of}
use Rattle.elab_rules.specs.Indexes.{below}
use Rattle.elab_rules.specs.LookUps.{unit_in}
use Rattle.elab_rules.specs.Places.{ArePlaced}
use Rattle.elab_types.specs.Places.{place_at}
use Rattle.elab_rules.proofs.PlacedUnits.{front_placed, is_known, known_behind, not_known}

-- the first that passes stands at its place
given_if : {A : Type 0} (test : A → Bool) (xs : List A) (p : ℕ) → place_of test xs ≡ Some p → first_given (λ x. if test x then Some x else None) xs ≡ slice_get xs p
given_if test [] p e = cc
given_if {A = A} test (x ∷ xs) p e = by_case (λ q there. given_if test xs q there) (test x) e
  where
    later : (o : Option ℕ) → option_map (λ n. suc n) o ≡ Some p → (q : ℕ) × ((o ≡ Some q) × (suc q ≡ p))
    later None h = cc
    later (Some q) h = (q, (refl, cc))

    by_case : ((q : ℕ) → place_of test xs ≡ Some q → first_given (λ y. if test y then Some y else None) xs ≡ slice_get xs q)
        → (b : Bool) → (if b then Some 0 else option_map (λ n. suc n) (place_of test xs)) ≡ Some p
        → option_or (if b then Some x else None) (first_given (λ y. if test y then Some y else None) xs) ≡ slice_get (x ∷ xs) p
    by_case again true h = let first : 0 ≡ p = cc in ap (slice_get (x ∷ xs)) first
    by_case again false h = let found = later (place_of test xs) h in again found.0 found.1.0 ∙ ap (slice_get (x ∷ xs)) found.1.1

-- none passes
given_none : {A : Type 0} (test : A → Bool) (xs : List A) → none_of test xs ≡ true → first_given (λ x. if test x then Some x else None) xs ≡ None
given_none test [] e = refl
given_none {A = A} test (x ∷ xs) e = by_case (given_none test xs) (test x) e
  where
    by_case : (none_of test xs ≡ true → first_given (λ y. if test y then Some y else None) xs ≡ None)
        → (b : Bool) → (not b && none_of test xs) ≡ true → option_or (if b then Some x else None) (first_given (λ y. if test y then Some y else None) xs) ≡ None
    by_case rest true h = cc
    by_case rest false h = rest h

-- ---- the unit of an identifier
pub unit_missing : (units : List UnitEntry) (id : List ℕ) → false ≡ not (is_new_unit id units) → unit_in id units ≡ None
unit_missing units id is = given_none (λ (unit : UnitEntry). bytes_eq id unit.id) units (positive (is_new_unit id units) is)
  where
    positive : (b : Bool) → false ≡ not b → b ≡ true
    positive true e = refl
    positive false e = cc

-- ---- the front of a list
taken_at : {A : Type 0} (xs : List A) (n p : ℕ) → p < n → slice_get (take n xs) p ≡ slice_get xs p
taken_at xs zero p before = absurd (omega (arith, before))
taken_at [] (suc n) p before = refl
taken_at (x ∷ xs) (suc n) zero before = refl
taken_at (x ∷ xs) (suc n) (suc p) before = taken_at xs n p (omega (arith, before))

-- ---- by its place
unit_there : (places : Places) (units : List UnitEntry) (id : List ℕ) (place : Option ℕ) (p : ℕ) (unit : UnitEntry) → place ≡ Some p → place ≡ place_at places id → ArePlaced places units
    → true ≡ not (is_new_unit id units) → slice_get units p ≡ Some unit → unit_in id units ≡ Some unit
unit_there places units id place p unit there is placed known at = by_case (place_of (λ (u : UnitEntry). bytes_eq id u.id) units) refl
  where
    by_case : (o : Option ℕ) → place_of (λ (u : UnitEntry). bytes_eq id u.id) units ≡ o → unit_in id units ≡ Some unit
    by_case None nowhere = (let no : true ≡ false = known ∙ is_known units id ∙ ap is_some nowhere in cc)
    by_case (Some q) first =
        let both : Some p ≡ Some q = sym there ∙ is ∙ placed id q first in
        let same : q ≡ p = cc in
        given_if (λ (u : UnitEntry). bytes_eq id u.id) units q first ∙ ap (slice_get units) same ∙ at

module _ (places : Places) (units : List UnitEntry) (id : List ℕ) (count : ℕ) (known place : Option ℕ) (within : count ≤ length units) (placed : ArePlaced places units)
    (found : known ≡ place_at places id) (front : place ≡ below known count) where
  pub unit_nowhere : place ≡ None → None ≡ unit_in id (take count units)
  unit_nowhere none = by_case known refl (sym front ∙ none)
    where
      by_case : (o : Option ℕ) → known ≡ o → below o count ≡ None → None ≡ unit_in id (take count units)
      by_case None is e = sym (unit_missing (take count units) id (not_known places (take count units) id known is found (front_placed places units count placed)))
      by_case (Some p) is e = sym (unit_missing (take count units) id (known_behind places (take count units) id known p is (behind p (nat_lt p count) refl e) found (front_placed places units count placed)))
        where
          behind : (p : ℕ) (b : Bool) → nat_lt p count ≡ b → (if b then Some p else None) ≡ None → length (take count units) ≤ p
          behind p true l e = cc
          behind p false l e = let long : length (take count units) ≡ count = length-take-le count units within in let past = ltb-false p count l in omega (arith, long, past)

  pub unit_here : (p : ℕ) (unit : UnitEntry) → place ≡ Some p → p < count → true ≡ not (is_new_unit id (take count units)) → unit ≡ get_or units p unit → Some unit ≡ unit_in id (take count units)
  unit_here p unit at before is here =
      sym (unit_there places (take count units) id known p unit (by_case known (sym front ∙ at)) found (front_placed places units count placed) is
      (taken_at units count p before ∙ slice_get_read units (length units) p unit refl (omega (arith, before, within)) here))
    where
      chosen : (b : Bool) (q : ℕ) → (if b then Some q else None) ≡ Some p → Some q ≡ Some p
      chosen true q e = e
      chosen false q e = cc

      by_case : (o : Option ℕ) → below o count ≡ Some p → o ≡ Some p
      by_case None e = cc
      by_case (Some q) e = chosen (nat_lt q count) q e
