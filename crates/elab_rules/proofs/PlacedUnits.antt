-- Top identifiers by their places.
use Rattle.std.proofs.Common.{◌≡◌, ℕ, zero, suc, ◌+◌, ◌<◌, ◌≤◌, Bool, true, false, not, ◌&&◌, is_some, if◌then◌else◌, List, [], ◌∷◌, ◌++◌, length, take, get_or, bytes_eq, Option, Some, None, Result, Ok, Err, OnOk, OnErr, refl, sym, ap, ◌∙◌, subst, arith}
use Rattle.std.specs.Option.{option_map, option_or}
use Rattle.std.proofs.lemmas.List.{take-take, take_all, take_more}
use Rattle.std.proofs.lemmas.Slice.Eq.{bytes_eq-Decides}
use Rattle.elab_rules.specs.declared.entry.UnitEntry.{UnitEntry}
use Rattle.elab_types.specs.declared.places.Places.{Places}
use Rattle.type_core.specs.declared.library.UnitKind.TheVariants.{Sig}
use Rattle.elab_rules.specs.Files.{is_new_unit}
use Rattle.elab_types.specs.Finding.{none_of, place_of}
use Rattle.elab_rules.specs.Places.{ArePlaced}
use Rattle.elab_types.specs.Places.{place_at}
use Rattle.elab_types.proofs.FirstPlaces.{none_by_place, place_more}

abbrev is_unit : List ℕ → UnitEntry → Bool
is_unit id unit = bytes_eq id unit.id

-- ---- places in a front
later : (o : Option ℕ) (p : ℕ) → option_map (λ place. suc place) o ≡ Some p → (q : ℕ) × (o ≡ Some q) × (p ≡ suc q)
later None p e = cc
later (Some q) p e = (q, refl, cc)

in_front : {A : Type 0} (test : A → Bool) (xs : List A) (n p : ℕ) → place_of test (take n xs) ≡ Some p → place_of test xs ≡ Some p
in_front test [] zero p e = e
in_front test [] (suc n) p e = e
in_front test (x ∷ xs) zero p e = cc
in_front test (x ∷ xs) (suc n) p e =
    (elim (test x) as (λ passes. (if passes then Some 0 else option_map (λ place. suc place) (place_of test (take n xs))) ≡ Some p → (if passes then Some 0 else option_map (λ place. suc place) (place_of test xs)) ≡ Some p) [
      | true ↦ λ h. h
      | false ↦ λ h. (let found = later _ p h in ap (option_map (λ place. suc place)) (in_front test xs n found.0 found.1) ∙ ap Some (sym found.2))
    ]) e

pub front_placed : (places : Places) (units : List UnitEntry) (n : ℕ) → ArePlaced places units → ArePlaced places (take n units)
front_placed places units n placed id p e = placed id p (in_front (is_unit id) units n p e)

-- what has a place stands there
stands : {A : Type 0} (test : A → Bool) (xs : List A) (p : ℕ) (d : A) → place_of test xs ≡ Some p → (p < length xs) × (test (get_or xs p d) ≡ true)
stands test [] p d e = cc
stands {A = A} test (x ∷ xs) p d e = by_case (λ q there. stands test xs q d there) (test x) refl e
  where
    by_case : ((q : ℕ) → place_of test xs ≡ Some q → (q < length xs) × (test (get_or xs q d) ≡ true)) → (passes : Bool) → test x ≡ passes → (if passes then Some 0 else option_map (λ place. suc place) (place_of test xs)) ≡ Some p → (p < length (x ∷ xs)) × (test (get_or (x ∷ xs) p d) ≡ true)
    by_case again true is h = let first : 0 ≡ p = cc in (omega (arith, first), ap (λ k. test (get_or (x ∷ xs) k d)) (sym first) ∙ is)
    by_case again false is h =
        let found = later _ p h in
        let there = again found.0 found.1 in
        (omega (arith, found.2, there.0), ap (λ k. test (get_or (x ∷ xs) k d)) found.2 ∙ there.1)

-- what passes somewhere has a place
passes_at : {A : Type 0} (test : A → Bool) (xs : List A) (p : ℕ) (d : A) → p < length xs → test (get_or xs p d) ≡ true → none_of test xs ≡ false
passes_at test [] p d within is = absurd (let no : ⊥ = omega (arith, within) in no)
passes_at test (x ∷ xs) zero d within is = ap (λ b. not b && none_of test xs) is
passes_at test (x ∷ xs) (suc p) d within is = ap (λ b. not (test x) && b) (passes_at test xs p d (omega (arith, within)) is) ∙ and_false (not (test x))
  where
    and_false : (b : Bool) → (b && false) ≡ false
    and_false true = refl
    and_false false = refl

-- ---- whether an identifier is among units, by the place that is known
none_if : {A : Type 0} (test : A → Bool) (xs : List A) → ((p : ℕ) → place_of test xs ≡ Some p → ⊥) → none_of test xs ≡ true
none_if test xs nowhere = none_by_place test xs ∙ by_case (place_of test xs) refl
  where
    by_case : (o : Option ℕ) → place_of test xs ≡ o → not (is_some o) ≡ true
    by_case None is = refl
    by_case (Some p) is = absurd (nowhere p is)

pub not_known : (places : Places) (units : List UnitEntry) (id : List ℕ) (place : Option ℕ) → place ≡ None → place ≡ place_at places id → ArePlaced places units → false ≡ not (is_new_unit id units)
not_known places units id place none is placed = ap not (sym (none_if (is_unit id) units (λ p e. (let both : None ≡ Some p = sym none ∙ is ∙ placed id p e in cc))))

same_place : (p q : ℕ) → Some p ≡ Some q → p ≡ q
same_place p q e = cc

pub known_behind : (places : Places) (units : List UnitEntry) (id : List ℕ) (place : Option ℕ) (p : ℕ) → place ≡ Some p → length units ≤ p → place ≡ place_at places id → ArePlaced places units → false ≡ not (is_new_unit id units)
known_behind places units id place p there behind is placed = ap not (sym (none_if (is_unit id) units clash))
  where
    clash : (q : ℕ) → place_of (is_unit id) units ≡ Some q → ⊥
    clash q e =
        let same : p ≡ q = same_place p q (sym there ∙ is ∙ placed id q e) in
        let within = (stands (is_unit id) units q (record { kind = Sig; id = []; entries = []; first_name = 0; name_count = 0 }) e).0 in
        omega (arith, same, within, behind)

pub known_within : (places : Places) (units : List UnitEntry) (id : List ℕ) (place : Option ℕ) (p : ℕ) (unit : UnitEntry) → place ≡ Some p → p < length units → unit ≡ get_or units p unit → place ≡ place_at places id → ArePlaced places units
    → bytes_eq id unit.id ≡ not (is_new_unit id units)
known_within places units id place p unit there within here is placed = by_case (bytes_eq id unit.id) refl
  where
    by_case : (same : Bool) → bytes_eq id unit.id ≡ same → same ≡ not (is_new_unit id units)
    by_case true found = ap not (sym (passes_at (is_unit id) units p unit within (ap (λ (u : UnitEntry). bytes_eq id u.id) (sym here) ∙ found)))
    by_case false differs = ap not (sym (none_if (is_unit id) units clash))
      where
        clash : (q : ℕ) → place_of (is_unit id) units ≡ Some q → ⊥
        clash q e =
            let same : p ≡ q = same_place p q (sym there ∙ is ∙ placed id q e) in
            let passes = (stands (is_unit id) units q unit e).1 in
            let both : true ≡ false = sym passes ∙ ap (λ k. bytes_eq id (get_or units k unit).id) (sym same) ∙ ap (λ (u : UnitEntry). bytes_eq id u.id) (sym here) ∙ differs in
            cc

-- ---- one unit more
more_is : (units more : List UnitEntry) (unit : UnitEntry) (id : List ℕ) (p : ℕ) → more ≡ units ++ unit ∷ [] → place_of (is_unit id) more ≡ Some p → option_or (place_of (is_unit id) units) (if bytes_eq id unit.id then Some (length units) else None) ≡ Some p
more_is units more unit id p m e = sym (ap (place_of (is_unit id)) m ∙ place_more (is_unit id) units unit) ∙ e

pub is_known : (units : List UnitEntry) (id : List ℕ) → not (is_new_unit id units) ≡ is_some (place_of (is_unit id) units)
is_known units id = ap not (none_by_place (is_unit id) units) ∙ twice (is_some (place_of (is_unit id) units))
  where
    twice : (b : Bool) → not (not b) ≡ b
    twice true = refl
    twice false = refl

-- its identifier is one of those before it
pub placed_again : (places : Places) (units more : List UnitEntry) (unit : UnitEntry) → ArePlaced places units → true ≡ not (is_new_unit unit.id units) → more ≡ units ++ unit ∷ [] → ArePlaced places more
placed_again places units more unit placed known m id p e = by_case (place_of (is_unit id) units) refl (more_is units more unit id p m e)
  where
    by_case : (o : Option ℕ) → place_of (is_unit id) units ≡ o → option_or o (if bytes_eq id unit.id then Some (length units) else None) ≡ Some p → place_at places id ≡ Some p
    by_case (Some q) is h = placed id q is ∙ h
    by_case None is h = last (bytes_eq id unit.id) refl h
      where
        last : (same : Bool) → bytes_eq id unit.id ≡ same → (if same then Some (length units) else None) ≡ Some p → place_at places id ≡ Some p
        last true same h =
            let both : true ≡ false = known ∙ is_known units unit.id ∙ ap (λ i. is_some (place_of (is_unit i) units)) (sym ((bytes_eq-Decides id unit.id).0 same)) ∙ ap is_some is in
            cc
        last false differs h = cc

-- it isn't, and gets its place
pub placed_newly : (places now : Places) (units more : List UnitEntry) (unit : UnitEntry) (n : ℕ) (text : List ℕ) → ArePlaced places units → false ≡ not (is_new_unit unit.id units) → text ≡ unit.id → n ≡ length units → more ≡ units ++ unit ∷ []
    → ((other : List ℕ) → place_at now other ≡ (if bytes_eq other text then Some n else place_at places other)) → ArePlaced now more
placed_newly places now units more unit n text placed new t at m given id p e = by_case (bytes_eq id unit.id) refl (place_of (is_unit id) units) refl (more_is units more unit id p m e)
  where
    held : (same : Bool) → bytes_eq id unit.id ≡ same → place_at now id ≡ (if same then Some n else place_at places id)
    held same is = given id ∙ ap (λ x. if bytes_eq id x then Some n else place_at places id) t ∙ ap (λ b. if b then Some n else place_at places id) is

    by_case : (same : Bool) → bytes_eq id unit.id ≡ same → (o : Option ℕ) → place_of (is_unit id) units ≡ o → option_or o (if same then Some (length units) else None) ≡ Some p → place_at now id ≡ Some p
    by_case true same (Some q) is h =
        let both : false ≡ true = new ∙ is_known units unit.id ∙ ap (λ i. is_some (place_of (is_unit i) units)) (sym ((bytes_eq-Decides id unit.id).0 same)) ∙ ap is_some is in
        cc
    by_case true same None is h = held true same ∙ ap Some at ∙ h
    by_case false differs (Some q) is h = held false differs ∙ placed id q is ∙ h
    by_case false differs None is h = cc

-- ---- loops
pub any_ok : {T E P : Type 0} (r : Result T E) → P → OnOk r P
any_ok (Ok x) p = p
any_ok (Err e) p = tt

pub any_err : {T E P : Type 0} (r : Result T E) → P → OnErr r P
any_err (Ok x) p = tt
any_err (Err e) p = p

pub earlier_placed : (places : Places) (units : List UnitEntry) (from n : ℕ) → from ≤ n → ArePlaced places (take n units) → ArePlaced places (take from units)
earlier_placed places units from n before placed = subst (ArePlaced places) (take-take from n units before) (front_placed places (take n units) from placed)

pub all_placed : (places : Places) (units : List UnitEntry) (n : ℕ) → length units ≤ n → ArePlaced places (take n units) → ArePlaced places units
all_placed places units n past placed = subst (ArePlaced places) (take_all n units past) placed

pub one_taken : (units : List UnitEntry) (n : ℕ) (unit : UnitEntry) → n < length units → unit ≡ get_or units n unit → take (n + 1) units ≡ take n units ++ unit ∷ []
one_taken units n unit within here = take_more units n unit within ∙ ap (λ (u : UnitEntry). take n units ++ u ∷ []) (sym here)
