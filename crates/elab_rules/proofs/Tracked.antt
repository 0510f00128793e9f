-- What is kept of names from elsewhere is so again, as names are described, settled, realized, joined and mentioned.
use Rattle.std.proofs.Common.{◌≡◌, ℕ, zero, suc, ◌+◌, ◌&&◌, ◌||◌, Bool, true, false, not, is_some, min, List, [], ◌∷◌, ◌++◌, length, map, refl, sym, ap, ◌∙◌, arith}
use Rattle.type_core.specs.declared.names.Equality.{Equality}
use Rattle.type_core.specs.declared.names.TypeName.{TypeName}
use Rattle.type_core.specs.Lists.{sum_of}
use Rattle.type_core.specs.Weight.{name_weight}
use Rattle.elab_env.specs.Names.{described, external, with_equality}
use Rattle.elab_rules.specs.declared.progress.Progress.{Progress}
use Rattle.elab_rules.specs.Equality.{by_choice, with_choice}
use Rattle.elab_rules.specs.Files.{is_first_part, is_from}
use Rattle.elab_types.specs.Finding.{none_of}
use Rattle.elab_types.specs.Places.{place_at}
use Rattle.elab_rules.specs.Tracking.{IsTracked}

-- the names from elsewhere are the same
pub record AreAlike (old new : List TypeName) : Type 0 where
  pub from : (id : List ℕ) → none_of (is_from id) new ≡ none_of (is_from id) old
  pub weight : sum_of (map name_weight new) ≡ sum_of (map name_weight old)

pub alike_itself : (names : List TypeName) → AreAlike names names
alike_itself names = record { from = λ id. refl; weight = refl }

pub alike_twice : (names more most : List TypeName) → AreAlike names more → AreAlike more most → AreAlike names most
alike_twice names more most h k = record { from = λ id. k.from id ∙ h.from id; weight = k.weight ∙ h.weight }

-- ---- a name more
pub and_true : (b : Bool) → (b && true) ≡ b
and_true true = refl
and_true false = refl

and_assoc : (a b c : Bool) → (a && (b && c)) ≡ ((a && b) && c)
and_assoc true b c = refl
and_assoc false b c = refl

pub none_more : {A : Type 0} (test : A → Bool) (xs : List A) (x : A) → none_of test (xs ++ x ∷ []) ≡ (none_of test xs && not (test x))
none_more test [] x = and_true (not (test x))
none_more test (y ∷ xs) x = ap (λ b. not (test y) && b) (none_more test xs x) ∙ and_assoc (not (test y)) (none_of test xs) (not (test x))

sum_more : (names : List TypeName) (name : TypeName) → sum_of (map name_weight (names ++ name ∷ [])) ≡ sum_of (map name_weight names) + name_weight name
sum_more [] name = omega arith
sum_more (x ∷ names) name = let e = sum_more names name in omega (arith, e)

pub described_alike : (path : List ℕ) (arity : ℕ) (equality : Equality) (names : List TypeName) → AreAlike names (names ++ described path arity equality ∷ [])
described_alike path arity equality names = record {
  from = λ id. none_more (is_from id) names (described path arity equality) ∙ and_true (none_of (is_from id) names);
  weight = (let e = sum_more names (described path arity equality) in omega (arith, e));
}

-- ---- another equality
pub settled_alike : (n : ℕ) (equality : Equality) (names : List TypeName) → AreAlike names (with_equality n equality names)
settled_alike n equality names = record { from = λ id. settled_from id n names; weight = settled_weight n names }
  where
    settled_from : (id : List ℕ) (n : ℕ) (names : List TypeName) → none_of (is_from id) (with_equality n equality names) ≡ none_of (is_from id) names
    settled_from id n [] = refl
    settled_from id zero (x ∷ names) = refl
    settled_from id (suc n) (x ∷ names) = ap (λ b. not (is_from id x) && b) (settled_from id n names)

    settled_weight : (n : ℕ) (names : List TypeName) → sum_of (map name_weight (with_equality n equality names)) ≡ sum_of (map name_weight names)
    settled_weight n [] = refl
    settled_weight zero (x ∷ names) = refl
    settled_weight (suc n) (x ∷ names) = ap (λ m. name_weight x + m) (settled_weight n names)

pub chosen_alike : (first : ℕ) (choice : List Bool) (names : List TypeName) → AreAlike names (with_choice first choice names)
chosen_alike first [] names = alike_itself names
chosen_alike first (b ∷ choice) names =
    alike_twice names (with_equality first (by_choice b) names) (with_choice (first + 1) choice (with_equality first (by_choice b) names))
    (settled_alike first (by_choice b) names) (chosen_alike (first + 1) choice (with_equality first (by_choice b) names))

-- ---- what is kept
pub tracked_alike : (old new : Progress) → AreAlike old.table.names new.table.names → new.firsts ≡ old.firsts → new.external_weight ≡ old.external_weight → IsTracked old → IsTracked new
tracked_alike old new alike firsts external t = record {
  first_parts = λ id. ap (λ p. is_some (place_at p id)) firsts ∙ t.first_parts id ∙ ap not (sym (alike.from id));
  weighed = external ∙ t.weighed ∙ ap (λ n. min n 0xffff_ffff_ffff_ffff) (sym alike.weight);
}

-- a name from elsewhere more
pub not_both : (a b : Bool) → (not a || b) ≡ not (a && not b)
not_both true true = refl
not_both true false = refl
not_both false b = refl

pub tracked_external : (old new : Progress) (path : List ℕ) (arity : ℕ) → new.table.names ≡ old.table.names ++ external path arity ∷ []
    → ((id : List ℕ) → is_some (place_at new.firsts id) ≡ (is_some (place_at old.firsts id) || is_first_part id path))
    → new.external_weight ≡ min (old.external_weight + min (1 + length path) 0xffff_ffff_ffff_ffff) 0xffff_ffff_ffff_ffff → IsTracked old → IsTracked new
tracked_external old new path arity names firsts weight t = record {
  first_parts = λ id.
      firsts id ∙ ap (λ b. b || is_first_part id path) (t.first_parts id) ∙ not_both (none_of (is_from id) old.table.names) (is_first_part id path)
      ∙ ap not (sym (ap (none_of (is_from id)) names ∙ none_more (is_from id) old.table.names (external path arity)));
  weighed =
      (let e = ap (λ xs. sum_of (map name_weight xs)) names ∙ sum_more old.table.names (external path arity) in
      let w = t.weighed in omega (arith, e, w, weight));
}
