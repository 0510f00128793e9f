-- Places of numbers, where one number more gets its place.
use Rattle.std.proofs.Common.{◌≡◌, ℕ, ◌==◌, Bool, true, false, if◌then◌else◌, List, [], ◌∷◌, ◌++◌, length, Option, Some, None, refl, sym, ap, ap₂, ◌∙◌}
use Rattle.std.specs.Option.{option_or}
use Rattle.std.proofs.lemmas.Bool.{eq-eqb, eqb-false, eqb-true, ne_eqb}
use Rattle.elab_types.specs.Finding.{place_of}
use Rattle.elab_types.proofs.FirstPlaces.{place_more}

either_way : (m n : ℕ) → (m == n) ≡ (n == m)
either_way m n = by_case (n == m) refl
  where
    by_case : (same : Bool) → (n == m) ≡ same → (m == n) ≡ same
    by_case true is = eq-eqb m n (sym (eqb-true n m is))
    by_case false differs = ne_eqb m n (λ e. eqb-false n m differs (sym e))

or_none : (o : Option ℕ) → o ≡ option_or o None
or_none None = refl
or_none (Some place) = refl

-- a number that had no place has one now
pub newly_placed : (old : ℕ → Option ℕ) (n place m : ℕ) (new : Option ℕ) → old n ≡ None → new ≡ (if n == m then Some place else old m) → new ≡ option_or (old m) (if m == n then Some place else None)
newly_placed old n place m new none is =
    is ∙ by_case (n == m) refl ∙ ap (λ same. option_or (old m) (if same then Some place else None)) (sym (either_way m n))
  where
    by_case : (same : Bool) → (n == m) ≡ same → (if same then Some place else old m) ≡ option_or (old m) (if same then Some place else None)
    by_case true is = sym (ap (λ o. option_or o (Some place)) (ap old (sym (eqb-true n m is)) ∙ none))
    by_case false differs = or_none (old m)

-- the places of a list of numbers, with one more at its end
pub number_more : (numbers : List ℕ) (n at m : ℕ) (old new : Option ℕ) → at ≡ length numbers → old ≡ place_of (λ k. k == m) numbers → new ≡ option_or old (if m == n then Some at else None) → new ≡ place_of (λ k. k == m) (numbers ++ n ∷ [])
number_more numbers n at m old new end was is =
    is ∙ ap₂ (λ o same. option_or o (if same then Some at else None)) was (either_way m n)
    ∙ ap (λ place. option_or (place_of (λ k. k == m) numbers) (if n == m then Some place else None)) end
    ∙ sym (place_more (λ k. k == m) numbers n)
