-- Lists of different lengths don't meet.
use Rattle.std.proofs.Common.{◌≡◌, List, [], ◌∷◌, Option, Some, None, map, length, refl, ap, suc}
use Rattle.coord_match.specs.search.Bindings.{Bindings, all_met, and_then}

after_none : (o : Option Bindings) (next : Bindings → Option Bindings) → ((s : Bindings) → None ≡ next s) → None ≡ and_then o next
after_none None next h = refl
after_none (Some s) next h = h s

pub unequal : {A : Type 0} (test : A → A → Bindings → Option Bindings) (xs ys : List A) (s : Bindings) → (length xs ≡ length ys → ⊥) → None ≡ all_met (map test xs) ys s
unequal test [] [] s h = absurd (h refl)
unequal test [] (y ∷ ys) s h = refl
unequal test (x ∷ xs) [] s h = refl
unequal test (x ∷ xs) (y ∷ ys) s h = after_none (test x y s) _ (λ now. unequal test xs ys now (λ e. h (ap suc e)))
