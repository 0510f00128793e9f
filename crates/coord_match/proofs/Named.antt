-- The list of names tells the renaming.
use Rattle.std.proofs.Common.{◌≡◌, ◌≢◌, ℕ, ◌+◌, ◌<◌, ◌==◌, ◌||◌, Bool, true, false, true≢false, if◌then◌else◌, IsTrue, List, [], ◌∷◌, length, max, Option, Some, None, slice_get, refl, sym, ap, ◌∙◌, arith}
use Rattle.std.specs.Bool.{Decides}
use Rattle.std.proofs.lemmas.Bool.Decides.{Decides-eqb}
use Rattle.type_core.specs.declared.ty.VarId.{VarId}
use Rattle.type_core.specs.Renaming.{Renaming}
use Rattle.type_core.specs.Variables.{occurs, same_variable}
use Rattle.type_core.proofs.Places.{occurs_here, occurs_later, same_is}
use Rattle.coord_match.specs.search.Bindings.{Bindings}
use Rattle.coord_match.specs.Names.{HaveOneMark, Tells, number_bound}
use Rattle.coord_match.specs.search.Partners.{partner, partner_of_number}

below_first : (v w : VarId) (n : ℕ) (x : Bool) → same_variable v w ≡ x → (rest : Bool) → (rest ≡ true → v.n < n) → (x || rest) ≡ true → v.n < max (w.n + 1) n
below_first v w n true e rest later o = omega (arith, ap (λ (u : VarId). u.n) (same_is v w e))
below_first v w n false e rest later o = omega (arith, later o)

below : (v : VarId) (vs : List VarId) → occurs v vs ≡ true → v.n < number_bound vs
below v [] o = absurd (true≢false (sym o))
below v (w ∷ vs) o = below_first v w (number_bound vs) (same_variable v w) refl (occurs v vs) (below v vs) o

module _ (s : Bindings) where
  -- variables of one number are one
  abbrev IsAlone : VarId → List VarId → Type 0
  IsAlone v vs = (u : VarId) → occurs u vs ≡ true → u.n ≡ v.n → u ≡ v

  number_first : (v w : VarId) (rest : Option VarId) (x : Bool) → Decides x (w.n ≡ v.n) → (w.n ≡ v.n → w ≡ v) → ((w.n ≡ v.n → ⊥) → rest ≡ partner v s) → (if x then partner w s else rest) ≡ partner v s
  number_first v w rest true d alone later = ap (λ u. partner u s) (alone (d.0 refl))
  number_first v w rest false d alone later = later (λ e. true≢false (sym (d.1 e)))

  occurs_rest : (v w : VarId) (vs : List VarId) → (w.n ≡ v.n → ⊥) → (x : Bool) → same_variable v w ≡ x → (x || occurs v vs) ≡ true → occurs v vs ≡ true
  occurs_rest v w vs d true e o = absurd (d (ap (λ (u : VarId). u.n) (sym (same_is v w e))))
  occurs_rest v w vs d false e o = o

  number_is : (v : VarId) (vs : List VarId) → occurs v vs ≡ true → IsAlone v vs → partner_of_number v.n vs s ≡ partner v s
  number_is v [] o alone = absurd (true≢false (sym o))
  number_is v (w ∷ vs) o alone = number_first v w (partner_of_number v.n vs s) (w.n == v.n) (Decides-eqb w.n v.n) (alone w (occurs_here w vs))
      (λ d. number_is v vs (occurs_rest v w vs d (same_variable v w) refl o) (λ u i e. alone u (occurs_later u w vs i) e))

  not_first : (n : ℕ) (w : VarId) (rest : Option VarId) (x : Bool) → Decides x (w.n ≡ n) → w.n ≢ n → rest ≡ None → (if x then partner w s else rest) ≡ None
  not_first n w rest true d h e = absurd (h (d.0 refl))
  not_first n w rest false d h e = e

  no_number : (n : ℕ) (vs : List VarId) → ((v : VarId) → IsTrue (occurs v vs) → v.n ≢ n) → partner_of_number n vs s ≡ None
  no_number n [] h = refl
  no_number n (w ∷ vs) h = not_first n w (partner_of_number n vs s) (w.n == n) (Decides-eqb w.n n) (h w (occurs_here w vs)) (no_number n vs (λ v o. h v (occurs_later v w vs o)))

  pub tells : {names : List (Option VarId)} (r : Renaming) (vs : List VarId) → length names ≡ number_bound vs
      → ((n : ℕ) → n < length names → slice_get names n ≡ Some (partner_of_number n vs s)) → HaveOneMark vs → ((v : VarId) → occurs v vs ≡ true → partner v s ≡ Some (r v)) → Tells names r vs
  tells {names} r vs long each mark bound = record {
    long = long;
    partners = λ v o. each v.n (omega (arith, long, below v vs o)) ∙ ap Some (number_is v vs o (λ u i e. mark u v i o e) ∙ bound v o);
    others = λ n l h. each n l ∙ ap Some (no_number n vs h);
  }
