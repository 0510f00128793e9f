-- The variables of a scheme have numbers below the number of its variables.
use Rattle.std.proofs.Common.{◌≡◌, ℕ, ◌+◌, ◌<◌, ◌&&◌, ◌||◌, Bool, true, false, true≢false, if◌then◌else◌, IsTrue, List, [], ◌∷◌, map, length, nat_lt, refl, sym, ap, ap₂, ◌∙◌, arith}
use Rattle.std.proofs.lemmas.Grind.{common_steps}
use Rattle.std.proofs.lemmas.Bool.Decides.{nat_tests}
use Rattle.std.proofs.lemmas.List.{length-map}
use Rattle.std.proofs.lemmas.List.FromFn.{length-map-range_with_len}
use Rattle.std.specs.List.{range_with_len}
use Rattle.type_core.specs.declared.ty.VarId.{VarId}
use Rattle.type_core.specs.declared.ty.Scheme.{Scheme}
use Rattle.type_core.specs.Lists.{all_true}
use Rattle.type_core.specs.Schemes.{IsScheme}
use Rattle.type_core.specs.Substitution.{VariablesBelow, allows}
use Rattle.type_core.specs.Variables.{by_first_occurrence, occurs, place, same_variable, variables}
use Rattle.type_core.proofs.EachVariable.{each_variable_is_listed}
use Rattle.type_core.proofs.Places.{all_met, occurs_here, occurs_later, place_is_number}

other_holds : (a b : Bool) → (a || b) ≡ true → a ≡ false → b ≡ true
other_holds true b e f = absurd (true≢false f)
other_holds false b e f = e

one_more : (is : Bool) (n k : ℕ) → (is ≡ false → n < k) → (if is then 0 else 1 + n) < 1 + k
one_more true n k f = omega arith
one_more false n k f = omega (arith, f refl)

place_within : (v : VarId) (vs : List VarId) → occurs v vs ≡ true → place v vs < length vs
place_within v [] o = absurd (true≢false (sym o))
place_within v (w ∷ vs) o = omega (arith, one_more (same_variable v w) (place v vs) (length vs) (λ e. place_within v vs (other_holds (same_variable v w) (occurs v vs) o e)))

all_of_those : (is : VarId → Bool) (vs : List VarId) → ((v : VarId) → occurs v vs ≡ true → is v ≡ true) → all_true (map is vs) ≡ true
all_of_those is [] h = refl
all_of_those is (v ∷ vs) h = ap₂ ◌&&◌ (h v (occurs_here v vs)) (all_of_those is vs (λ w o. h w (occurs_later w v vs o)))

any_mark : (mark : Bool) → (if mark then true else true) ≡ true
any_mark true = refl
any_mark false = refl

is_below : (m n : ℕ) → m < n → nat_lt m n ≡ true
is_below m n l = grind (arith, nat_tests)

is_allowed : (n : ℕ) (v : VarId) → v.n < n → allows n true v ≡ true
is_allowed n v l = ap₂ ◌&&◌ (is_below v.n n l) (any_mark v.eq)

is_true : (b : Bool) → b ≡ true → IsTrue b
is_true b e = grind (arith, common_steps)

pub scheme_variables_below : (s : Scheme) → IsScheme s → VariablesBelow s.vars s.body
scheme_variables_below s is =
    let order = by_first_occurrence s.body in
    let count : length order ≡ s.vars = sym (length-map order (λ v. v.n)) ∙ ap length is ∙ sym (length-map (range_with_len 0 s.vars) (λ n. n)) ∙ length-map-range_with_len (λ n. n) 0 s.vars in
    is_true _ (each_variable_is_listed (allows s.vars true) s.body ∙ all_of_those (allows s.vars true) (variables s.body)
    (λ v o. let met = all_met [] (variables s.body) v o in is_allowed s.vars v (omega (arith, place_within v order met, place_is_number 0 s.vars order is v met, count))))
