-- What an index of variables holds, and the places it finds, are those of variables that are met.
use Rattle.std.proofs.Common.{◌≡◌, ◌==◌, ℕ, suc, ◌+◌, ◌≤◌, ◌&&◌, ◌||◌, Bool, true, false, cond, not, if◌then◌else◌, List, [], ◌∷◌, ◌++◌, Some, None, length, nat_lt, refl, sym, ap, ap₂, ◌∙◌, subst, arith}
use Rattle.std.proofs.lemmas.Bool.Decides.{nat_tests}
use mathlib.Core.Bool.{beq}
use Rattle.std.specs.List.{list_any, position, position_or_len}
use Rattle.type_core.specs.declared.ty.VarId.{VarId}
use Rattle.type_core.specs.contracts.ty.VarIdPartialEq.TheImpl as var_compare
use Rattle.type_core.specs.Variables.{meet, occurs, place, same_mark, same_variable}

abbrev is_equal : VarId → VarId → Bool
is_equal v w = var_compare.eq-value.it v w

marks_equal : (a b : Bool) → beq a b ≡ same_mark a b
marks_equal true true = refl
marks_equal true false = refl
marks_equal false true = refl
marks_equal false false = refl

variables_equal : (v w : VarId) → is_equal v w ≡ same_variable v w
variables_equal v w = ap (λ b. (v.n == w.n) && b) (marks_equal v.eq w.eq)

held : (v : VarId) (vs : List VarId) → list_any (is_equal v) vs ≡ occurs v vs
held v [] = refl
held v (w ∷ vs) = ap₂ ◌||◌ (variables_equal v w) (held v vs)

one_place : (a : Bool) (n : ℕ) → cond (not a) (1 + n) 0 ≡ (if a then 0 else 1 + n)
one_place true n = refl
one_place false n = refl

found : (v : VarId) (vs : List VarId) → position_or_len (is_equal v) vs ≡ place v vs
found v [] = refl
found v (w ∷ vs) =
    ap₂ (λ b n. cond (not b) (1 + n) 0) (variables_equal v w) (found v vs) ∙ one_place (same_variable v w) (place v vs)

within : (v : VarId) (vs : List VarId) → place v vs ≤ length vs
within v [] = omega arith
within v (w ∷ vs) = one_more (same_variable v w) (place v vs) (length vs) (within v vs)
  where
    one_more : (a : Bool) (n k : ℕ) → n ≤ k → (if a then 0 else 1 + n) ≤ suc k
    one_more true n k l = omega arith
    one_more false n k l = omega (arith, l)

some_place : (b : Bool) (n i : ℕ) → cond b (Some n) None ≡ Some i → i ≡ n
some_place true n i e = cc
some_place false n i e = cc

no_place : (b : Bool) (n k : ℕ) → nat_lt n k ≡ b → n ≤ k → cond b (Some n) None ≡ None → k ≡ n
no_place true n k t l e = cc
no_place false n k t l e = grind (arith, nat_tests)

pub place_found : (v : VarId) (vs : List VarId) (i : ℕ) → position (is_equal v) vs ≡ Some i → i ≡ place v vs
place_found v vs i e = some_place _ (position_or_len (is_equal v) vs) i e ∙ found v vs

pub place_of_new : (v : VarId) (vs : List VarId) → position (is_equal v) vs ≡ None → length vs ≡ place v vs
place_of_new v vs e =
    no_place _ (position_or_len (is_equal v) vs) (length vs) refl (subst (λ n. n ≤ length vs) (sym (found v vs)) (within v vs)) e ∙ found v vs

pub met_held : (v : VarId) (vs : List VarId) → (if list_any (is_equal v) vs then vs else vs ++ v ∷ []) ≡ meet vs v
met_held v vs = ap (λ b. if b then vs else vs ++ v ∷ []) (held v vs)
