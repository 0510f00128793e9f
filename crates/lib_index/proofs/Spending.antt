-- Spending what can't be told from a greater cost.
use Rattle.std.proofs.Common.{◌≡◌, ℕ, ◌<◌, min, nat_lt, true, refl, ap, arith, inl, inr}
use Rattle.std.proofs.lemmas.Bool.{cases_lt, lt-ltb}
use Rattle.lib_index.specs.Reading.{Rest, spent}

pub spent_saturated : (w most cost : ℕ) (rest : Rest) → rest.left < most → cost ≡ min w most → spent cost rest
    ≡ spent w rest
unfolding spent
spent_saturated w most cost rest l e = elim (cases_lt most w) [
  | inl less ↦
      let over : nat_lt rest.left cost ≡ true = lt-ltb rest.left cost (omega (arith, l, e, less)) in
      let far : nat_lt rest.left w ≡ true = lt-ltb rest.left w (omega (arith, l, less)) in
      rw (over, far) refl
  | inr more ↦ ap (λ k. spent k rest) (let same : cost ≡ w = omega (arith, e, more) in same)
]
