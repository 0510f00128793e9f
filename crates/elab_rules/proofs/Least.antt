-- The least of numbers.
use Rattle.std.proofs.Common.{◌≡◌, ℕ, ◌≤◌, Bool, true, false, nat_le, min, List, [], ◌∷◌, refl, subst, arith}
use Rattle.std.specs.List.{All}
use Rattle.std.proofs.lemmas.Bool.{leb-false, leb-true}
use Rattle.std.proofs.lemmas.List.Elements.{All-cons, All-head, All-nil, All-tail}
use Rattle.elab_rules.specs.Sharing.{least_of}

least_of_two : (P : ℕ → Type 0) (n m : ℕ) → P n → P m → P (min n m)
least_of_two P n m p q = by_case (nat_le n m) refl
  where
    by_case : (b : Bool) → nat_le n m ≡ b → P (min n m)
    by_case true is = subst P (let l = leb-true n m is in let e : n ≡ min n m = omega (arith, l) in e) p
    by_case false is = subst P (let l = leb-false n m is in let e : m ≡ min n m = omega (arith, l) in e) q

pub least_is : (P : ℕ → Type 0) (n : ℕ) (ns : List ℕ) → P n → All P ns → P (least_of n ns)
least_is P n [] p all = p
least_is P n (m ∷ ms) p all = least_is P (min n m) ms (least_of_two P n m p (All-head P m ms all)) (All-tail P m ms all)

least_below : (n : ℕ) (ns : List ℕ) → least_of n ns ≤ n
least_below n [] = omega arith
least_below n (m ∷ ms) = let l = least_below (min n m) ms in omega (arith, l)

pub least_of_all : (n : ℕ) (ns : List ℕ) → All (λ k. least_of n ns ≤ k) (n ∷ ns)
least_of_all n ns = All-cons (λ k. least_of n ns ≤ k) n ns (least_below n ns) (each n ns)
  where
    each : (n : ℕ) (ns : List ℕ) → All (λ k. least_of n ns ≤ k) ns
    each n [] = All-nil (λ k. n ≤ k)
    each n (m ∷ ms) = All-cons (λ k. least_of (min n m) ms ≤ k) m ms (let l = least_below (min n m) ms in omega (arith, l)) (each (min n m) ms)
