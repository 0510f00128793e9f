-- What is charged for the names of a valid library, each described one to the type constructor of its path.
use Rattle.std.proofs.Common.{◌≡◌, ◌≢◌, ℕ, zero, suc, ◌+◌, ◌<◌, ◌≤◌, Bool, true, false, not, if◌then◌else◌, List, [], ◌∷◌, ◌++◌, length, map, refl, ap, subst, arith, inl, inr}
use Rattle.std.proofs.lemmas.List.Elements.{All-head, All-tail, Contains-append_cases, Contains-append_left, Contains-append_right, Contains-push_cases}
use Rattle.std.specs.List.{All, Contains, filter}
use Rattle.std.specs.Prelude.{slice_index_or}
use Rattle.sig_base.proofs.Distinct.{distinct_parts}
use Rattle.sig_base.specs.Lists.{AreDistinct}
use Rattle.type_core.specs.declared.names.TypeName.{TypeName}
use Rattle.type_core.specs.Lists.{sum_of}
use Rattle.type_core.specs.Weight.{name_weight}

-- ---- of distinct values the sum is at most that of all among which they are

module _ {A : Type 0} where
  around : (xs : List A) (x : A) (k : ℕ) → k < length xs → slice_index_or xs k x ≡ x → (before after : List A)
      × (xs ≡ before ++ x ∷ after)
  around [] x k l e = absurd (omega (arith, l))
  around (y ∷ xs) x zero l e = ([], xs, ap (λ z. z ∷ xs) e)
  around (y ∷ xs) x (suc k) l e = let s = around xs x k (omega (arith, l)) e in (y ∷ s.0, s.1, ap (λ z. y ∷ z) s.2)

  none_there : (x : A) → Contains [] x → ⊥
  none_there x c = omega (arith, c.1)

  only_one : (y x : A) → Contains (y ∷ []) x → y ≡ x
  only_one y x c = elim (Contains-push_cases [] y x c) [ inl n ↦ absurd (none_there x n) | inr e ↦ e ]

  another : (before after : List A) (x y : A) → x ≢ y → Contains (before ++ x ∷ after) y → Contains (before ++ after) y
  another before after x y differ c = elim (Contains-append_cases before (x ∷ after) y c) [
    | inl left ↦ Contains-append_left before after y left
    | inr right ↦ elim (Contains-append_cases (x ∷ []) after y right) [
      | inl e ↦ absurd
          (differ (only_one x y e))
      | inr later ↦ Contains-append_right before after y later
    ]
  ]

  module _ (w : A → ℕ) where
    pub sum_appended : (xs ys : List A) → sum_of (map w (xs ++ ys)) ≡ sum_of (map w xs) + sum_of (map w ys)
    sum_appended [] ys = omega arith
    sum_appended (x ∷ xs) ys = omega (arith, sum_appended xs ys)

    pub sum_among : (xs ys : List A) → AreDistinct xs → All (Contains ys) xs → sum_of (map w xs) ≤ sum_of (map w ys)
    sum_among [] ys d c = omega arith
    sum_among (x ∷ xs) ys d c =
        let here = All-head (Contains ys) x xs c in
        let s = around ys x here.0 here.1 here.2 in
        let parts = distinct_parts x xs d in
        let others = sum_among xs (s.0 ++ s.1) parts.1 (λ k e l. another s.0 s.1 x (slice_index_or xs k e)
        (parts.0 k e l) (subst (λ zs. Contains zs (slice_index_or xs k e)) s.2
        (All-tail (Contains ys) x xs c k e l))) in
        omega (arith, others, sum_appended s.0 s.1, sum_appended s.0 (x ∷ s.1), ap (λ zs. sum_of (map w zs)) s.2)

-- ---- names

-- what a path weighs
abbrev pub path_cost : List ℕ → ℕ
path_cost path = 1 + length path

abbrev pub name_cost : TypeName → ℕ
name_cost name = path_cost name.path

pub names_cost : (names : List TypeName)
    → sum_of (map name_cost names) ≡ sum_of (map name_weight names) + sum_of (map path_cost (map (λ name. name.path)
    (filter (λ name. not name.external) names)))
names_cost [] = refl
names_cost (name ∷ names) = cases name.external (names_cost names)
  where
    cases : (external : Bool) → sum_of (map name_cost names) ≡ sum_of (map name_weight names) + sum_of (map path_cost
        (map (λ n. n.path) (filter (λ n. not n.external) names)))
        → name_cost name + sum_of (map name_cost names) ≡ ((if external then 1 + length name.path else 0) + sum_of
        (map name_weight names))
        + sum_of (map path_cost (map (λ n. n.path) (if not external then name ∷ filter
        (λ n. not n.external) names else filter (λ n. not n.external) names)))
    cases true e = omega (arith, e)
    cases false e = omega (arith, e)
