-- Each step of the search leaves less to be matched.
use Rattle.std.proofs.Common.{◌≡◌, ℕ, zero, suc, ◌+◌, ◌-◌, ◌*◌, ◌<◌, ◌≤◌, List, [], ◌∷◌, ◌++◌, length, map, drop, take, replicate, sym, ap, ap₂, ◌∙◌, subst, arith}
use Rattle.std.proofs.lemmas.List.{take-append-drop}
use Rattle.type_core.specs.declared.ty.Ty.{Ty}
use Rattle.type_core.specs.declared.ty.Ty.TheVariants as ty
use Rattle.type_core.specs.declared.ty.Ty.TheOpen.{Ty-F, Var, Con, Rec, Tup, Arrow}
use Rattle.type_core.specs.declared.ty.Ty.TheFolds.{fold_out-Ty}
use Rattle.type_core.specs.Lists.{sum_of}
use Rattle.type_core.specs.Size.{size_field_step, size_of, size_step}
use Rattle.type_core.proofs.Trees.{size_arrow, size_tup}
use Rattle.iso_normal.specs.declared.factor.Factor.{Factor}
use Rattle.iso_normal.specs.declared.factor.Factor.TheOpen.{Arr}
use Rattle.iso_normal.specs.declared.factor.Factor.TheViews.{out-Factor}
use Rattle.iso_normal.specs.Factors.{factors_of_arrow}
use Rattle.linear_match.specs.search.Weights.{AreWithin, counts}
use Rattle.linear_match.proofs.Weights.{count_arr, counts_append, counts_arrow, length_counts, mass, mass_le, mass_plus, weigh, weigh_append, weigh_within}

-- a type has some node
one_at_least : (x : Ty-F ℕ ℕ) → 1 ≤ size_step x
one_at_least (Var v) = omega arith
one_at_least (Con n ts) = omega arith
one_at_least (Rec fs) = omega arith
one_at_least (Tup ts) = omega arith
one_at_least (Arrow a b) = omega arith

some_size : (t : Ty) → 1 ≤ size_of t
some_size t = subst (λ n. 1 ≤ n) (sym (fold_out-Ty _ _ size_step size_field_step t)) (one_at_least _)

some_mass : (s n : ℕ) → 1 ≤ s → 1 ≤ mass s n
some_mass zero n l = absurd (omega (arith, l))
some_mass (suc s) n l = omega arith

-- a task is done

-- a node of the pattern is done
mass_node : (s r n : ℕ) → s ≡ 1 + r → mass s n ≡ suc n + mass r n
mass_node s r n e =
    let next : s ≡ suc r = omega (arith, e) in
    ap (λ k. mass k n) next

pub deal_less : (p : Ty) (ps qs : List Ty) (fs gs : List Factor) (w : ℕ) → p ≡ ty.Tup ps → qs ≡ ps → gs ≡ fs
    → 8 * (mass (sum_of (map size_of qs)) (counts gs) + w) + 4 * (length gs - 0) + 6 < 8 *
    (mass (size_of p) (counts fs) + w) + 2
deal_less p ps qs fs gs w e f g =
    let sums = ap (λ xs. sum_of (map size_of xs)) f in
    let node = mass_node (size_of p) (sum_of (map size_of ps)) (counts fs) (ap size_of e ∙ size_tup ps) in
    omega (arith, ap₂ mass sums (ap counts g), node, ap length g, length_counts fs)

pub sort_less : (r p q a b : Ty) (f : Factor) (fs xs ys us vs : List Factor) (w : ℕ) → r ≡ ty.Arrow p q → a ≡ p
    → b ≡ q → fs ≡ f ∷ [] → out-Factor f ≡ Arr xs ys → us ≡ xs → vs ≡ ys
    → 8 * (mass (size_of a + size_of b) (1 + (counts us + counts vs)) + w) + 4 * (length us - 0) + 6 < 8 *
    (mass (size_of r) (counts fs) + w) + 1
sort_less r p q a b f fs xs ys us vs w e ea eb i o eu ev =
    let whole : counts fs ≡ 1 + (counts us + counts vs) =
    omega (arith, ap counts i, count_arr f o, ap counts eu, ap counts ev) in
    let node = mass_node (size_of r) (size_of p + size_of q) (counts fs) (ap size_of e ∙ size_arrow p q) in
    let sides : size_of a + size_of b ≡ size_of p + size_of q = omega (arith, ap size_of ea, ap size_of eb) in
    omega (arith, node, ap₂ mass sides (sym whole), whole, length_counts us)

pub other_less : (r p q a b : Ty) (fs xs ys : List Factor) (w : ℕ) → r ≡ ty.Arrow p q → a ≡ p → b ≡ q → xs ≡ []
    → ys ≡ fs
    → 8 * (mass (size_of a) (counts xs) + (mass (size_of b) (counts ys) + w)) + 4 < 8 *
    (mass (size_of r) (counts fs) + w) + 1
other_less r p q a b fs xs ys w e ea eb ex ey =
    let node = mass_node (size_of r) (size_of p + size_of q) (counts fs) (ap size_of e ∙ size_arrow p q) in
    let none : 0 ≤ counts fs = omega arith in
    omega (
      arith,
      node,
      mass_plus (size_of p) (size_of q) (counts fs),
      ap₂ mass (ap size_of ea) (ap counts ex),
      ap₂
          mass (ap size_of eb) (ap counts ey),
      mass_le (size_of p) 0 (counts fs) none,
    )

-- the sides of an arrow whose arguments are sorted
pub sides_less : (p q : Ty) (arguments results sent kept xs ys : List Factor) (w : ℕ) → counts sent ≤ counts arguments
    → counts kept ≤ counts arguments → xs ≡ sent → ys ≡ factors_of_arrow kept results
    → mass (size_of p) (counts xs) + (mass (size_of q) (counts ys) + w) ≤ mass (size_of p + size_of q)
    (1 + (counts arguments + counts results)) + w
sides_less p q arguments results sent kept xs ys w s k e f =
    let all = 1 + (counts arguments + counts results) in
    let left : counts sent ≤ all = omega (arith, s) in
    let right : counts (factors_of_arrow kept results) ≤ all = omega (arith, k, counts_arrow kept results) in
    omega (
      arith,
      mass_plus (size_of p) (size_of q) all,
      mass_le (size_of p) (counts sent) all left,
      mass_le
          (size_of q) (counts (factors_of_arrow kept results)) all right,
      ap (λ fs. mass (size_of p) (counts fs)) e,
      ap
          (λ fs. mass (size_of q) (counts fs)) f,
    )

-- components with their pieces
pub pieces_less : (ps : List Ty) (pieces : List (List Factor)) (qs : List Ty) (others : List (List Factor))
    (fs : List Factor) (all : List Ty) (every : List (List Factor)) → length pieces ≡ length ps
    → AreWithin (counts fs) pieces
    → all ≡ ps ++ qs → every ≡ pieces ++ others
    → weigh all every ≤ mass (sum_of (map size_of ps)) (counts fs) + weigh qs others
pieces_less ps pieces qs others fs all every long held e f =
    omega (arith, ap₂ weigh e f, weigh_append ps qs pieces others long, weigh_within (counts fs) ps pieces held)

-- components are no more than their nodes
pub parts_few : (ps : List Ty) → length ps ≤ sum_of (map size_of ps)
parts_few [] = omega arith
parts_few (p ∷ ps) = omega (arith, some_size p, parts_few ps)

pub counts_take : (k : ℕ) (fs : List Factor) → counts (take k fs) ≤ counts fs
counts_take k fs = omega (arith, counts_append (take k fs) (drop k fs), ap counts (take-append-drop k fs))

pub within_none : (m n : ℕ) → AreWithin m (replicate n [])
within_none m zero = tt
within_none m (suc n) = (omega arith, within_none m n)
