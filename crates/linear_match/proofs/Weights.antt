-- How much is left to be matched, by which the search ends.
use Rattle.std.proofs.Common.{◌≡◌, ℕ, zero, suc, ◌+◌, ◌≤◌, List, [], ◌∷◌, ◌++◌, length, map, refl, ap, ◌∙◌, arith}
use Rattle.type_core.specs.declared.ty.Ty.{Ty}
use Rattle.type_core.specs.Lists.{sum_of}
use Rattle.type_core.specs.Size.{size_of}
use Rattle.iso_normal.specs.declared.factor.Factor.{Factor}
use Rattle.iso_normal.specs.declared.factor.Factor.TheVariants as factor
use Rattle.iso_normal.specs.declared.factor.Factor.TheVariants.{outs-Atom, outs-Arr}
use Rattle.iso_normal.specs.declared.factor.Factor.TheOpen.{Factor-F, Atom, Arr}
use Rattle.iso_normal.specs.declared.factor.Factor.TheViews.{out-Factor}
use Rattle.iso_normal.specs.declared.factor.Factor.TheFolds.{fold_out-Factor, map-Factor}
use Rattle.iso_normal.specs.Factors.{arrow_to, factors_of_arrow}
use Rattle.linear_match.specs.declared.search.Dealing.{Dealing}
use Rattle.linear_match.specs.declared.search.Sorting.{Sorting}
use Rattle.linear_match.specs.declared.search.Task.{Task}
use Rattle.linear_match.specs.search.Tasks.{patterns_of, pieces_of}
use Rattle.linear_match.specs.search.Weights.{AreWithin, count, count_step, counts}

pub counts_append : (fs gs : List Factor) → counts (fs ++ gs) ≡ counts fs + counts gs
counts_append [] gs = omega arith
counts_append (f ∷ fs) gs = omega (arith, counts_append fs gs)

count_out : (f : Factor) → count f ≡ count_step (map-Factor Factor ℕ count (out-Factor f))
unfolding count
count_out f = fold_out-Factor ℕ count_step f

count_atom : (f : Factor) {t : Ty} → out-Factor f ≡ Atom t → count f ≡ 1
count_atom f e = count_out f ∙ ap (λ x. count_step (map-Factor Factor ℕ count x)) e

pub count_arr : (f : Factor) {arguments results : List Factor} → out-Factor f ≡ Arr arguments results
    → count f ≡ 1 + (counts arguments + counts results)
count_arr f e = count_out f ∙ ap (λ x. count_step (map-Factor Factor ℕ count x)) e

count_made : (arguments results : List Factor)
    → count (factor.Arr arguments results) ≡ 1 + (counts arguments + counts results)
count_made arguments results = count_arr (factor.Arr arguments results) (outs-Arr arguments results)

one_at_least : (f : Factor) (x : Factor-F Factor) → out-Factor f ≡ x → 1 ≤ count f
one_at_least f (Atom t) e = omega (arith, count_atom f e)
one_at_least f (Arr xs ys) e = omega (arith, count_arr f e)

pub length_counts : (fs : List Factor) → length fs ≤ counts fs
length_counts [] = omega arith
length_counts (f ∷ fs) = omega (arith, one_at_least f (out-Factor f) refl, length_counts fs)

-- an arrow has no more than its sides and itself
to_one : (f : Factor) (fs : List Factor) (g : Factor) (x : Factor-F Factor) → out-Factor g ≡ x
    → count (arrow_to (f ∷ fs) x) ≤ 1 + (counts (f ∷ fs) + count g)
to_one f fs g (Atom t) e =
    omega (arith, count_made (f ∷ fs) (factor.Atom t ∷ []), count_atom g e, count_atom (factor.Atom t) (outs-Atom t))
to_one f fs g (Arr own results) e =
    omega (arith, count_made ((f ∷ fs) ++ own) results, counts_append (f ∷ fs) own, count_arr g e)

pub counts_arrow : (fs gs : List Factor) → counts (factors_of_arrow fs gs) ≤ 1 + (counts fs + counts gs)
counts_arrow [] gs = omega arith
counts_arrow (f ∷ fs) [] = omega (arith, count_made (f ∷ fs) [])
counts_arrow (f ∷ fs) (g ∷ []) = omega (arith, to_one f fs g (out-Factor g) refl)
counts_arrow (f ∷ fs) (g ∷ h ∷ gs) = omega (arith, count_made (f ∷ fs) (g ∷ h ∷ gs))

-- so many times one more than n
abbrev pub mass : ℕ → ℕ → ℕ
mass zero n = 0
mass (suc s) n = suc n + mass s n

pub mass_plus : (s r n : ℕ) → mass (s + r) n ≡ mass s n + mass r n
mass_plus zero r n =
    let same : 0 + r ≡ r = omega arith in
    omega (arith, ap (λ k. mass k n) same)
mass_plus (suc s) r n =
    let same : suc s + r ≡ suc (s + r) = omega arith in
    omega (arith, ap (λ k. mass k n) same, mass_plus s r n)

pub mass_le : (s m n : ℕ) → m ≤ n → mass s m ≤ mass s n
mass_le zero m n l = omega arith
mass_le (suc s) m n l = omega (arith, l, mass_le s m n l)

-- what patterns over pieces weigh
abbrev pub weigh : List Ty → List (List Factor) → ℕ
weigh [] pieces = 0
weigh (p ∷ ps) [] = 0
weigh (p ∷ ps) (fs ∷ pieces) = mass (size_of p) (counts fs) + weigh ps pieces

pub weigh_append : (ps qs : List Ty) (pieces others : List (List Factor)) → length pieces ≡ length ps
    → weigh (ps ++ qs) (pieces ++ others) ≡ weigh ps pieces + weigh qs others
weigh_append [] qs [] others e = omega arith
weigh_append [] qs (fs ∷ pieces) others e = absurd (omega (e, arith))
weigh_append (p ∷ ps) qs [] others e = absurd (omega (e, arith))
weigh_append (p ∷ ps) qs (fs ∷ pieces) others e = omega (arith, weigh_append ps qs pieces others (omega (e, arith)))

pub weigh_within : (n : ℕ) (ps : List Ty) (pieces : List (List Factor)) → AreWithin n pieces
    → weigh ps pieces ≤ mass (sum_of (map size_of ps)) n
weigh_within n [] pieces w = omega arith
weigh_within n (p ∷ ps) [] w = omega arith
weigh_within n (p ∷ ps) (fs ∷ pieces) w =
    omega (
      arith,
      mass_plus (size_of p) (sum_of (map size_of ps)) n,
      mass_le (size_of p) (counts fs) n w.0,
      weigh_within n ps pieces w.1,
    )

abbrev pub weigh_tasks : List Task → ℕ
weigh_tasks tasks = weigh (patterns_of tasks) (pieces_of tasks)

abbrev pub weigh_task : Task → ℕ
weigh_task task = mass (size_of task.pattern.now) (counts task.factors)

-- what a dealing weighs, and what a sorting does
abbrev pub weigh_dealing : Dealing → ℕ
weigh_dealing dealing = mass (sum_of (map size_of dealing.parts.now)) (counts dealing.factors.now)

abbrev pub weigh_sorting : Sorting → ℕ
weigh_sorting sorting =
    mass (size_of sorting.from.now + size_of sorting.to.now)
    (1 + (counts sorting.arguments.now + counts sorting.results.now))
