-- The marks of a scheme are those of its variables by their numbers.
use Rattle.std.proofs.Common.{◌≡◌, ℕ, zero, suc, ◌+◌, ◌<◌, ◌||◌, Bool, true, false, true≢false, if◌then◌else◌, List, [], ◌∷◌, ◌++◌, length, map, drop, slice_get, add-one, Option, Some, None, refl, sym, ap, ap₂, ◌∙◌, append_assoc, arith}
use Rattle.std.proofs.lemmas.Bool.{eq-eqb, ne_eqb}
use Rattle.std.proofs.lemmas.List.{append-nil, drop_all, length-map, map-append}
use Rattle.std.proofs.lemmas.List.FromFn.{length-map-range_with_len}
use Rattle.std.specs.List.{range_with_len}
use Rattle.lib_index.specs.IndexText.{marks}
use Rattle.lib_index.specs.Marks.{mark_met, marks_met}
use Rattle.lib_index.specs.Reading.{◌>>=◌}
use Rattle.lib_index.proofs.Fields.{some_is}
use Rattle.lib_index.proofs.EachOf.{each_met, each_occurring}
use Rattle.lib_index.proofs.TypesSound.{IsTold, AreTold}
use Rattle.type_core.specs.declared.ty.Scheme.{Scheme}
use Rattle.type_core.specs.declared.ty.VarId.{VarId}
use Rattle.type_core.specs.Schemes.{IsScheme, numbers}
use Rattle.type_core.specs.Variables.{by_first_occurrence, meet, meet_all, occurs, place, same_variable, variables}
use Rattle.type_core.proofs.Places.{all_met, place_is_number, same_is}
use Rattle.type_core.proofs.Trees.{EachOf}

pub order_length : (s : Scheme) → IsScheme s → length (by_first_occurrence s.body) ≡ s.vars
order_length s is =
    let order = by_first_occurrence s.body in
    sym (length-map order (λ v. v.n)) ∙ ap length is ∙ sym (length-map (range_with_len 0 s.vars) (λ n. n))
    ∙ length-map-range_with_len (λ n. n) 0 s.vars

pub marks_length : (s : Scheme) → IsScheme s → length (marks s) ≡ s.vars
marks_length s is = length-map (by_first_occurrence s.body) (λ v. v.eq) ∙ order_length s is

-- a variable's mark stands at its place
mark_at_place : (v : VarId) (vs : List VarId) → occurs v vs ≡ true → slice_get (map (λ w. w.eq) vs) (place v vs)
    ≡ Some v.eq
mark_at_place v [] o = absurd (true≢false (sym o))
mark_at_place v (w ∷ vs) o = cases (same_variable v w) refl (λ p. mark_at_place v vs p) o
  where
    one_more : (n : ℕ) → 1 + n ≡ suc n
    one_more n = omega arith

    cases : (b : Bool) → same_variable v w ≡ b → (occurs v vs ≡ true → slice_get (map (λ z. z.eq) vs) (place v vs)
        ≡ Some v.eq) → (b || occurs v vs) ≡ true
        → slice_get (w.eq ∷ map (λ z. z.eq) vs) (if b then 0 else 1 + place v vs) ≡ Some v.eq
    cases true e next p = ap (λ (u : VarId). Some u.eq) (sym (same_is v w e))
    cases false e next p = ap (slice_get (w.eq ∷ map (λ z. z.eq) vs)) (one_more (place v vs)) ∙ next p

number_of : (m n : ℕ) → 0 + m ≡ n → n ≡ m
number_of m n e = omega (arith, e)

-- the variables of a scheme are told by its marks
pub scheme_told : (s : Scheme) → IsScheme s → AreTold (Some (marks s)) s.body
scheme_told s is = each_occurring (IsTold (Some (marks s))) (variables s.body) (λ v o.
    let order = by_first_occurrence s.body in
    let met = all_met [] (variables s.body) v o in
    let here : slice_get (marks s) v.n ≡ Some v.eq = ap (slice_get (marks s)) (number_of _ _
    (place_is_number 0 s.vars order is v met)) ∙ mark_at_place v order met in
    rw here refl)

-- ---- marks that tell the variables of a scheme are its marks

dropped : {A : Type 0} (k : ℕ) (xs : List A) (x : A) → slice_get xs k ≡ Some x → drop k xs ≡ x ∷ drop (suc k) xs
dropped k [] x e = absurd cc
dropped zero (y ∷ xs) x e = ap (λ z. z ∷ xs) (some_is y x e)
dropped (suc k) (y ∷ xs) x e = dropped k xs x e

mark_told : (ms : List Bool) (v : VarId) → IsTold (Some ms) v → slice_get ms v.n ≡ Some v.eq
mark_told ms v e = cases (slice_get ms v.n) e
  where
    cases : (o : Option Bool) → (o >>= λ mark. Some (record { n = v.n; eq = mark })) ≡ Some v → o ≡ Some v.eq
    cases (Some mark) e = ap (λ (w : VarId). Some w.eq) (some_is (record { n = v.n; eq = mark }) v e)
    cases None e = absurd cc

abbrev first_or : ℕ → List ℕ → ℕ
first_or n [] = n
first_or n (m ∷ ms) = m

abbrev others : List ℕ → List ℕ
others [] = []
others (m ∷ ms) = ms

marks_from : (k : ℕ) (vs : List VarId) (ms : List Bool) → numbers vs ≡ range_with_len k (length vs)
    → EachOf (IsTold (Some ms)) vs → length ms ≡ k + length vs → drop k ms ≡ map (λ v. v.eq) vs
marks_from k [] ms e p l = drop_all k ms (omega (arith, l))
marks_from k (v ∷ vs) ms e p l =
    let n-is : v.n ≡ k = ap (first_or 0) e in
    let here : slice_get ms k ≡ Some v.eq = ap (slice_get ms) (sym n-is) ∙ mark_told ms v p.0 in
    dropped k ms v.eq here ∙ ap (λ z. v.eq ∷ z) (ap (λ j. drop j ms) (sym (add-one k)) ∙ marks_from (k + 1) vs ms
    (ap others e) p.1 (omega (arith, l)))

pub marks_are : (s : Scheme) (ms : List Bool) → IsScheme s → length ms ≡ s.vars → AreTold (Some ms) s.body
    → ms ≡ marks s
marks_are s ms is l p =
    let order = by_first_occurrence s.body in
    let count = order_length s is in
    marks_from 0 order ms (is ∙ ap (range_with_len 0) (sym count)) (each_met (IsTold (Some ms)) []
    (variables s.body) tt p) (omega (arith, l, count))

-- ---- the marks that are met are those of the scheme

place_within : (v : VarId) (vs : List VarId) → occurs v vs ≡ true → place v vs < length vs
place_within v [] o = absurd (true≢false (sym o))
place_within v (w ∷ vs) o = cases (same_variable v w) (λ p. place_within v vs p) o
  where
    cases : (b : Bool) → (occurs v vs ≡ true → place v vs < length vs) → (b || occurs v vs) ≡ true
        → (if b then 0 else 1 + place v vs) < suc (length vs)
    cases true next p = omega arith
    cases false next p = omega (arith, next p)

in_front : (a k : ℕ) (xs more : List VarId) → numbers (xs ++ more) ≡ range_with_len a k → numbers xs
    ≡ range_with_len a (length xs)
in_front a k [] more e = refl
in_front a zero (x ∷ xs) more e = absurd cc
in_front a (suc k) (x ∷ xs) more e = ap₂ ◌∷◌ (ap (first_or 0) e) (in_front (a + 1) k xs more (ap others e))

number_behind : (a k : ℕ) (xs : List VarId) (v : VarId) (more : List VarId) → numbers (xs ++ v ∷ more)
    ≡ range_with_len a k → v.n ≡ a + length xs
number_behind a zero [] v more e = absurd cc
number_behind a (suc k) [] v more e = omega (arith, ap (first_or 0) e)
number_behind a zero (x ∷ xs) v more e = absurd cc
number_behind a (suc k) (x ∷ xs) v more e = omega (arith, number_behind (a + 1) k xs v more (ap others e))

met_first : (met vs : List VarId) → (more : List VarId) × (meet_all met vs ≡ met ++ more)
met_first met [] = ([], sym (append-nil met))
met_first met (v ∷ vs) = let b = met_first (meet met v) vs in cases (occurs v met) b.0 b.1
  where
    cases : (is_old : Bool) (more : List VarId) → meet_all (meet met v) vs ≡ (if is_old then met else met ++ v ∷ [])
        ++ more → (all : List VarId) × (meet_all (meet met v) vs ≡ met ++ all)
    cases true more e = (more, e)
    cases false more e = (v ∷ more, e ∙ append_assoc met (v ∷ []) more)

met_marks : (n : ℕ) (met vs : List VarId) → numbers (meet_all met vs) ≡ range_with_len 0 n
    → marks_met (map (λ v. v.eq) met) vs ≡ map (λ v. v.eq) (meet_all met vs)
met_marks n met [] e = refl
met_marks n met (v ∷ vs) e = ap (λ ms. marks_met ms vs) (cases (occurs v met) refl (met_first (meet met v) vs))
    ∙ met_marks n (meet met v) vs e
  where
    old : v.n < length met → mark_met (map (λ w. w.eq) met) v ≡ map (λ w. w.eq) met
    old l = rw (ne_eqb v.n (length (map (λ w. w.eq) met)) (λ f. absurd (omega (
      arith,
      l,
      f,
      length-map met
          (λ w. w.eq),
    )))) refl

    new : v.n ≡ length met → mark_met (map (λ w. w.eq) met) v ≡ map (λ w. w.eq) (met ++ v ∷ [])
    new f = rw (eq-eqb v.n (length (map (λ w. w.eq) met)) (f ∙ sym (length-map met (λ w. w.eq))))
        (sym (map-append (λ w. w.eq) met (v ∷ [])))

    cases : (is_old : Bool) → occurs v met ≡ is_old → (more : List VarId) × (meet_all (meet met v) vs ≡ meet met v
        ++ more) → mark_met (map (λ w. w.eq) met) v ≡ map (λ w. w.eq) (meet met v)
    cases true o b =
        let same : meet met v ≡ met = ap (λ is. if is then met else met ++ v ∷ []) o in
        let numbered = in_front 0 n met b.0 (ap numbers (ap (λ xs. xs ++ b.0) (sym same) ∙ sym b.1) ∙ e) in
        old (omega (arith, place_is_number 0 (length met) met numbered v o, place_within v met o))
        ∙ ap (map (λ w. w.eq)) (sym same)
    cases false o b =
        let more : meet met v ≡ met ++ v ∷ [] = ap (λ is. if is then met else met ++ v ∷ []) o in
        let whole : meet_all (meet met v) vs ≡ met ++ v ∷ b.0 = b.1 ∙ ap (λ xs. xs ++ b.0) more ∙ append_assoc met
        (v ∷ []) b.0 in
        new (omega (arith, number_behind 0 n met v b.0 (ap numbers (sym whole) ∙ e))) ∙ ap (map (λ w. w.eq)) (sym more)

pub met_are_marks : (s : Scheme) → IsScheme s → marks_met [] (variables s.body) ≡ marks s
met_are_marks s is = met_marks s.vars [] (variables s.body) is
