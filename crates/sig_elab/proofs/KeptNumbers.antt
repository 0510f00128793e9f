-- The names that are left, and their numbers, one name after the other.
use Rattle.std.proofs.Common.{◌≡◌, ℕ, zero, suc, ◌+◌, ◌<◌, ◌≤◌, ◌||◌, ◌&&◌, Bool, true, false, not, if◌then◌else◌, List, [], ◌∷◌, ◌++◌, drop, length, map, take, nat_le, nat_lt, slice_get, slice_index_or, Some, refl, sym, ap, ap₂, ◌∙◌, add-one, arith}
use Rattle.std.proofs.lemmas.Bool.{and_from, le-leb, lt-leb, ltb-false, ltb-true, ne_eqb}
use Rattle.type_core.specs.declared.names.TypeName.{TypeName}
use Rattle.type_core.specs.InitialNames.{initial_names}
use Rattle.elab_env.specs.declared.realization.Realization.{Realization}
use Rattle.elab_env.specs.Names.{is_described, is_own}
use Rattle.elab_env.specs.Sound.{AreRealizations}
use Rattle.elab_env.specs.Table.{Table, is_free, is_realized}
use Rattle.elab_rules.specs.Copies.{numbers_from}
use Rattle.elab_rules.specs.Library.{count_kept, kept_names, number_kept}
use Rattle.elab_rules.specs.Views.{gone_of}
use Rattle.elab_rules.proofs.Gone.{at_number}
use Rattle.elab_rules.proofs.Appended.{get_appended, later_at}

-- ---- which names are left
-- what isn't described was not realized
pub not_realized : (names : List TypeName) (rs : List Realization) (n : ℕ) → AreRealizations names rs → is_described names n ≡ false → is_realized rs n ≡ false
not_realized names [] n h e = refl
not_realized names (r ∷ rs) n h e =
    ap₂ ◌||◌ (ne_eqb n r.name.0 (λ same. let d : is_described names n ≡ true = ap (is_described names) same ∙ h.0.described in cc)) (not_realized names rs n h.1 e)

pub gone_at : (table : Table) (n : ℕ) → n < length table.names → slice_index_or (gone_of table) n false ≡ is_realized table.realizations n
gone_at table n within = at_number (is_realized table.realizations) 0 (length table.names) n within ∙ ap (is_realized table.realizations) (let e : 0 + n ≡ n = omega arith in e)

-- an initial name isn't described, and nor is one from elsewhere
pub initial_undescribed : (names : List TypeName) (n : ℕ) → n < 14 → is_described names n ≡ false
initial_undescribed names n l = ap (λ b. b && is_own (slice_get names n)) (lt-leb (length initial_names) n l)

pub external_undescribed : (names : List TypeName) (n : ℕ) (name : TypeName) → slice_get names n ≡ Some name → name.external ≡ true → is_described names n ≡ false
external_undescribed names n name at e = ap (λ o. nat_le (length initial_names) n && is_own o) at ∙ ap (λ b. nat_le (length initial_names) n && not b) e ∙ and_false (nat_le (length initial_names) n)
  where
    and_false : (b : Bool) → (b && false) ≡ false
    and_false true = refl
    and_false false = refl

-- each other one is
pub own_is_described : (names : List TypeName) (n : ℕ) (name : TypeName) → 14 ≤ n → slice_get names n ≡ Some name → name.external ≡ false → is_described names n ≡ true
own_is_described names n name l at e = and_from (nat_le (length initial_names) n) (is_own (slice_get names n)) (le-leb (length initial_names) n l) (ap is_own at ∙ ap not e)

-- a name that isn't described is left
pub kept_undescribed : (table : Table) (n : ℕ) → AreRealizations table.names table.realizations → n < length table.names → is_described table.names n ≡ false → true ≡ not (slice_index_or (gone_of table) n false)
kept_undescribed table n h within e = ap not (sym (gone_at table n within ∙ not_realized table.names table.realizations n h e))

-- another one is left where it is free
pub kept_described : (table : Table) (n : ℕ) → n < length table.names → is_described table.names n ≡ true → is_free table n ≡ not (slice_index_or (gone_of table) n false)
kept_described table n within e = ap (λ b. b && not (is_realized table.realizations n)) e ∙ ap not (sym (gone_at table n within))

-- ---- the flags
numbers_count : (f : ℕ → Bool) (from count : ℕ) → length (map f (numbers_from from count)) ≡ count
numbers_count f from zero = refl
numbers_count f from (suc count) = ap (λ n. suc n) (numbers_count f (from + 1) count)

-- there is one for each name
pub flags_count : (table : Table) → length (gone_of table) ≡ length table.names
flags_count table = numbers_count (is_realized table.realizations) 0 (length table.names)

-- ---- one number more
count_taken : (flags : List Bool) (n : ℕ) → n < length flags → count_kept (take (suc n) flags) ≡ (if slice_index_or flags n false then count_kept (take n flags) else suc (count_kept (take n flags)))
count_taken [] n l = absurd (omega (arith, l))
count_taken (true ∷ []) zero l = refl
count_taken (true ∷ flag ∷ flags) zero l = refl
count_taken (false ∷ []) zero l = refl
count_taken (false ∷ flag ∷ flags) zero l = refl
count_taken (true ∷ flags) (suc n) l = count_taken flags n (omega (arith, l))
count_taken (false ∷ flags) (suc n) l = ap (λ k. suc k) (count_taken flags n (omega (arith, l))) ∙ by_flag (slice_index_or flags n false)
  where
    by_flag : (b : Bool) → suc (if b then count_kept (take n flags) else suc (count_kept (take n flags))) ≡ (if b then suc (count_kept (take n flags)) else suc (suc (count_kept (take n flags))))
    by_flag true = refl
    by_flag false = refl

pub number_passed : (flags : List Bool) (n k : ℕ) → n < length flags → k ≡ number_kept flags n → false ≡ not (slice_index_or flags n false) → k ≡ number_kept flags (n + 1)
number_passed flags n k l e gone = e ∙ by_flag (slice_index_or flags n false) refl gone ∙ ap (λ m. count_kept (take m flags)) (sym (add-one n))
  where
    by_flag : (b : Bool) → slice_index_or flags n false ≡ b → false ≡ not b → number_kept flags n ≡ count_kept (take (suc n) flags)
    by_flag true is e = sym (count_taken flags n l ∙ ap (λ b. if b then count_kept (take n flags) else suc (count_kept (take n flags))) is)
    by_flag false is e = cc

pub number_counted : (flags : List Bool) (n k : ℕ) → n < length flags → k ≡ number_kept flags n → true ≡ not (slice_index_or flags n false) → k + 1 ≡ number_kept flags (n + 1)
number_counted flags n k l e kept = add-one k ∙ ap (λ m. suc m) e ∙ by_flag (slice_index_or flags n false) refl kept ∙ ap (λ m. count_kept (take m flags)) (sym (add-one n))
  where
    by_flag : (b : Bool) → slice_index_or flags n false ≡ b → true ≡ not b → suc (number_kept flags n) ≡ count_kept (take (suc n) flags)
    by_flag true is e = cc
    by_flag false is e = sym (count_taken flags n l ∙ ap (λ b. if b then count_kept (take n flags) else suc (count_kept (take n flags))) is)

pub number_within : (flags : List Bool) (n : ℕ) → number_kept flags n ≤ n
number_within [] zero = omega arith
number_within [] (suc n) = omega arith
number_within (flag ∷ flags) zero = omega arith
number_within (true ∷ flags) (suc n) = let h = number_within flags n in omega (arith, h)
number_within (false ∷ flags) (suc n) = let h = number_within flags n in omega (arith, h)

-- a list of numbers with one more
pub numbers_pushed : (f : ℕ → ℕ) (xs : List ℕ) (n : ℕ) → length xs ≡ n → ((m : ℕ) → m < n → slice_get xs m ≡ Some (f m)) → (m : ℕ) → m < n + 1 → slice_get (xs ++ f n ∷ []) m ≡ Some (f m)
numbers_pushed f xs n count each m l = by_case (nat_lt m n) refl
  where
    by_case : (b : Bool) → nat_lt m n ≡ b → slice_get (xs ++ f n ∷ []) m ≡ Some (f m)
    by_case true is = let under : m < n = ltb-true m n is in get_appended xs (f n ∷ []) m (omega (arith, count, under)) ∙ each m under
    by_case false is =
        let over : n ≤ m = ltb-false m n is in
        let same : n ≡ m = omega (arith, over, l) in
        later_at xs (f n ∷ []) 0 m (omega (arith, count, same)) ∙ ap (λ k. Some (f k)) same

-- ---- one name more
-- the names from a number on that are left
pub names_passed : (names : List TypeName) (flags : List Bool) (n : ℕ) → n < length names → n < length flags → false ≡ not (slice_index_or flags n false)
    → kept_names (drop n names) (drop n flags) ≡ kept_names (drop (suc n) names) (drop (suc n) flags)
names_passed [] flags n l m gone = absurd (omega (arith, l))
names_passed (name ∷ names) [] n l m gone = absurd (omega (arith, m))
names_passed (name ∷ names) (true ∷ flags) zero l m gone = refl
names_passed (name ∷ names) (false ∷ flags) zero l m gone = cc
names_passed (name ∷ names) (flag ∷ flags) (suc n) l m gone = names_passed names flags n (omega (arith, l)) (omega (arith, m)) gone

pub names_left : (names : List TypeName) (flags : List Bool) (n : ℕ) (name : TypeName) → slice_get names n ≡ Some name → n < length flags → true ≡ not (slice_index_or flags n false)
    → kept_names (drop n names) (drop n flags) ≡ name ∷ kept_names (drop (suc n) names) (drop (suc n) flags)
names_left [] flags n name at m kept = cc
names_left (x ∷ names) [] n name at m kept = absurd (omega (arith, m))
names_left (x ∷ names) (true ∷ flags) zero name at m kept = cc
names_left (x ∷ names) (false ∷ flags) zero name at m kept = ap (λ y. y ∷ kept_names names flags) (let e : x ≡ name = cc in e)
names_left (x ∷ names) (flag ∷ flags) (suc n) name at m kept = names_left names flags n name at (omega (arith, m)) kept
