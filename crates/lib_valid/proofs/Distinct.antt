-- Lists that are gone through one by one, where what is held are the values of those that are passed.
use Rattle.std.proofs.Common.{◌≡◌, ◌≢◌, ◌↔◌, IsTrue, ℕ, ◌+◌, ◌<◌, ◌≤◌, Bool, true, false, true≢false, cond, if◌then◌else◌, Some, List, [], ◌∷◌, ◌++◌, map, length, take, drop, get_or, append-nil, refl, sym, ap, ap₂, ◌∙◌, subst, arith}
use Rattle.std.proofs.lemmas.List.{drop_more, map-append, take-append-drop, take_all, take_more}
use Rattle.std.proofs.lemmas.List.Elements.{All-contains, All-cons, All-head, All-nil, All-push, Contains-append_right, Contains-get_or, filter-append}
use Rattle.std.specs.List.{All, Contains, filter}
use Rattle.sig_base.proofs.Distinct.{distinct_apart, distinct_more}
use Rattle.type_core.specs.ValidLibrary.{AreDistinct}
use Rattle.lib_valid.specs.Parts.{AreAll}

-- ---- one element of the list
module _ {A : Type 0} (xs : List A) (i : ℕ) (x : A) (within : i < length xs) (here : x ≡ get_or xs i x) where
  pub taken_more : take (i + 1) xs ≡ take i xs ++ x ∷ []
  taken_more = take_more xs i x within ∙ ap (λ y. take i xs ++ y ∷ []) (sym here)

  pub parted : xs ≡ take i xs ++ x ∷ drop (i + 1) xs
  parted = sym (take-append-drop i xs)
      ∙ ap (λ ys. take i xs ++ ys) (drop_more xs i x within ∙ ap (λ y. y ∷ drop (i + 1) xs) (sym here))

  -- what is so of those before and of it is so of one more
  pub all_more : (P : A → Type 0) → All P (take i xs) → P x → All P (take (i + 1) xs)
  all_more P so_far h = subst (All P) (sym taken_more) (All-push P (take i xs) x so_far h)

  module _ (p : A → Bool) where
    pub filtered_more : p x ≡ true → filter p (take (i + 1) xs) ≡ filter p (take i xs) ++ x ∷ []
    filtered_more is = ap (filter p) taken_more ∙ filter-append p (take i xs) (x ∷ [])
        ∙ ap (λ b. filter p (take i xs) ++ cond b (x ∷ []) []) is

    pub filtered_same : p x ≡ false → filter p (take (i + 1) xs) ≡ filter p (take i xs)
    filtered_same is = ap (filter p) taken_more ∙ filter-append p (take i xs) (x ∷ [])
        ∙ ap (λ b. filter p (take i xs) ++ cond b (x ∷ []) []) is ∙ append-nil (filter p (take i xs))

    pub filtered_parted : p x ≡ true → filter p xs ≡ filter p (take i xs) ++ x ∷ filter p (drop (i + 1) xs)
    filtered_parted is = ap (filter p) parted ∙ filter-append p (take i xs) (x ∷ drop (i + 1) xs)
        ∙ ap (λ b. filter p (take i xs) ++ cond b (x ∷ filter p (drop (i + 1) xs)) (filter p (drop (i + 1) xs))) is

-- what is so of as many as there are is so of all
pub all_passed : {A : Type 0} (P : A → Type 0) (xs : List A) (i : ℕ) → length xs ≤ i → All P (take i xs) → All P xs
all_passed P xs i past h = subst (All P) (take_all i xs past) h

-- ---- values that are held
none_is : {B : Type 0} (ys : List B) (y : B) → ¬ (Contains ys y) → All (λ z. z ≢ y) ys
none_is [] y absent = All-nil _
none_is (z ∷ zs) y absent =
    All-cons (λ w. w ≢ y) z zs (λ e. absent (subst (Contains (z ∷ zs)) e (Contains-get_or (z ∷ zs) 0 z (omega arith))))
    (none_is zs y (λ h. absent (Contains-append_right (z ∷ []) zs y h)))

-- one more of them, whose value `key` was added to those that are held, and `new` tells whether it was new
module _ {A B : Type 0} (value : A → B) (done : List A) (x : A) (held : List B) (key : B) (new : Bool)
    (so_far : AreAll (map value done) (Some held)) (is : key ≡ value x)
    (told : IsTrue new ↔ ¬ (Contains held key)) where
  pub one_more : (next : List A) (more : List B) → next ≡ done ++ x ∷ [] → new ≡ true
      → more ≡ (if new then held ++ key ∷ [] else held)
      → AreAll (map value next) (Some more)
  one_more next more e was f =
      let whole : map value next ≡ map value done ++ value x ∷ [] = ap (map value) e ∙ map-append value done (x ∷ []) in
      let new_value = subst (λ ys. ¬ (Contains ys (value x))) so_far.1
      (subst (λ y. ¬ (Contains held y)) is (told.0 was)) in (
        subst AreDistinct (sym whole) (distinct_more (map value done) (value x) so_far.0
            (none_is (map value done) (value x) new_value)),
        f ∙ ap (λ b. if b then held ++ key ∷ [] else held) was ∙ ap₂ (λ ys y. ys ++ y ∷ []) so_far.1 is ∙ sym whole,
      )

  pub twice : (rest whole : List A) → whole ≡ done ++ x ∷ rest → new ≡ false → ¬ (AreDistinct (map value whole))
  twice rest whole e was distinct =
      let f : map value whole ≡ map value done ++ value x ∷ map value rest = ap (map value) e
      ∙ map-append value done (x ∷ rest) in
      let apart = (distinct_apart (map value done) (value x ∷ map value rest) (subst AreDistinct f distinct)).0 in
      let unheld : ¬ (Contains held key) = λ h. All-head (λ z. value x ≢ z) (value x) (map value rest)
      (All-contains (λ y. All (λ z. y ≢ z) (value x ∷ map value rest)) (map value done) (value x) apart
      (subst (λ ys. Contains ys (value x)) so_far.1 (subst (Contains held) is h))) refl in
      absurd (true≢false (sym (told.1 unheld) ∙ was))

-- one that isn't looked at
pub passed_over : {A B : Type 0} (value : A → B) (done next : List A) (held more : List B)
    → AreAll (map value done) (Some held) → next ≡ done → more ≡ held
    → AreAll (map value next) (Some more)
passed_over value done next held more so_far e f =
    (subst (λ xs. AreDistinct (map value xs)) (sym e) so_far.0, f ∙ so_far.1 ∙ ap (map value) (sym e))

-- all of them were looked at
pub distinct_passed : {A B : Type 0} (value : A → B) (p : A → Bool) (xs : List A) (i : ℕ) → length xs ≤ i
    → AreDistinct (map value (filter p (take i xs)))
    → AreDistinct (map value (filter p xs))
distinct_passed value p xs i past h = subst (λ ys. AreDistinct (map value (filter p ys))) (take_all i xs past) h
