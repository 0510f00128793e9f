-- Places of elements, in a list that grows at its end.
use Rattle.std.proofs.Common.{◌≡◌, ℕ, zero, suc, ◌+◌, ◌<◌, ◌≤◌, Bool, true, false, not, ◌&&◌, is_some, if◌then◌else◌, List, [], ◌∷◌, ◌++◌, length, map, take, drop, get_or, slice_get, unwrap_or, bytes_eq, Option, Some, None, refl, sym, ap, ◌∙◌, arith, drop-cons}
use Rattle.std.specs.Option.{option_map, option_or, option_and_then}
use Rattle.std.proofs.lemmas.Cmp.{nat_list_eq_equiv}
use Rattle.std.proofs.lemmas.List.{length-take-le, map-append, take_more, take-append-drop}
use Rattle.elab_types.specs.Finding.{first_given, place_of, none_of}
use Rattle.elab_types.specs.Sources.{first_token}

-- ---- places
later_or : (o : Option ℕ) (passes : Bool) (n : ℕ) → option_map (λ place. suc place) (option_or o (if passes then Some n else None)) ≡ option_or (option_map (λ place. suc place) o) (if passes then Some (suc n) else None)
later_or None true n = refl
later_or None false n = refl
later_or (Some place) passes n = refl

behind : (passes : Bool) (o p : Option ℕ) → (if passes then Some 0 else option_or o p) ≡ option_or (if passes then Some 0 else o) p
behind true o p = refl
behind false o p = refl

-- one element more
pub place_more : {A : Type 0} (test : A → Bool) (xs : List A) (x : A) → place_of test (xs ++ x ∷ []) ≡ option_or (place_of test xs) (if test x then Some (length xs) else None)
place_more test [] x = refl
place_more test (y ∷ ys) x =
    ap (λ o. if test y then Some 0 else option_map (λ place. suc place) o) (place_more test ys x)
    ∙ ap (λ o. if test y then Some 0 else o) (later_or (place_of test ys) (test x) (length ys))
    ∙ behind (test y) (option_map (λ place. suc place) (place_of test ys)) (if test x then Some (suc (length ys)) else None)

-- ---- none passes where there is no place
not_later : (o : Option ℕ) → not (is_some (option_map (λ place. suc place) o)) ≡ not (is_some o)
not_later None = refl
not_later (Some place) = refl

-- what `is_none` tells
pub is_none_by : {A : Type 0} (result : Bool) (o : Option A) → is_some o ≡ not result → result ≡ not (is_some o)
is_none_by true o h = ap not (sym h)
is_none_by false o h = ap not (sym h)

pub none_by_place : {A : Type 0} (test : A → Bool) (xs : List A) → none_of test xs ≡ not (is_some (place_of test xs))
none_by_place test [] = refl
none_by_place test (x ∷ xs) =
    elim (test x) as (λ passes. (not passes && none_of test xs) ≡ not (is_some (if passes then Some 0 else option_map (λ place. suc place) (place_of test xs)))) [
      | true ↦ refl
      | false ↦ none_by_place test xs ∙ sym (not_later (place_of test xs))
    ]

no_place : (o : Option ℕ) → not (is_some o) ≡ true → o ≡ None
no_place None h = refl
no_place (Some place) h = cc

or_none : (o : Option ℕ) → option_or o None ≡ o
or_none None = refl
or_none (Some place) = refl

-- ---- what is given at the first place where something is
abbrev pub given_at : {A B : Type 0} → (A → Option B) → List A → Option ℕ → Option B
given_at given xs None = None
given_at given xs (Some place) = option_and_then given (slice_get xs place)

given_later : {A B : Type 0} (given : A → Option B) (x : A) (xs : List A) (place : Option ℕ) → given_at given xs place ≡ given_at given (x ∷ xs) (option_map (λ p. suc p) place)
given_later given x xs None = refl
given_later given x xs (Some place) = refl

given_here : {A B : Type 0} (plain : A → Option B) (x : A) (xs : List A) (now : Option B) (later : Option B) (place : Option ℕ) → ((b : B) → now ≡ Some b → plain x ≡ Some b)
    → later ≡ given_at plain (x ∷ xs) place → option_or now later ≡ given_at plain (x ∷ xs) (if is_some now then Some 0 else place)
given_here plain x xs None later place same e = e
given_here plain x xs (Some b) later place same e = sym (same b refl)

-- where something is given, it is what is plainly there
pub given_by_place : {A B : Type 0} (given plain : A → Option B) → ((x : A) (b : B) → given x ≡ Some b → plain x ≡ Some b) → (xs : List A) → first_given given xs ≡ given_at plain xs (place_of (λ x. is_some (given x)) xs)
given_by_place given plain same [] = refl
given_by_place given plain same (x ∷ xs) =
    given_here plain x xs (given x) (first_given given xs) _ (same x)
    (given_by_place given plain same xs ∙ given_later plain x xs (place_of (λ y. is_some (given y)) xs))

-- ---- one element more, with the place that it is given
pub placed_more : {A : Type 0} (test : A → Bool) (xs : List A) (x : A) (same : Bool) (at : ℕ) (old new : Option ℕ) → test x ≡ same → (same ≡ true → none_of test xs ≡ true)
    → at ≡ length xs → old ≡ place_of test xs → new ≡ (if same then Some at else old) → new ≡ place_of test (xs ++ x ∷ [])
placed_more test xs x true at old new is fresh e was now =
    let none : place_of test xs ≡ None = no_place (place_of test xs) (sym (none_by_place test xs) ∙ fresh refl) in
    now ∙ ap Some e ∙ sym (place_more test xs x ∙ rw (none, is) refl)
placed_more test xs x false at old new is fresh e was now =
    now ∙ was ∙ sym (place_more test xs x ∙ rw is (or_none (place_of test xs)))

-- an element more that doesn't pass
pub kept_place : {A : Type 0} (test : A → Bool) (xs : List A) (x : A) (old : Option ℕ) → test x ≡ false → old ≡ place_of test xs → old ≡ place_of test (xs ++ x ∷ [])
kept_place test xs x old is was = was ∙ sym (place_more test xs x ∙ rw is (or_none (place_of test xs)))

-- ---- the first token with a text
placed_behind : (passes : Bool) (o : Option ℕ) (n : ℕ) → (if passes then Some 0 else option_map (λ place. suc place) (Some (unwrap_or o n))) ≡ Some (unwrap_or (if passes then Some 0 else option_map (λ place. suc place) o) (suc n))
placed_behind true o n = refl
placed_behind false None n = refl
placed_behind false (Some place) n = refl

placed_among : (text : List ℕ) (before after : List (List ℕ)) → place_of (bytes_eq text) (before ++ text ∷ after) ≡ Some (unwrap_or (place_of (bytes_eq text) before) (length before))
placed_among text [] after = rw (nat_list_eq_equiv.refl text) refl
placed_among text (other ∷ before) after =
    ap (λ o. if bytes_eq text other then Some 0 else option_map (λ place. suc place) o) (placed_among text before after)
    ∙ placed_behind (bytes_eq text other) (place_of (bytes_eq text) before) (length before)

pub first_here : (texts : List (List ℕ)) (at : ℕ) → at < length texts → first_token texts (get_or texts at []) ≡ unwrap_or (place_of (bytes_eq (get_or texts at [])) (take at texts)) at
first_here texts at within =
    let t = get_or texts at [] in
    ap (λ all. unwrap_or (place_of (bytes_eq t) all) 0) (sym (take-append-drop at texts) ∙ ap (λ after. take at texts ++ after) (drop-cons texts at [] within))
    ∙ ap (λ o. unwrap_or o 0) (placed_among t (take at texts) (drop (suc at) texts))
    ∙ ap (unwrap_or (place_of (bytes_eq t) (take at texts))) (length-take-le at texts (omega arith))

-- one first token more
pub firsts_more : (texts : List (List ℕ)) (at first : ℕ) (text : List ℕ) (found : Option ℕ) (firsts : List ℕ) → at < length texts → text ≡ get_or texts at []
    → found ≡ place_of (bytes_eq text) (take at texts) → first ≡ unwrap_or found at
    → firsts ≡ map (first_token texts) (take at texts) → firsts ++ first ∷ [] ≡ map (first_token texts) (take (at + 1) texts)
firsts_more texts at first text found firsts within here by is so_far =
    let now : first ≡ first_token texts (get_or texts at []) = is ∙ ap (λ o. unwrap_or o at) (by ∙ ap (λ t. place_of (bytes_eq t) (take at texts)) here) ∙ sym (first_here texts at within) in
    rw so_far (rw now (sym (ap (map (first_token texts)) (take_more texts at [] within) ∙ map-append (first_token texts) (take at texts) (get_or texts at [] ∷ []))))

-- one text more that was met
pub met_more : (texts : List (List ℕ)) (at : ℕ) (text other : List ℕ) (before : Option ℕ) → at < length texts → text ≡ get_or texts at [] → before ≡ place_of (bytes_eq other) (take at texts)
    → option_or before (if bytes_eq other text then Some at else None) ≡ place_of (bytes_eq other) (take (at + 1) texts)
met_more texts at text other before within here was =
    ap (λ o. option_or o (if bytes_eq other text then Some at else None)) was
    ∙ ap (λ t. option_or (place_of (bytes_eq other) (take at texts)) (if bytes_eq other t then Some at else None)) here
    ∙ ap (λ n. option_or (place_of (bytes_eq other) (take at texts)) (if bytes_eq other (get_or texts at []) then Some n else None)) (sym (length-take-le at texts (omega arith)))
    ∙ sym (place_more (bytes_eq other) (take at texts) (get_or texts at []))
    ∙ ap (place_of (bytes_eq other)) (sym (take_more texts at [] within))

-- ---- the front of a list
map_some : (o : Option ℕ) (p : ℕ) → option_map (λ place. suc place) o ≡ Some p → (q : ℕ) × (o ≡ Some q) × (p ≡ suc q)
map_some None p e = cc
map_some (Some q) p e = (q, refl, cc)

map_none : (o : Option ℕ) → option_map (λ place. suc place) o ≡ None → o ≡ None
map_none None e = refl
map_none (Some q) e = cc

-- what has no place is in no front
pub front_without : {A B : Type 0} (given : A → Option B) (xs : List A) (n : ℕ) → place_of (λ x. is_some (given x)) xs ≡ None → first_given given (take n xs) ≡ None
front_without given [] zero e = refl
front_without given [] (suc n) e = refl
front_without given (x ∷ xs) zero e = refl
front_without given (x ∷ xs) (suc n) e =
    (elim (given x) as (λ g. (if is_some g then Some 0 else option_map (λ place. suc place) (place_of (λ y. is_some (given y)) xs)) ≡ None → option_or g (first_given given (take n xs)) ≡ None) [
      | Some b ↦ λ h. cc
      | None ↦ λ h. front_without given xs n (map_none _ h)
    ]) e

-- what has its place behind a front isn't in it
pub front_before : {A B : Type 0} (given : A → Option B) (xs : List A) (n p : ℕ) → place_of (λ x. is_some (given x)) xs ≡ Some p → n ≤ p → first_given given (take n xs) ≡ None
front_before given [] zero p e l = refl
front_before given [] (suc n) p e l = refl
front_before given (x ∷ xs) zero p e l = refl
front_before given (x ∷ xs) (suc n) p e l =
    (elim (given x) as (λ g. (if is_some g then Some 0 else option_map (λ place. suc place) (place_of (λ y. is_some (given y)) xs)) ≡ Some p → option_or g (first_given given (take n xs)) ≡ None) [
      | Some b ↦ λ h. (let zero_is : 0 ≡ p = cc in let no : ⊥ = omega (arith, zero_is, l) in absurd no)
      | None ↦ λ h. (let found = map_some _ p h in front_before given xs n found.0 found.1 (omega (arith, found.2, l)))
    ]) e

-- what has its place in a front is there
pub front_with : {A B : Type 0} (given plain : A → Option B) → ((x : A) (b : B) → given x ≡ Some b → plain x ≡ Some b) → (xs : List A) (n p : ℕ) → place_of (λ x. is_some (given x)) xs ≡ Some p → p < n
    → first_given given (take n xs) ≡ option_and_then plain (slice_get xs p)
front_with given plain same [] n p e l = cc
front_with given plain same (x ∷ xs) zero p e l = absurd (let no : ⊥ = omega (arith, l) in no)
front_with {B = B} given plain same (x ∷ xs) (suc n) p e l =
    by_case (λ q found within. front_with given plain same xs n q found within) (given x) refl e
  where
    by_case : ((q : ℕ) → place_of (λ y. is_some (given y)) xs ≡ Some q → q < n → first_given given (take n xs) ≡ option_and_then plain (slice_get xs q))
        → (g : Option B) → given x ≡ g → (if is_some g then Some 0 else option_map (λ place. suc place) (place_of (λ y. is_some (given y)) xs)) ≡ Some p → option_or g (first_given given (take n xs)) ≡ option_and_then plain (slice_get (x ∷ xs) p)
    by_case later (Some b) is h = let zero_is : 0 ≡ p = cc in sym (same x b is) ∙ ap (λ q. option_and_then plain (slice_get (x ∷ xs) q)) zero_is
    by_case later None is h = let found = map_some _ p h in
        later found.0 found.1 (omega (arith, found.2, l)) ∙ ap (λ q. option_and_then plain (slice_get (x ∷ xs) q)) (sym found.2)
