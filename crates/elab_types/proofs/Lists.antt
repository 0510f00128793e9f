-- Lists, texts and tests.
use Rattle.std.proofs.Common.{◌≡◌, ◌≢◌, ℕ, suc, ◌+◌, ◌<◌, Bool, true, false, true≢false, not, bytes_eq, if◌then◌else◌, List, [], ◌∷◌, ◌++◌, map, length, drop, drop-cons, get_or, add-one, append_assoc, append-nil, Option, Some, None, refl, sym, ap, ◌∙◌, arith}
use Rattle.std.proofs.lemmas.Bool.{and_parts}
use Rattle.std.proofs.lemmas.List.Elements.{All-append, All-cons, All-head, All-nil, All-tail}
use Rattle.std.proofs.lemmas.List.Quantifiers.{all_pairs_push}
use Rattle.std.proofs.lemmas.Slice.Eq.{bytes_eq-Decides}
use Rattle.std.specs.List.{All, AllPairs, filter}
use Rattle.type_core.specs.Lists.{concatenated}
use Rattle.type_core.specs.ValidLibrary.{AreDistinct}
use Rattle.elab_types.specs.Finding.{none_of}

-- ---- tests
pub no_some : {A : Type 0} (a : A) → let o : Option A = None in o ≡ Some a → ⊥
no_some a e = cc

pub unlike : (b : Bool) → b ≡ true → not b ≡ true → ⊥
unlike true e f = true≢false (sym f)
unlike false e f = true≢false (sym e)

pub other_text : (text other : List ℕ) → not (bytes_eq text other) ≡ true → other ≢ text
other_text text other new e = unlike (bytes_eq text other) ((bytes_eq-Decides text other).1 (sym e)) new

-- what has a text, none of which is this one
pub other_texts : {A : Type 0} (f : A → List ℕ) (text : List ℕ) (xs : List A) → none_of (λ x. bytes_eq text (f x)) xs ≡ true → All (λ x. f x ≢ text) xs
other_texts f text [] new = All-nil _
other_texts f text (x ∷ xs) new = let p = and_parts (not (bytes_eq text (f x))) _ new in All-cons (λ y. f y ≢ text) x xs (other_text text (f x) p.0) (other_texts f text xs p.1)

-- ---- what is so of each
pub all_parts : {A : Type 0} (P : A → Type 0) (xs ys : List A) → All P (xs ++ ys) → All P xs × All P ys
all_parts P [] ys h = (All-nil P, h)
all_parts P (x ∷ xs) ys h =
    let q = all_parts P xs ys (All-tail P x (xs ++ ys) h) in
    (All-cons P x xs (All-head P x (xs ++ ys) h) q.0, q.1)

pub unmapped : {A B : Type 0} (P : B → Type 0) (f : A → B) (xs : List A) → All P (map f xs) → All (λ x. P (f x)) xs
unmapped P f [] h = All-nil _
unmapped P f (x ∷ xs) h = All-cons (λ y. P (f y)) x xs (All-head P (f x) (map f xs) h) (unmapped P f xs (All-tail P (f x) (map f xs) h))

pub all_in_lists : {A B : Type 0} (Q : A → Type 0) (P : B → Type 0) (f : A → List B) → ((x : A) → Q x → All P (f x)) → (xs : List A) → All Q xs → All P (concatenated (map f xs))
all_in_lists Q P f one [] h = All-nil P
all_in_lists Q P f one (x ∷ xs) h = All-append P (f x) (concatenated (map f xs)) (one x (All-head Q x xs h)) (all_in_lists Q P f one xs (All-tail Q x xs h))

pub concatenated_more : {A B : Type 0} (f : A → List B) (xs : List A) (x : A) → concatenated (map f (xs ++ x ∷ [])) ≡ concatenated (map f xs) ++ f x
concatenated_more f [] x = append-nil (f x)
concatenated_more f (y ∷ xs) x = ap (λ rest. f y ++ rest) (concatenated_more f xs x) ∙ sym (append_assoc (f y) (concatenated (map f xs)) (f x))

-- ---- filters
pub all_pass : {A : Type 0} (test : A → Bool) (xs : List A) → All (λ x. test x ≡ true) xs → filter test xs ≡ xs
all_pass test [] h = refl
all_pass test (x ∷ xs) h =
    ap (λ b. if b then x ∷ filter test xs else filter test xs) (All-head (λ y. test y ≡ true) x xs h)
    ∙ ap (λ ys. x ∷ ys) (all_pass test xs (All-tail (λ y. test y ≡ true) x xs h))

pub none_pass : {A : Type 0} (test : A → Bool) (xs : List A) → All (λ x. test x ≡ false) xs → filter test xs ≡ []
none_pass test [] h = refl
none_pass test (x ∷ xs) h = ap (λ b. if b then x ∷ filter test xs else filter test xs) (All-head (λ y. test y ≡ false) x xs h) ∙ none_pass test xs (All-tail (λ y. test y ≡ false) x xs h)

-- ---- pairs
pub no_pairs : {A : Type 0} → AreDistinct {A = A} []
no_pairs i j d l m e = absurd (omega (arith, m))

pub pairs_parts : {A : Type 0} (R : A → A → Type 0) (x : A) (xs : List A) → AllPairs R (x ∷ xs) → All (R x) xs × AllPairs R xs
pairs_parts R x xs h = (λ k d l. h 0 (suc k) d (omega arith) (omega (arith, l)), λ i j d l m. h (suc i) (suc j) d (omega (arith, l)) (omega (arith, m)))

-- an element that none of these is is distinct from all of them
pub distinct_more : {A : Type 0} (xs : List A) (x : A) → AreDistinct xs → All (λ y. y ≢ x) xs → AreDistinct (xs ++ x ∷ [])
distinct_more xs x distinct new = all_pairs_push (λ a b. a ≢ b) xs x distinct new

-- ---- loops
-- the element that a loop is at
pub dropped : {A : Type 0} (xs : List A) (i : ℕ) (x d : A) → i < length xs → x ≡ get_or xs i d → drop i xs ≡ x ∷ drop (i + 1) xs
dropped xs i x d within is = drop-cons xs i d within ∙ ap (λ y. y ∷ drop (suc i) xs) (sym is) ∙ ap (λ j. x ∷ drop j xs) (sym (add-one i))
