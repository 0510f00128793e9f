-- Laws of lists in which nothing stands twice.
use Rattle.std.proofs.Common.{◌≡◌, ◌≢◌, suc, List, [], ◌∷◌, ◌++◌, map, arith}
use Rattle.std.proofs.lemmas.List.Elements.{All-append, All-cons, All-head, All-map, All-nil, All-tail}
use Rattle.std.proofs.lemmas.List.Kept.{AllPairs-cons}
use Rattle.std.proofs.lemmas.List.Quantifiers.{all_pairs_push}
use Rattle.std.specs.List.{All}
use Rattle.sig_base.specs.Lists.{AreDistinct}

pub no_pairs : {A : Type 0} → AreDistinct {A = A} []
no_pairs i j d l m e = absurd (omega (arith, m))

-- the first of them and the later ones
pub distinct_parts : {A : Type 0} (x : A) (xs : List A) → AreDistinct (x ∷ xs) → All (λ y. x ≢ y) xs × AreDistinct xs
distinct_parts x xs h =
    (λ k d l. h 0 (suc k) d (omega arith) (omega (arith, l)), λ i j d l m. h (suc i) (suc j) d (omega (arith, l)) (omega (arith, m)))

pub distinct_cons : {A : Type 0} (x : A) (xs : List A) → All (λ y. x ≢ y) xs → AreDistinct xs → AreDistinct (x ∷ xs)
distinct_cons x xs new h = AllPairs-cons (λ a b. a ≢ b) x xs new h

-- one more that none of them is
pub distinct_more : {A : Type 0} (xs : List A) (x : A) → AreDistinct xs → All (λ y. y ≢ x) xs → AreDistinct (xs ++ x ∷ [])
distinct_more xs x h new = all_pairs_push (λ a b. a ≢ b) xs x h new

-- two lists, where nothing is in both
pub distinct_both : {A : Type 0} (xs ys : List A)
    → AreDistinct xs → AreDistinct ys → All (λ x. All (λ y. x ≢ y) ys) xs → AreDistinct (xs ++ ys)
distinct_both [] ys h k apart = k
distinct_both (x ∷ xs) ys h k apart =
    let p = distinct_parts x xs h in
    let far = All-append (λ y. x ≢ y) xs ys p.0 (All-head (λ z. All (λ y. z ≢ y) ys) x xs apart) in
    distinct_cons x (xs ++ ys) far (distinct_both xs ys p.1 k (All-tail (λ z. All (λ y. z ≢ y) ys) x xs apart))

front : {A : Type 0} (P : A → Type 0) (xs ys : List A) → All P (xs ++ ys) → All P xs
front P [] ys h = All-nil P
front P (x ∷ xs) ys h = All-cons P x xs (All-head P x (xs ++ ys) h) (front P xs ys (All-tail P x (xs ++ ys) h))

back : {A : Type 0} (P : A → Type 0) (xs ys : List A) → All P (xs ++ ys) → All P ys
back P [] ys h = h
back P (x ∷ xs) ys h = back P xs ys (All-tail P x (xs ++ ys) h)

-- the first part of such a list
pub distinct_front : {A : Type 0} (xs ys : List A) → AreDistinct (xs ++ ys) → AreDistinct xs
distinct_front [] ys h = no_pairs
distinct_front (x ∷ xs) ys h =
    let p = distinct_parts x (xs ++ ys) h in
    distinct_cons x xs (front (λ y. x ≢ y) xs ys p.0) (distinct_front xs ys p.1)

-- nothing of the first part is in the last one, in which nothing stands twice
pub distinct_apart : {A : Type 0} (xs ys : List A)
    → AreDistinct (xs ++ ys) → All (λ x. All (λ y. x ≢ y) ys) xs × AreDistinct ys
distinct_apart [] ys h = (All-nil _, h)
distinct_apart (x ∷ xs) ys h =
    let p = distinct_parts x (xs ++ ys) h in
    let q = distinct_apart xs ys p.1 in
    (All-cons (λ z. All (λ y. z ≢ y) ys) x xs (back (λ y. x ≢ y) xs ys p.0) q.0, q.1)

images_differ : {A B : Type 0} (P : A → Type 0) (f : A → B) (x : A) → ((y : A) → P y → f x ≡ f y → x ≡ y)
    → (xs : List A) → All P xs → All (λ y. x ≢ y) xs → All (λ y. f x ≢ f y) xs
images_differ P f x one [] p new = All-nil _
images_differ P f x one (y ∷ xs) p new =
    All-cons (λ z. f x ≢ f z) y xs (λ e. All-head (λ z. x ≢ z) y xs new (one y (All-head P y xs p) e))
    (images_differ P f x one xs (All-tail P y xs p) (All-tail (λ z. x ≢ z) y xs new))

-- the images of such elements by what sends no two of them to one
pub distinct_mapped : {A B : Type 0} (P : A → Type 0) (f : A → B) → ((x y : A) → P x → P y → f x ≡ f y → x ≡ y)
    → (xs : List A) → All P xs → AreDistinct xs → AreDistinct (map f xs)
distinct_mapped P f one [] p h = no_pairs
distinct_mapped P f one (x ∷ xs) p h =
    let q = distinct_parts x xs h in
    let rest = All-tail P x xs p in
    let new = images_differ P f x (λ y. one x y (All-head P x xs p)) xs rest q.0 in
    distinct_cons (f x) (map f xs) (All-map (λ z. f x ≢ z) f xs new) (distinct_mapped P f one xs rest q.1)
