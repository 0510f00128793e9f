-- Laws of shifting and of substitution, which hold of all terms, typed or not.
use Rattle.std.proofs.Common.{◌≡◌, ℕ, ◌+◌, ◌-◌, List, [], ◌∷◌, map, refl, sym, ap, ap₂, ◌∙◌, arith, ◌≤◌, if◌then◌else◌, ◌<◌, ◌⊎◌, inl, inr, lt-ltb, le-ltb}
use Rattle.conv_terms.specs.declared.term.Term.{Term}
use Rattle.conv_terms.specs.declared.term.Term.TheVariants as term
use Rattle.conv_terms.specs.Shifting.{raised, shifted}
use Rattle.conv_terms.specs.Substitution.{Images, traversed, each_below, image, substituted, images, only}
use Rattle.conv_terms.proofs.Equations.{HoldOf, induct, shifted_var, shifted_lam, shifted_app, shifted_tup, shifted_proj, traversed_var, traversed_lam, traversed_app, traversed_tup, traversed_proj}

-- from these depths on the two give each variable the same image
abbrev Alike : Images → Images → ℕ → ℕ → Type 0
Alike at to d e = (n j : ℕ) → at n (d + j) ≡ to n (e + j)

alike_here : (at to : Images) (d e : ℕ) → Alike at to d e → (n : ℕ) → at n d ≡ to n e
alike_here at to d e h n =
    let left : d ≡ d + 0 = omega arith in
    let right : e + 0 ≡ e = omega arith in
    ap (at n) left ∙ h n 0 ∙ ap (to n) right

alike_next : (at to : Images) (d e : ℕ) → Alike at to d e → Alike at to (d + 1) (e + 1)
alike_next at to d e h n j =
    let left : d + 1 + j ≡ d + (1 + j) = omega arith in
    let right : e + (1 + j) ≡ e + 1 + j = omega arith in
    ap (at n) left ∙ h n (1 + j) ∙ ap (to n) right

-- two traversals agree where they give each variable the same image
module _ (at to : Images) where
  abbrev Agree : Term → Type 0
  Agree t = (d e : ℕ) → Alike at to d e → traversed at t d ≡ traversed to t e

  agree_all : (ts : List Term) → HoldOf Agree ts → (d e : ℕ) → Alike at to d e → each_below (map (traversed at) ts) d ≡ each_below (map (traversed to) ts) e
  agree_all [] hs d e h = refl
  agree_all (t ∷ ts) hs d e h = ap₂ ◌∷◌ (hs.0 d e h) (agree_all ts hs.1 d e h)

  pub agreeing : (t : Term) (d e : ℕ) → Alike at to d e → traversed at t d ≡ traversed to t e
  agreeing = induct Agree
      (λ n d e h. traversed_var at n d ∙ alike_here at to d e h n ∙ sym (traversed_var to n e))
      (λ a t ih d e h. traversed_lam at a t d ∙ ap (term.Lam a) (ih (d + 1) (e + 1) (alike_next at to d e h)) ∙ sym (traversed_lam to a t e))
      (λ f t left right d e h. traversed_app at f t d ∙ ap₂ term.App (left d e h) (right d e h) ∙ sym (traversed_app to f t e))
      (λ ts hs d e h. traversed_tup at ts d ∙ ap term.Tup (agree_all ts hs d e h) ∙ sym (traversed_tup to ts e))
      (λ i n t ih d e h. traversed_proj at i n t d ∙ ap (term.Proj i n) (ih d e h) ∙ sym (traversed_proj to i n t e))

-- from these depths on the images by `both` are those by `first`, traversed by `second`
abbrev Composed : Images → Images → Images → ℕ → ℕ → ℕ → Type 0
Composed first second both d e f = (n j : ℕ) → traversed second (first n (d + j)) (e + j) ≡ both n (f + j)

composed_here : (first second both : Images) (d e f : ℕ) → Composed first second both d e f → (n : ℕ) → traversed second (first n d) e ≡ both n f
composed_here first second both d e f h n =
    let one : d ≡ d + 0 = omega arith in
    let two : e ≡ e + 0 = omega arith in
    let three : f + 0 ≡ f = omega arith in
    ap₂ (λ x y. traversed second (first n x) y) one two ∙ h n 0 ∙ ap (both n) three

composed_next : (first second both : Images) (d e f : ℕ) → Composed first second both d e f → Composed first second both (d + 1) (e + 1) (f + 1)
composed_next first second both d e f h n j =
    let one : d + 1 + j ≡ d + (1 + j) = omega arith in
    let two : e + 1 + j ≡ e + (1 + j) = omega arith in
    let three : f + (1 + j) ≡ f + 1 + j = omega arith in
    ap₂ (λ x y. traversed second (first n x) y) one two ∙ h n (1 + j) ∙ ap (both n) three

-- one traversal after another is a traversal
module _ (first second both : Images) where
  abbrev Fuse : Term → Type 0
  Fuse t = (d e f : ℕ) → Composed first second both d e f → traversed second (traversed first t d) e ≡ traversed both t f

  fuse_all : (ts : List Term) → HoldOf Fuse ts → (d e f : ℕ) → Composed first second both d e f → each_below (map (traversed second) (each_below (map (traversed first) ts) d)) e ≡ each_below (map (traversed both) ts) f
  fuse_all [] hs d e f h = refl
  fuse_all (t ∷ ts) hs d e f h = ap₂ ◌∷◌ (hs.0 d e f h) (fuse_all ts hs.1 d e f h)

  pub fused : (t : Term) (d e f : ℕ) → Composed first second both d e f → traversed second (traversed first t d) e ≡ traversed both t f
  fused = induct Fuse
      (λ n d e f h. ap (λ t. traversed second t e) (traversed_var first n d) ∙ composed_here first second both d e f h n ∙ sym (traversed_var both n f))
      (λ a t ih d e f h. ap (λ t. traversed second t e) (traversed_lam first a t d) ∙ traversed_lam second a _ e ∙ ap (term.Lam a) (ih (d + 1) (e + 1) (f + 1) (composed_next first second both d e f h)) ∙ sym (traversed_lam both a t f))
      (λ g t left right d e f h. ap (λ t. traversed second t e) (traversed_app first g t d) ∙ traversed_app second _ _ e ∙ ap₂ term.App (left d e f h) (right d e f h) ∙ sym (traversed_app both g t f))
      (λ ts hs d e f h. ap (λ t. traversed second t e) (traversed_tup first ts d) ∙ traversed_tup second _ e ∙ ap term.Tup (fuse_all ts hs d e f h) ∙ sym (traversed_tup both ts f))
      (λ i n t ih d e f h. ap (λ t. traversed second t e) (traversed_proj first i n t d) ∙ traversed_proj second i n _ e ∙ ap (term.Proj i n) (ih d e f h) ∙ sym (traversed_proj both i n t f))

-- a traversal in which each variable stays
abbrev staying : Images
staying n depth = term.Var n

abbrev Stays : Term → Type 0
Stays t = (d : ℕ) → traversed staying t d ≡ t

stay_all : (ts : List Term) → HoldOf Stays ts → (d : ℕ) → each_below (map (traversed staying) ts) d ≡ ts
stay_all [] hs d = refl
stay_all (t ∷ ts) hs d = ap₂ ◌∷◌ (hs.0 d) (stay_all ts hs.1 d)

traversed_itself : (t : Term) (d : ℕ) → traversed staying t d ≡ t
traversed_itself = induct Stays
    (λ n d. traversed_var staying n d)
    (λ a t ih d. traversed_lam staying a t d ∙ ap (term.Lam a) (ih (d + 1)))
    (λ f t left right d. traversed_app staying f t d ∙ ap₂ term.App (left d) (right d))
    (λ ts hs d. traversed_tup staying ts d ∙ ap term.Tup (stay_all ts hs d))
    (λ i n t ih d. traversed_proj staying i n t d ∙ ap (term.Proj i n) (ih d))

-- a shift is a traversal
abbrev pub raising : ℕ → ℕ → Images
raising from by n depth = term.Var (raised from by n)

module _ (from by : ℕ) where
  abbrev Raises : Term → Type 0
  Raises t = (d : ℕ) → shifted from by t ≡ traversed (raising from by) t d

  raise_all : (ts : List Term) → HoldOf Raises ts → (d : ℕ) → map (shifted from by) ts ≡ each_below (map (traversed (raising from by)) ts) d
  raise_all [] hs d = refl
  raise_all (t ∷ ts) hs d = ap₂ ◌∷◌ (hs.0 d) (raise_all ts hs.1 d)

  pub shifted_traversed : (t : Term) (d : ℕ) → shifted from by t ≡ traversed (raising from by) t d
  shifted_traversed = induct Raises
      (λ n d. shifted_var from by n ∙ sym (traversed_var (raising from by) n d))
      (λ a t ih d. shifted_lam from by a t ∙ ap (term.Lam a) (ih (d + 1)) ∙ sym (traversed_lam (raising from by) a t d))
      (λ f t left right d. shifted_app from by f t ∙ ap₂ term.App (left d) (right d) ∙ sym (traversed_app (raising from by) f t d))
      (λ ts hs d. shifted_tup from by ts ∙ ap term.Tup (raise_all ts hs d) ∙ sym (traversed_tup (raising from by) ts d))
      (λ i n t ih d. shifted_proj from by i n t ∙ ap (term.Proj i n) (ih d) ∙ sym (traversed_proj (raising from by) i n t d))

raised_none : (from n : ℕ) → raised from 0 n ≡ n
raised_none from n = grind arith

pub shifted_by_none : (t : Term) (from : ℕ) → shifted from 0 t ≡ t
shifted_by_none t from = shifted_traversed from 0 t 0 ∙ agreeing (raising from 0) staying t 0 0 (λ n j. ap term.Var (raised_none from n)) ∙ traversed_itself t 0

-- a number raised twice, the second time among the places left free
raised_twice : (from by at more n : ℕ) → from ≤ at → at ≤ from + by → raised at more (raised from by n) ≡ raised from (by + more) n
raised_twice from by at more n low high = grind arith

pub shifted_twice : (from by at more : ℕ) (t : Term) → from ≤ at → at ≤ from + by → shifted at more (shifted from by t) ≡ shifted from (by + more) t
shifted_twice from by at more t low high =
    ap (shifted at more) (shifted_traversed from by t 0) ∙ shifted_traversed at more _ 0
    ∙ fused (raising from by) (raising at more) (raising from (by + more)) t 0 0 0 (λ n j. traversed_var (raising at more) _ _ ∙ ap term.Var (raised_twice from by at more n low high))
    ∙ sym (shifted_traversed from (by + more) t 0)

pub raised_low : (from by n : ℕ) → n < from → raised from by n ≡ n
raised_low from by n h = grind arith

pub raised_high : (from by n : ℕ) → from ≤ n → raised from by n ≡ n + by
raised_high from by n h = grind arith

pub images_known : (from to : ℕ) (terms : ℕ → Term) (n d : ℕ) → n < from → images from to terms n d ≡ shifted to d (terms n)
images_known from to terms n d h = rw (lt-ltb n from h) refl

pub images_other : (from to : ℕ) (terms : ℕ → Term) (n d : ℕ) → from ≤ n → images from to terms n d ≡ term.Var (n - from + to)
images_other from to terms n d h = rw (le-ltb n from h) refl

pub image_low : (level : ℕ) (by : Term) (n d : ℕ) → n < level → image level by n d ≡ term.Var n
image_low level by n d h = rw (lt-ltb n level h) refl

pub image_same : (level : ℕ) (by : Term) (d : ℕ) → image level by level d ≡ shifted level d by
image_same level by d = grind arith

pub image_high : (level : ℕ) (by : Term) (n d : ℕ) → level < n → image level by n d ≡ term.Var (n - 1)
image_high level by n d h = grind arith

pub below_or_from : (a b : ℕ) → (a < b) ⊎ (b ≤ a)
below_or_from a b = grind arith

-- what becomes of a variable that was raised
images_of_raised : (from to : ℕ) (terms : ℕ → Term) (k j d n : ℕ) → images from to terms (raised (from + k) j n) (k + j + d) ≡ shifted (to + k) j (images from to terms n (k + d))
images_of_raised from to terms k j d n = cases (below_or_from n from) (below_or_from n (from + k))
  where
    cases : (n < from) ⊎ (from ≤ n) → (n < from + k) ⊎ (from + k ≤ n) → images from to terms (raised (from + k) j n) (k + j + d) ≡ shifted (to + k) j (images from to terms n (k + d))
    cases (inl h) _ =
        let inside : n < from + k = omega arith in
        let low : to ≤ to + k = omega arith in
        let high : to + k ≤ to + (k + d) = omega arith in
        let sum : k + j + d ≡ k + d + j = omega arith in
        ap (λ m. images from to terms m (k + j + d)) (raised_low (from + k) j n inside) ∙ images_known from to terms n _ h ∙ ap (λ m. shifted to m (terms n)) sum
        ∙ sym (shifted_twice to (k + d) (to + k) j (terms n) low high) ∙ ap (shifted (to + k) j) (sym (images_known from to terms n (k + d) h))
    cases (inr h) (inl i) =
        let inside : n - from + to < to + k = omega arith in
        ap (λ m. images from to terms m (k + j + d)) (raised_low (from + k) j n i) ∙ images_other from to terms n _ h
        ∙ sym (ap (shifted (to + k) j) (images_other from to terms n _ h) ∙ shifted_var (to + k) j _ ∙ ap term.Var (raised_low (to + k) j _ inside))
    cases (inr h) (inr i) =
        let outside : to + k ≤ n - from + to = omega arith in
        let beyond : from ≤ n + j = omega arith in
        let same : n + j - from + to ≡ n - from + to + j = omega arith in
        ap (λ m. images from to terms m (k + j + d)) (raised_high (from + k) j n i) ∙ images_other from to terms (n + j) _ beyond ∙ ap term.Var same
        ∙ sym (ap (shifted (to + k) j) (images_other from to terms n _ h) ∙ shifted_var (to + k) j _ ∙ ap term.Var (raised_high (to + k) j _ outside))

-- a substitution for all, after a shift
pub all_of_shifted : (from to : ℕ) (terms : ℕ → Term) (k j : ℕ) (t : Term) → traversed (images from to terms) (shifted (from + k) j t) (k + j) ≡ shifted (to + k) j (traversed (images from to terms) t k)
all_of_shifted from to terms k j t =
    ap (λ x. traversed (images from to terms) x (k + j)) (shifted_traversed (from + k) j t 0)
    ∙ fused (raising (from + k) j) (images from to terms) both t 0 (k + j) 0 (λ n d. traversed_var (images from to terms) _ _ ∙ ap (images from to terms (raised (from + k) j n)) (one d) ∙ images_of_raised from to terms k j (0 + d) n)
    ∙ sym (fused (images from to terms) (raising (to + k) j) both t k 0 0 (λ n d. sym (shifted_traversed (to + k) j _ (0 + d)) ∙ ap (λ m. shifted (to + k) j (images from to terms n m)) (two d)))
    ∙ sym (shifted_traversed (to + k) j _ 0)
  where
    both : Images
    both n d = shifted (to + k) j (images from to terms n (k + d))

    one : (d : ℕ) → k + j + d ≡ k + j + (0 + d)
    one d = omega arith

    two : (d : ℕ) → k + d ≡ k + (0 + d)
    two d = omega arith

-- a substitution for a variable that a shift has left free
pub substituted_shifted : (from k : ℕ) (by : Term) (at j : ℕ) (t : Term) → from ≤ at → at ≤ from + j → traversed (image at by) (shifted from (j + 1) t) k ≡ shifted from j t
substituted_shifted from k by at j t low high =
    ap (λ x. traversed (image at by) x k) (shifted_traversed from (j + 1) t 0)
    ∙ fused (raising from (j + 1)) (image at by) (raising from j) t 0 k 0 (λ n d. traversed_var (image at by) _ _ ∙ cases n (k + d) (below_or_from n from))
    ∙ sym (shifted_traversed from j t 0)
  where
    cases : (n d : ℕ) → (n < from) ⊎ (from ≤ n) → image at by (raised from (j + 1) n) d ≡ term.Var (raised from j n)
    cases n d (inl h) =
        let below : n < at = omega arith in
        ap (λ m. image at by m d) (raised_low from (j + 1) n h) ∙ image_low at by n d below ∙ ap term.Var (sym (raised_low from j n h))
    cases n d (inr h) =
        let above : at < n + (j + 1) = omega arith in
        let less : n + (j + 1) - 1 ≡ n + j = omega arith in
        ap (λ m. image at by m d) (raised_high from (j + 1) n h) ∙ image_high at by _ d above ∙ ap term.Var (less ∙ sym (raised_high from j n h))

-- a substitution for all, after one for a variable
pub all_of_substituted : (from to : ℕ) (terms : ℕ → Term) (k : ℕ) (a u : Term) → traversed (images from to terms) (substituted (from + k) a u) k ≡ substituted (to + k) (traversed (images from to terms) a k) (traversed (images from to terms) u (k + 1))
all_of_substituted from to terms k a u =
    fused (image (from + k) a) m both u 0 k 0 (λ n d. ap (traversed m (image (from + k) a n (0 + d))) (down d) ∙ left n (0 + d))
    ∙ sym (fused m (image (to + k) b) both u (k + 1) 0 0 (λ n d. ap (λ x. traversed (image (to + k) b) (m n x) (0 + d)) (up d)))
  where
    m : Images
    m = images from to terms

    b : Term
    b = traversed m a k

    both : Images
    both n d = traversed (image (to + k) b) (m n (k + 1 + d)) d

    up : (d : ℕ) → k + 1 + d ≡ k + 1 + (0 + d)
    up d = omega arith

    down : (d : ℕ) → k + d ≡ k + (0 + d)
    down d = omega arith

    cases : (n d : ℕ) → (n < from + k) ⊎ (from + k ≤ n) → (n < from) ⊎ (from ≤ n) → (from + k < n) ⊎ (n ≤ from + k) → traversed m (image (from + k) a n d) (k + d) ≡ both n d
    cases n d (inl h) (inl i) _ =
        let low : to ≤ to + k = omega arith in
        let high : to + k ≤ to + (k + d) = omega arith in
        let sum : k + d + 1 ≡ k + 1 + d = omega arith in
        ap (λ t. traversed m t (k + d)) (image_low (from + k) a n d h) ∙ traversed_var m n _ ∙ images_known from to terms n _ i
        ∙ sym (substituted_shifted to d b (to + k) (k + d) (terms n) low high)
        ∙ ap (λ j. traversed (image (to + k) b) (shifted to j (terms n)) d) sum
        ∙ ap (λ t. traversed (image (to + k) b) t d) (sym (images_known from to terms n (k + 1 + d) i))
    cases n d (inl h) (inr i) _ =
        let low : n - from + to < to + k = omega arith in
        ap (λ t. traversed m t (k + d)) (image_low (from + k) a n d h) ∙ traversed_var m n _ ∙ images_other from to terms n _ i
        ∙ sym (ap (λ t. traversed (image (to + k) b) t d) (images_other from to terms n (k + 1 + d) i) ∙ traversed_var (image (to + k) b) _ d ∙ image_low (to + k) b _ d low)
    cases n d (inr h) _ (inl i) =
        let above : to + k < n - from + to = omega arith in
        let more : from ≤ n = omega arith in
        let less : from ≤ n - 1 = omega arith in
        let same : n - 1 - from + to ≡ n - from + to - 1 = omega arith in
        ap (λ t. traversed m t (k + d)) (image_high (from + k) a n d i) ∙ traversed_var m _ _ ∙ images_other from to terms (n - 1) _ less ∙ ap term.Var same
        ∙ sym (ap (λ t. traversed (image (to + k) b) t d) (images_other from to terms n (k + 1 + d) more) ∙ traversed_var (image (to + k) b) _ d ∙ image_high (to + k) b _ d above)
    cases n d (inr h) _ (inr i) =
        let exact : n ≡ from + k = omega arith in
        let more : from ≤ n = omega arith in
        let same : n - from + to ≡ to + k = omega arith in
        ap (λ i. traversed m (image (from + k) a i d) (k + d)) exact ∙ ap (λ t. traversed m t (k + d)) (image_same (from + k) a d) ∙ all_of_shifted from to terms k d a
        ∙ sym (ap (λ t. traversed (image (to + k) b) t d) (images_other from to terms n (k + 1 + d) more ∙ ap term.Var same) ∙ traversed_var (image (to + k) b) _ d ∙ image_same (to + k) b d)

    left : (n d : ℕ) → traversed m (image (from + k) a n d) (k + d) ≡ both n d
    left n d = (cases n d (below_or_from n (from + k)) (below_or_from n from) (below_or_from (from + k) n))

-- a shift is a substitution for all
pub raising_images : (from by n d : ℕ) → raising from by n d ≡ images from (from + by) term.Var n d
raising_images from by n d = cases (below_or_from n from)
  where
    cases : (n < from) ⊎ (from ≤ n) → raising from by n d ≡ images from (from + by) term.Var n d
    cases (inl h) =
        let low : n < from + by = omega arith in
        ap term.Var (raised_low from by n h) ∙ sym (images_known from (from + by) term.Var n d h ∙ shifted_var (from + by) d n ∙ ap term.Var (raised_low (from + by) d n low))
    cases (inr h) =
        let e : n + by ≡ n - from + (from + by) = omega arith in
        ap term.Var (raised_high from by n h ∙ e) ∙ sym (images_other from (from + by) term.Var n d h)

pub shifted_all : (from by depth : ℕ) (t : Term) → shifted from by t ≡ traversed (images from (from + by) term.Var) t depth
shifted_all from by depth t = shifted_traversed from by t depth ∙ agreeing (raising from by) (images from (from + by) term.Var) t depth depth (λ n j. raising_images from by n (depth + j))

-- substitution for one is a substitution for all
pub image_images : (level : ℕ) (by : Term) (n d : ℕ) → image level by n d ≡ images (level + 1) level (only level by) n d
image_images level by n d = cases (below_or_from n level) (below_or_from level n)
  where
    cases : (n < level) ⊎ (level ≤ n) → (level < n) ⊎ (n ≤ level) → image level by n d ≡ images (level + 1) level (only level by) n d
    cases (inl h) _ =
        let known : n < level + 1 = omega arith in
        image_low level by n d h ∙ sym (images_known (level + 1) level (only level by) n d known ∙ ap (λ b. shifted level d (if b then term.Var n else by)) (lt-ltb n level h) ∙ shifted_var level d n ∙ ap term.Var (raised_low level d n h))
    cases (inr h) (inl i) =
        let known : level + 1 ≤ n = omega arith in
        let e : n - 1 ≡ n - (level + 1) + level = omega arith in
        image_high level by n d i ∙ ap term.Var e ∙ sym (images_other (level + 1) level (only level by) n d known)
    cases (inr h) (inr i) =
        let known : n < level + 1 = omega arith in
        let exact : n ≡ level = omega arith in
        ap (λ n. image level by n d) exact ∙ image_same level by d ∙ sym (images_known (level + 1) level (only level by) n d known ∙ ap (λ b. shifted level d (if b then term.Var n else by)) (le-ltb n level h))

pub substituted_one : (level depth : ℕ) (e t : Term) → traversed (image level e) t depth ≡ traversed (images (level + 1) level (only level e)) t depth
substituted_one level depth e t = agreeing (image level e) (images (level + 1) level (only level e)) t depth depth (λ n j. image_images level e n (depth + j))
