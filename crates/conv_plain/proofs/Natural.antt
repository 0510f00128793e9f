-- Splitting and joining commute with substitution for all variables, and so with shifting and substitution for one.
use Rattle.std.proofs.Common.{◌≡◌, ℕ, ◌+◌, ◌-◌, ◌≤◌, List, [], ◌∷◌, ◌++◌, map, length, take, drop, refl, sym, ap, ap₂, ◌∙◌, arith, zero, suc}
use Rattle.type_core.specs.declared.ty.Ty.{Ty}
use Rattle.type_core.specs.declared.ty.Ty.TheVariants as ty
use Rattle.conv_terms.specs.declared.term.Term.{Term}
use Rattle.conv_terms.specs.declared.term.Term.TheVariants as term
use Rattle.conv_terms.specs.Shifting.{shifted}
use Rattle.conv_terms.specs.Substitution.{Images, image, images, only, traversed}
use Rattle.conv_terms.proofs.Equations.{traversed_var, traversed_lam, traversed_app, traversed_tup, traversed_proj}
use Rattle.conv_terms.proofs.Moving.{all_of_shifted, images_other, shifted_all, substituted_one}
use Rattle.conv_plain.specs.Functions.{abstractions, applied, first_of, variables}
use Rattle.conv_plain.specs.SplitJoin.{applied_each, join, join_all, split, split_all}
use Rattle.conv_plain.proofs.Equations.{opened, split_atom, split_tup, split_arrow, join_atom, join_tup, join_arrow}
use Rattle.conv_plain.proofs.Lists.{each_below_map}
use Rattle.conv_plain.proofs.Formed.{Formed, AllFormed}
use Rattle.conv_plain.proofs.Congruent.{types}

pub traversed_abstractions : (at : Images) (as' : List Ty) (t : Term) (k : ℕ) → traversed at (abstractions as' t) k ≡ abstractions as' (traversed at t (k + length as'))
traversed_abstractions at [] t k = let e : k ≡ k + 0 = omega arith in ap (traversed at t) e
traversed_abstractions at (a ∷ as') t k =
    let e : k + 1 + length as' ≡ k + suc (length as') = omega arith in
    traversed_lam at a (abstractions as' t) k ∙ ap (term.Lam a) (traversed_abstractions at as' t (k + 1) ∙ ap (λ j. abstractions as' (traversed at t j)) e)

pub traversed_applied : (at : Images) (f : Term) (es : List Term) (k : ℕ) → traversed at (applied f es) k ≡ applied (traversed at f k) (map (λ e. traversed at e k) es)
traversed_applied at f [] k = refl
traversed_applied at f (e ∷ es) k = traversed_applied at (term.App f e) es k ∙ ap (λ g. applied g (map (λ e. traversed at e k) es)) (traversed_app at f e k)

map_abstractions : (at : Images) (as' : List Ty) (ts : List Term) (k : ℕ) → map (λ x. traversed at x k) (map (abstractions as') ts) ≡ map (abstractions as') (map (λ x. traversed at x (k + length as')) ts)
map_abstractions at as' [] k = refl
map_abstractions at as' (t ∷ ts) k = ap₂ ◌∷◌ (traversed_abstractions at as' t k) (map_abstractions at as' ts k)

map_append : (f : Term → Term) (ts us : List Term) → map f (ts ++ us) ≡ map f ts ++ map f us
map_append f [] us = refl
map_append f (t ∷ ts) us = ap (λ x. f t ∷ x) (map_append f ts us)

map_take : (f : Term → Term) (n : ℕ) (ts : List Term) → take n (map f ts) ≡ map f (take n ts)
map_take f zero ts = refl
map_take f (suc n) [] = refl
map_take f (suc n) (t ∷ ts) = ap (λ x. f t ∷ x) (map_take f n ts)

map_drop : (f : Term → Term) (n : ℕ) (ts : List Term) → drop n (map f ts) ≡ map f (drop n ts)
map_drop f zero ts = refl
map_drop f (suc n) [] = refl
map_drop f (suc n) (t ∷ ts) = map_drop f n ts

pub map_same : (f g : Term → Term) → ((t : Term) → f t ≡ g t) → (ts : List Term) → map f ts ≡ map g ts
map_same f g h [] = refl
map_same f g h (t ∷ ts) = ap₂ ◌∷◌ (h t) (map_same f g h ts)

module _ (from to : ℕ) (terms : ℕ → Term) where
  abbrev at : Images
  at = images from to terms

  abbrev on : ℕ → Term → Term
  on k t = traversed at t k

  on_variable : (k d : ℕ) → on d (term.Var (from + k)) ≡ term.Var (to + k)
  on_variable k d =
      let low : from ≤ from + k = omega arith in
      let e : from + k - from + to ≡ to + k = omega arith in
      traversed_var at (from + k) d ∙ images_other from to terms (from + k) d low ∙ ap term.Var e

  pub on_variables : (k d count : ℕ) → map (on d) (variables (from + k) count) ≡ variables (to + k) count
  on_variables k d zero = refl
  on_variables k d (suc count) =
      let e : from + k + 1 ≡ from + (k + 1) = omega arith in
      let f : to + (k + 1) ≡ to + k + 1 = omega arith in
      ap₂ ◌∷◌ (on_variable k d) (ap (λ n. map (on d) (variables n count)) e ∙ on_variables (k + 1) d count ∙ ap (λ n. variables n count) f)

  abbrev SplitMoves : Ty → Type 0
  SplitMoves t = (k : ℕ) (e : Term) → map (on k) (split t (from + k) e) ≡ split t (to + k) (on k e)

  abbrev JoinMoves : Ty → Type 0
  JoinMoves t = (k : ℕ) (es : List Term) → on k (join t (from + k) es) ≡ join t (to + k) (map (on k) es)

  first_moves : (k : ℕ) (es : List Term) → on k (first_of es) ≡ first_of (map (on k) es)
  first_moves k [] = traversed_tup at [] k
  first_moves k (e ∷ es) = refl

  opened_moves : (a : Ty) → JoinMoves a → (k : ℕ) (e : Term) → on (k + length (types a)) (opened a (from + k) e) ≡ opened a (to + k) (on k e)
  opened_moves a ja k e =
      let p : from + k + length (types a) ≡ from + (k + length (types a)) = omega arith in
      let q : to + (k + length (types a)) ≡ to + k + length (types a) = omega arith in
      traversed_app at _ _ (k + length (types a)) ∙ ap₂ term.App (all_of_shifted from to terms k (length (types a)) e)
      (ap (λ n. on (k + length (types a)) (join a n (variables (from + k) (length (types a))))) p ∙ ja (k + length (types a)) _ ∙ ap₂ (join a) q (on_variables k (k + length (types a)) (length (types a))))

  closed_moves : (a : Ty) → SplitMoves a → (k : ℕ) (es : List Term) → map (on (k + 1)) (applied_each (from + k) (split a (from + k + 1) (term.Var (from + k))) es) ≡ applied_each (to + k) (split a (to + k + 1) (term.Var (to + k))) (map (on k) es)
  closed_moves a sa k [] = refl
  closed_moves a sa k (e ∷ es) =
      let p : from + k + 1 ≡ from + (k + 1) = omega arith in
      let q : to + (k + 1) ≡ to + k + 1 = omega arith in
      ap₂ ◌∷◌ (traversed_applied at (shifted (from + k) 1 e) (split a (from + k + 1) (term.Var (from + k))) (k + 1) ∙ ap₂ applied (all_of_shifted from to terms k 1 e)
      (ap (λ n. map (on (k + 1)) (split a n (term.Var (from + k)))) p ∙ sa (k + 1) (term.Var (from + k)) ∙ ap₂ (split a) q (on_variable k (k + 1))))
      (closed_moves a sa k es)

  arrow_split_moves : (a b : Ty) → JoinMoves a → SplitMoves b → SplitMoves (ty.Arrow a b)
  arrow_split_moves a b ja sb k e =
      let p : from + k + length (types a) ≡ from + (k + length (types a)) = omega arith in
      let q : to + (k + length (types a)) ≡ to + k + length (types a) = omega arith in
      ap (map (on k)) (split_arrow a b (from + k) e) ∙ map_abstractions at (types a) _ k
      ∙ ap (map (abstractions (types a))) (ap (λ n. map (on (k + length (types a))) (split b n (opened a (from + k) e))) p ∙ sb (k + length (types a)) _ ∙ ap₂ (split b) q (opened_moves a ja k e))
      ∙ sym (split_arrow a b (to + k) (on k e))

  arrow_join_moves : (a b : Ty) → SplitMoves a → JoinMoves b → JoinMoves (ty.Arrow a b)
  arrow_join_moves a b sa jb k es =
      let p : from + k + 1 ≡ from + (k + 1) = omega arith in
      let q : to + (k + 1) ≡ to + k + 1 = omega arith in
      ap (on k) (join_arrow a b (from + k) es) ∙ traversed_lam at a _ k
      ∙ ap (term.Lam a) (ap (λ n. on (k + 1) (join b n (applied_each (from + k) (split a (from + k + 1) (term.Var (from + k))) es))) p ∙ jb (k + 1) _ ∙ ap₂ (join b) q (closed_moves a sa k es))
      ∙ sym (join_arrow a b (to + k) (map (on k) es))

  mutual
    pub split_moves : {t : Ty} → Formed t → SplitMoves t
    split_moves (Formed.atom t is _) k e = ap (map (on k)) (split_atom t is (from + k) e) ∙ sym (split_atom t is (to + k) (on k e))
    split_moves (Formed.tup ts l fs) k e = ap (map (on k)) (split_tup ts (from + k) e) ∙ split_all_moves fs k 1 (length ts) e ∙ sym (split_tup ts (to + k) (on k e))
    split_moves (Formed.arrow a b fa fb) k e = arrow_split_moves a b (join_moves fa) (split_moves fb) k e

    pub join_moves : {t : Ty} → Formed t → JoinMoves t
    join_moves (Formed.atom t is _) k es = ap (on k) (join_atom t is (from + k) es) ∙ first_moves k es ∙ sym (join_atom t is (to + k) (map (on k) es))
    join_moves (Formed.tup ts l fs) k es = ap (on k) (join_tup ts (from + k) es) ∙ traversed_tup at _ k ∙ ap term.Tup (each_below_map at _ k ∙ join_all_moves fs k es) ∙ sym (join_tup ts (to + k) (map (on k) es))
    join_moves (Formed.arrow a b fa fb) k es = arrow_join_moves a b (split_moves fa) (join_moves fb) k es

    split_all_moves : {ts : List Ty} → AllFormed ts → (k i len : ℕ) (e : Term) → map (on k) (split_all ts (from + k) i len e) ≡ split_all ts (to + k) i len (on k e)
    split_all_moves AllFormed.none k i len e = refl
    split_all_moves (AllFormed.more t ts g gs) k i len e =
        map_append (on k) (split t (from + k) (term.Proj i len e)) _ ∙ ap₂ ◌++◌ (split_moves g k (term.Proj i len e) ∙ ap (split t (to + k)) (traversed_proj at i len e k)) (split_all_moves gs k (i + 1) len e)

    join_all_moves : {ts : List Ty} → AllFormed ts → (k : ℕ) (es : List Term) → map (on k) (join_all ts (from + k) es) ≡ join_all ts (to + k) (map (on k) es)
    join_all_moves AllFormed.none k es = refl
    join_all_moves (AllFormed.more t ts g gs) k es = ap₂ ◌∷◌
        (join_moves g k _ ∙ ap (join t (to + k)) (sym (map_take (on k) (length (types t)) es)))
        (join_all_moves gs k _ ∙ ap (join_all ts (to + k)) (sym (map_drop (on k) (length (types t)) es)))

-- what commutes with substitution for all commutes with a substitution for one
pub substitutes_each : (go : ℕ → List Term → List Term) → ((from to : ℕ) (terms : ℕ → Term) (k : ℕ) (es : List Term) → map (λ x. traversed (images from to terms) x k) (go (from + k) es) ≡ go (to + k) (map (λ x. traversed (images from to terms) x k) es)) → (n : ℕ) (u : Term) (k : ℕ) (es : List Term) → map (λ x. traversed (image n u) x k) (go (n + 1 + k) es) ≡ go (n + k) (map (λ x. traversed (image n u) x k) es)
substitutes_each go moves n u k es =
    map_same (λ x. traversed (image n u) x k) (λ x. traversed (images (n + 1) n (only n u)) x k) (substituted_one n k u) (go (n + 1 + k) es)
    ∙ moves (n + 1) n (only n u) k es
    ∙ ap (go (n + k)) (sym (map_same (λ x. traversed (image n u) x k) (λ x. traversed (images (n + 1) n (only n u)) x k) (substituted_one n k u) es))

pub split_shifted : {t : Ty} → Formed t → (n j : ℕ) (e : Term) → map (shifted n j) (split t n e) ≡ split t (n + j) (shifted n j e)
split_shifted {t = t} f n j e =
    let p : n ≡ n + 0 = omega arith in
    let q : n + j + 0 ≡ n + j = omega arith in
    map_same (shifted n j) (λ x. traversed (images n (n + j) term.Var) x 0) (shifted_all n j 0) (split t n e)
    ∙ ap (λ m. map (λ x. traversed (images n (n + j) term.Var) x 0) (split t m e)) p ∙ split_moves n (n + j) term.Var f 0 e ∙ ap₂ (split t) q (sym (shifted_all n j 0 e))

pub join_shifted : {t : Ty} → Formed t → (n j : ℕ) (es : List Term) → shifted n j (join t n es) ≡ join t (n + j) (map (shifted n j) es)
join_shifted {t = t} f n j es =
    let p : n ≡ n + 0 = omega arith in
    let q : n + j + 0 ≡ n + j = omega arith in
    shifted_all n j 0 (join t n es)
    ∙ ap (λ m. traversed (images n (n + j) term.Var) (join t m es) 0) p ∙ join_moves n (n + j) term.Var f 0 es
    ∙ ap₂ (join t) q (sym (map_same (shifted n j) (λ x. traversed (images n (n + j) term.Var) x 0) (shifted_all n j 0) es))

pub split_substituted : {t : Ty} → Formed t → (n : ℕ) (u : Term) (k : ℕ) (e : Term) → map (λ x. traversed (image n u) x k) (split t (n + 1 + k) e) ≡ split t (n + k) (traversed (image n u) e k)
split_substituted {t = t} f n u k e =
    map_same (λ x. traversed (image n u) x k) (λ x. traversed (images (n + 1) n (only n u)) x k) (substituted_one n k u) (split t (n + 1 + k) e)
    ∙ split_moves (n + 1) n (only n u) f k e ∙ ap (split t (n + k)) (sym (substituted_one n k u e))

pub join_substituted : {t : Ty} → Formed t → (n : ℕ) (u : Term) (k : ℕ) (es : List Term) → traversed (image n u) (join t (n + 1 + k) es) k ≡ join t (n + k) (map (λ x. traversed (image n u) x k) es)
join_substituted {t = t} f n u k es =
    substituted_one n k u (join t (n + 1 + k) es) ∙ join_moves (n + 1) n (only n u) f k es
    ∙ ap (join t (n + k)) (sym (map_same (λ x. traversed (image n u) x k) (λ x. traversed (images (n + 1) n (only n u)) x k) (substituted_one n k u) es))
