-- What stands at the places that are held for names.
use Rattle.std.proofs.Common.{◌≡◌, ℕ, zero, suc, ◌+◌, ◌<◌, ◌≤◌, Bool, true, false, ◌==◌, ◌||◌, if◌then◌else◌, List, [], ◌∷◌, ◌++◌, length, drop, slice_get, set, Option, Some, None, is_some, not, refl, sym, ap, ap₂, ◌∙◌, subst, arith, length-drop, length-append, inl, inr}
use Rattle.std.proofs.lemmas.List.{drop-drop, drop-append-le}
use Rattle.std.proofs.lemmas.Bool.{lt-leb, le-leb, eq-eqb, eqb-true, ne_eqb, cases_lt, cases_eq}
use Rattle.std.proofs.lemmas.Option.{slice_get_past}
use Rattle.std.proofs.Math.ListN.{drop_of_length-le}
use Rattle.std.specs.Option.{MatchOption}
use Rattle.type_core.specs.declared.ty.NameId.{NameId}
use Rattle.type_core.specs.declared.ty.Ty.{Ty}
use Rattle.type_core.specs.declared.ty.Ty.TheVariants as ty
use Rattle.type_core.specs.Substitution.{substituted}
use Rattle.elab_env.specs.declared.realization.Realization.{Realization}
use Rattle.elab_env.specs.Meaning.{body_of, meant, meant_at, name_weight, weighed, weight_at}
use Rattle.elab_env.specs.Places.{ArePlaced, from_on, place_held, place_in}
use Rattle.elab_env.specs.Realizations.{resolved}
use Rattle.elab_env.specs.Table.{is_realized}

-- ---- the first realization of a name
record FoundAt (rs : List Realization) (i p : ℕ) (name : NameId) (meaning : List Ty → Ty) (weight : ℕ) : Type 0 where
  at : ℕ
  is : p ≡ i + at
  within : at < length rs
  means : (arguments : List Ty) → meaning arguments ≡ substituted arguments (resolved (drop (suc at) rs) (body_of (slice_get rs at)))
  weighs : weight ≡ weighed (name_weight (drop (suc at) rs)) (body_of (slice_get rs at))
  same : (r : Realization) → slice_get rs at ≡ Some r → r.name.0 ≡ name.0

abbrev Found : List Realization → ℕ → Option ℕ → NameId → (List Ty → Ty) → ℕ → Type 0
Found rs i place name meaning weight = MatchOption place ((arguments : List Ty) → meaning arguments ≡ ty.Con name arguments) (λ p. FoundAt rs i p name meaning weight)

found_later : (r : Realization) (rs : List Realization) (i : ℕ) (place : Option ℕ) (name : NameId) (meaning : List Ty → Ty) (weight : ℕ) → Found rs (i + 1) place name meaning weight → Found (r ∷ rs) i place name meaning weight
found_later r rs i None name meaning weight h = h
found_later r rs i (Some p) name meaning weight h = record { at = suc h.at; is = omega (arith, h.is); within = omega (arith, h.within); means = h.means; weighs = h.weighs; same = h.same }

found : (rs : List Realization) (i : ℕ) (name : NameId) → Found rs i (place_in i name.0 rs) name (meant rs name) (name_weight rs name.0)
found [] i name = λ arguments. refl
found (r ∷ rs) i name = by_test (name.0 == r.name.0) refl (found rs (i + 1) name)
  where
    by_test : (b : Bool) → (name.0 == r.name.0) ≡ b → Found rs (i + 1) (place_in (i + 1) name.0 rs) name (meant rs name) (name_weight rs name.0)
        → Found (r ∷ rs) i (if b then Some i else place_in (i + 1) name.0 rs) name (λ arguments. if b then substituted arguments (resolved rs r.fun.body) else meant rs name arguments) (if b then weighed (name_weight rs) r.fun.body else name_weight rs name.0)
    by_test true e h = record { at = 0; is = omega arith; within = omega arith; means = λ arguments. refl; weighs = refl; same = λ s here. ap (λ x. x.name.0) (let back : s ≡ r = grind (arith, here) in back) ∙ sym (eqb-true name.0 r.name.0 e) }
    by_test false e h = found_later r rs i _ name _ _ h

-- ---- among all realizations
pub record StandsAt (rs : List Realization) (from p : ℕ) (name : NameId) : Type 0 where
  pub later : from ≤ p
  pub within : p < length rs
  pub means : (arguments : List Ty) → meant (drop from rs) name arguments ≡ meant_at rs name (Some p) arguments
  pub weighs : name_weight (drop from rs) name.0 ≡ weight_at rs (Some p)
  pub same : (r : Realization) → slice_get rs p ≡ Some r → r.name.0 ≡ name.0

slice_get-drop : {A : Type 0} (n : ℕ) (xs : List A) (i : ℕ) → slice_get (drop n xs) i ≡ slice_get xs (n + i)
slice_get-drop zero xs i = ap (slice_get xs) (let e : i ≡ 0 + i = omega arith in e)
slice_get-drop (suc n) [] i = sym (slice_get_past [] (suc n + i) (omega arith))
slice_get-drop (suc n) (x ∷ xs) i = slice_get-drop n xs i ∙ ap (slice_get (x ∷ xs)) (let e : suc (n + i) ≡ suc n + i = omega arith in e)

stands : (rs : List Realization) (from p : ℕ) (name : NameId) → FoundAt (drop from rs) from p name (meant (drop from rs) name) (name_weight (drop from rs) name.0) → StandsAt rs from p name
stands rs from p name h =
    let after : drop (suc h.at) (drop from rs) ≡ drop (p + 1) rs = drop-drop (suc h.at) from rs ∙ ap (λ k. drop k rs) (omega (arith, h.is)) in
    let here : slice_get (drop from rs) h.at ≡ slice_get rs p = slice_get-drop from rs h.at ∙ ap (slice_get rs) (sym h.is) in
    record {
      later = omega (arith, h.is);
      within = omega (arith, h.is, h.within, length-drop from rs);
      means = λ arguments. h.means arguments ∙ ap₂ (λ later o. substituted arguments (resolved later (body_of o))) after here;
      weighs = h.weighs ∙ ap₂ (λ later o. weighed (name_weight later) (body_of o)) after here;
      same = λ r is. h.same r (here ∙ is);
    }

pub placed : (rs : List Realization) (from : ℕ) (name : NameId) (place : Option ℕ) → place ≡ place_in from name.0 (drop from rs) → MatchOption place ((arguments : List Ty) → meant (drop from rs) name arguments ≡ ty.Con name arguments) (λ p. StandsAt rs from p name)
placed rs from name place e = by_place place (subst (λ o. Found (drop from rs) from o name (meant (drop from rs) name) (name_weight (drop from rs) name.0)) (sym e) (found (drop from rs) from name))
  where
    by_place : (place : Option ℕ) → Found (drop from rs) from place name (meant (drop from rs) name) (name_weight (drop from rs) name.0) → MatchOption place ((arguments : List Ty) → meant (drop from rs) name arguments ≡ ty.Con name arguments) (λ p. StandsAt rs from p name)
    by_place None h = h
    by_place (Some p) h = stands rs from p name h

-- ---- whether a name is realized
pub is_realized-place : (rs : List Realization) (i n : ℕ) → is_realized rs n ≡ is_some (place_in i n rs)
is_realized-place [] i n = refl
is_realized-place (r ∷ rs) i n = by_test (n == r.name.0) (is_realized-place rs (i + 1) n)
  where
    by_test : (b : Bool) → is_realized rs n ≡ is_some (place_in (i + 1) n rs) → (b || is_realized rs n) ≡ is_some (if b then Some i else place_in (i + 1) n rs)
    by_test true e = refl
    by_test false e = e

-- ---- one realization more
abbrev or_at : Option ℕ → Option ℕ → Option ℕ
or_at None o = o
or_at (Some p) o = Some p

place_in-more : (rs : List Realization) (r : Realization) (i n : ℕ) → place_in i n (rs ++ r ∷ []) ≡ or_at (place_in i n rs) (if n == r.name.0 then Some (i + length rs) else None)
place_in-more [] r i n = ap (λ k. if n == r.name.0 then Some k else None) (let e : i ≡ i + 0 = omega arith in e)
place_in-more (x ∷ rs) r i n = by_test (n == x.name.0) (place_in-more rs r (i + 1) n ∙ ap (λ k. or_at (place_in (i + 1) n rs) (if n == r.name.0 then Some k else None)) (let e : i + 1 + length rs ≡ i + suc (length rs) = omega arith in e))
  where
    by_test : (b : Bool) → place_in (i + 1) n (rs ++ r ∷ []) ≡ or_at (place_in (i + 1) n rs) (if n == r.name.0 then Some (i + suc (length rs)) else None)
        → (if b then Some i else place_in (i + 1) n (rs ++ r ∷ [])) ≡ or_at (if b then Some i else place_in (i + 1) n rs) (if n == r.name.0 then Some (i + suc (length rs)) else None)
    by_test true e = refl
    by_test false e = e

from_past : (from p : ℕ) → p < from → from_on from (Some p) ≡ None
from_past from p h = rw (lt-leb from p h) refl

from_until : (from p : ℕ) → from ≤ p → from_on from (Some p) ≡ Some p
from_until from p h = rw (le-leb from p h) refl

get_set_same : {A : Type 0} (xs : List A) (n : ℕ) (x : A) → n < length xs → slice_get (set xs n x) n ≡ Some x
get_set_same [] n x h = absurd (omega (arith, h))
get_set_same (y ∷ xs) zero x h = refl
get_set_same (y ∷ xs) (suc n) x h = get_set_same xs n x (omega (arith, h))

get_set_other : {A : Type 0} (xs : List A) (n m : ℕ) (x : A) → (m ≡ n → ⊥) → slice_get (set xs n x) m ≡ slice_get xs m
get_set_other [] n m x h = refl
get_set_other (y ∷ xs) zero zero x h = absurd (h refl)
get_set_other (y ∷ xs) zero (suc m) x h = refl
get_set_other (y ∷ xs) (suc n) zero x h = refl
get_set_other (y ∷ xs) (suc n) (suc m) x h = get_set_other xs n m x (λ e. h (ap suc e))

or_at-none : (o : Option ℕ) → or_at o None ≡ o
or_at-none None = refl
or_at-none (Some p) = refl

more_same : (rs : List Realization) (n : ℕ) (r : Realization) (from : ℕ) → r.name.0 ≡ n → place_in from n (drop from rs) ≡ None → from_on from (Some (length rs)) ≡ place_in from n (drop from (rs ++ r ∷ []))
more_same rs n r from e none = elim (cases_lt (length rs) from) [
  | inl past ↦ from_past from (length rs) past ∙ sym (ap (place_in from n) (drop_of_length-le (rs ++ r ∷ []) (omega (arith, past, length-append rs (r ∷ [])))))
  | inr within ↦
      let there : from + length (drop from rs) ≡ length rs = omega (arith, within, length-drop from rs) in
      from_until from (length rs) within
      ∙ sym (ap (place_in from n) (drop-append-le from rs (r ∷ []) within) ∙ place_in-more (drop from rs) r from n ∙ rw (none, eq-eqb n r.name.0 (sym e), there) refl)
]

more_other : (rs : List Realization) (m : ℕ) (r : Realization) (from : ℕ) → (m ≡ r.name.0 → ⊥) → place_in from m (drop from rs) ≡ place_in from m (drop from (rs ++ r ∷ []))
more_other rs m r from e = elim (cases_lt (length rs) from) [
  | inl past ↦ ap (place_in from m) (drop_of_length-le rs (omega (arith, past)) ∙ sym (drop_of_length-le (rs ++ r ∷ []) (omega (arith, past, length-append rs (r ∷ [])))))
  | inr within ↦ sym (ap (place_in from m) (drop-append-le from rs (r ∷ []) within) ∙ place_in-more (drop from rs) r from m ∙ rw (ne_eqb m r.name.0 e) (or_at-none _))
]

pub placed_more : (rs : List Realization) (places : List (Option ℕ)) (n : ℕ) (r : Realization) → ArePlaced rs places → n < length places → is_realized rs n ≡ false → r.name.0 ≡ n → ArePlaced (rs ++ r ∷ []) (set places n (Some (length rs)))
placed_more rs places n r h within free e m from = elim (cases_eq m n) [
  | inl same ↦
      ap (λ k. from_on from (place_held (slice_get (set places n (Some (length rs))) k))) same
      ∙ ap (λ o. from_on from (place_held o)) (get_set_same places n (Some (length rs)) within)
      ∙ more_same rs n r from e (none_from rs places n from h free)
      ∙ sym (ap (λ k. place_in from k (drop from (rs ++ r ∷ []))) same)
  | inr other ↦ ap (λ o. from_on from (place_held o)) (get_set_other places n m (Some (length rs)) other) ∙ h m from ∙ more_other rs m r from (λ q. other (q ∙ e))
]
  where
    none_held : (o : Option ℕ) → is_some (from_on 0 o) ≡ false → (from : ℕ) → from_on from o ≡ None
    none_held None e from = refl
    none_held (Some p) e from = absurd (let clash : ⊥ = grind (arith, e, from_until 0 p (omega arith)) in clash)

    none_from : (rs : List Realization) (places : List (Option ℕ)) (n from : ℕ) → ArePlaced rs places → is_realized rs n ≡ false → place_in from n (drop from rs) ≡ None
    none_from rs places n from h free = sym (h n from) ∙ none_held (place_held (slice_get places n)) (ap is_some (h n 0) ∙ sym (is_realized-place rs 0 n) ∙ free) from

-- ---- one name more
held_added : (places : List (Option ℕ)) (n : ℕ) → place_held (slice_get (places ++ None ∷ []) n) ≡ place_held (slice_get places n)
held_added [] zero = refl
held_added [] (suc n) = refl
held_added (p ∷ places) zero = refl
held_added (p ∷ places) (suc n) = held_added places n

pub placed_added : (rs : List Realization) (places : List (Option ℕ)) → ArePlaced rs places → ArePlaced rs (places ++ None ∷ [])
placed_added rs places h n from = ap (from_on from) (held_added places n) ∙ h n from

-- ---- no realizations
pub none_there : (o : Option ℕ) (none : Bool) → is_some o ≡ not none → none ≡ not (is_some o)
none_there o true e = sym (ap not e)
none_there o false e = sym (ap not e)
