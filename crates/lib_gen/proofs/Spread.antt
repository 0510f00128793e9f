-- The hits in a library, by those among its schemes.
use Rattle.std.proofs.Common.{◌≡◌, inl, inr, ℕ, zero, suc, ◌+◌, ◌<◌, ◌≤◌, Bool, true, false, nat_eq, if◌then◌else◌, List, [], ◌∷◌, ◌++◌, length, Some, slice_get, slice_index_or, refl, sym, ap, ◌∙◌, subst, arith}
use Rattle.std.specs.List.{All, Contains}
use Rattle.std.proofs.lemmas.List.{length-append}
use Rattle.std.proofs.lemmas.List.Elements.{All-head, All-tail}
use Rattle.std.proofs.lemmas.Bool.{false≢true}
use Rattle.std.proofs.lemmas.Bool.Decides.{eqb_tells}
use Rattle.type_core.specs.declared.library.Library.{Library}
use Rattle.type_core.specs.declared.member.Member.{Member}
use Rattle.type_core.specs.declared.names.TypeName.{TypeName}
use Rattle.type_core.specs.declared.ty.Scheme.{Scheme}
use Rattle.search_core.specs.declared.answer.Hit.{Hit}
use Rattle.search_core.specs.declared.answer.Mode.{Mode}
use Rattle.search_core.specs.Search.{AreDetails, AreHits, Finds, HasDetails, details_of, numbers_of}
use Rattle.lib_gen.specs.declared.classes.Classes.{Classes}
use Rattle.lib_gen.specs.Classes.{AreClasses, HasScheme, is_among}
use Rattle.lib_gen.specs.Summary.{HasHits}
use Rattle.search_core.proofs.Found.{AreFound, all_found, found_none, found_one, found_other}
use Rattle.lib_gen.proofs.Numbered.{class_tells, same_at}

-- what the test tells
later : (b rest : Bool) (is : Bool) → b ≡ false → (if b then true else rest) ≡ is → rest ≡ is
later false rest is apart all = all
later true rest is apart all = absurd (false≢true (sym apart))

not_first : (b rest : Bool) → b ≡ true → (if b then true else rest) ≡ false → ⊥
not_first true rest same all = false≢true (sym all)
not_first false rest same all = false≢true same

hit_among : (P : Hit → Type 0) (hits : List Hit) (n : ℕ) → is_among hits n ≡ true → All P hits
    → (hit : Hit) × (hit.member ≡ n) × P hit
hit_among P [] n is all = absurd (false≢true is)
hit_among P (hit ∷ hits) n is all = elim (eqb_tells hit.member n) [
  | inl same ↦ (hit, same.1, All-head P hit hits all)
  | inr apart ↦ hit_among P hits n (later (nat_eq hit.member n) (is_among hits n) true apart.0 is) (All-tail P hit hits all)
]

has_first : (x n : ℕ) (xs : List ℕ) → x ≡ n → Contains (x ∷ xs) n
has_first x n xs same = (0, omega arith, same)

has_later : (x n : ℕ) (xs : List ℕ) → Contains xs n → Contains (x ∷ xs) n
has_later x n xs has = (suc has.0, omega (arith, has.1), has.2)

among_contains : (hits : List Hit) (n : ℕ) → is_among hits n ≡ true → Contains (numbers_of hits) n
among_contains [] n is = absurd (false≢true is)
among_contains (hit ∷ hits) n is = elim (eqb_tells hit.member n) [
  | inl same ↦ has_first hit.member n (numbers_of hits) same.1
  | inr apart ↦ has_later hit.member n (numbers_of hits)
      (among_contains hits n (later (nat_eq hit.member n) (is_among hits n) true apart.0 is))
]

contains_neither : (x : ℕ) (xs : List ℕ) (n : ℕ) → (x ≡ n → ⊥) → (Contains xs n → ⊥) → Contains (x ∷ xs) n → ⊥
contains_neither x xs n apart rest has = go has.0 has.1 has.2
  where
    go : (k : ℕ) → k < length (x ∷ xs) → slice_index_or (x ∷ xs) k n ≡ n → ⊥
    go zero l same = apart same
    go (suc k) l same = rest (k, omega (arith, l), same)

not_among : (hits : List Hit) (n : ℕ) → is_among hits n ≡ false → Contains (numbers_of hits) n → ⊥
not_among [] n is has = omega (arith, has.1)
not_among (hit ∷ hits) n is has = elim (eqb_tells hit.member n) [
  | inl same ↦ not_first (nat_eq hit.member n) (is_among hits n) same.0 is
  | inr apart ↦ contains_neither hit.member (numbers_of hits) n apart.1
      (not_among hits n (later (nat_eq hit.member n) (is_among hits n) false apart.0 is)) has
]

module _ (library : Library) (m : Mode) (query : Scheme) where
  -- the first so many members were looked at, and so many of them are hits
  pub record AreCounted (looked count : ℕ) : Type 0 where
    pub hits : List Hit
    pub found : AreFound library m query looked hits
    pub counted : length hits ≡ count
    pub few : count ≤ looked

  pub none_counted : AreCounted 0 0
  none_counted = record { hits = []; found = found_none library m query; counted = refl; few = omega arith }

  pub all_counted : (looked count : ℕ) → length library.members ≤ looked → AreCounted looked count → HasHits library m query count
  all_counted looked count l all = record {
    hits = all.hits;
    all = all_found library m query library.members looked all.hits refl l all.found;
    counted = all.counted;
  }

  module _ (classes : Classes) (are : AreClasses library classes) (found : List Hit) (hits : AreHits classes.schemes m query found)
      (n class : ℕ) (at : slice_get classes.numbers n ≡ Some class) (count : ℕ) (so_far : AreCounted n count) where
    told : (member : Member) × (slice_get library.members n ≡ Some member) × HasScheme classes.schemes.members class member.scheme
    told = class_tells library classes n class are at

    -- what holds of the scheme of this class holds of the member's
    brought : (P : List TypeName → Scheme → Type 0) → P classes.schemes.names told.2.member.scheme → P library.names told.0.scheme
    brought P holds =
        subst (λ names. P names told.0.scheme) are.names (subst (P classes.schemes.names) told.2.same holds)

    taken : (P : List TypeName → Scheme → Type 0) → P library.names told.0.scheme → P classes.schemes.names told.2.member.scheme
    taken P holds =
        subst (P classes.schemes.names) (sym told.2.same) (subst (λ names. P names told.0.scheme) (sym are.names) holds)

    is_found : is_among found class ≡ true → Finds library.names m told.0.scheme query
    is_found is =
        let due = (hits.exact class).0 (among_contains found class is) in
        brought (λ names scheme. Finds names m scheme query)
        (subst (λ (member : Member). Finds classes.schemes.names m member.scheme query)
        (same_at classes.schemes.members class due.0 told.2.member due.1 told.2.there) due.2)

    pub one_more : is_among found class ≡ true → AreCounted (n + 1) (count + 1)
    one_more is =
        let hit = hit_among (HasDetails classes.schemes m query) found class is hits.details in
        let details = brought (λ names scheme. AreDetails names m scheme query (details_of hit.0))
        (hit.2 told.2.member (ap (slice_get classes.schemes.members) hit.1 ∙ told.2.there)) in
        let new : Hit = record { member = n; pairing = hit.0.pairing; instance = hit.0.instance; conv = hit.0.conv } in
        record {
          hits = so_far.hits ++ new ∷ [];
          found = found_one library m query n told.0 told.1 so_far.hits so_far.found (details_of hit.0) refl (is_found is, details);
          counted = length-append so_far.hits (new ∷ []) ∙ ap (λ k. k + 1) so_far.counted;
          few = omega (arith, so_far.few);
        }

    pub none_more : is_among found class ≡ false → AreCounted (n + 1) count
    none_more is = record {
      hits = so_far.hits;
      found = found_other library m query n told.0 told.1 so_far.hits so_far.found refl
          (λ finds. not_among found class is ((hits.exact class).1
          (told.2.member, told.2.there, taken (λ names scheme. Finds names m scheme query) finds)));
      counted = so_far.counted;
      few = omega (arith, so_far.few);
    }
