-- A query has one list of hits.
use Rattle.std.proofs.Common.{◌≡◌, ◌↔◌, ℕ, zero, suc, ◌<◌, ◌⊎◌, inl, inr, List, [], ◌∷◌, length, Some, slice_get, slice_index_or, refl, sym, ap, ap₂, ◌∙◌, subst, arith}
use Rattle.std.specs.List.{All, AllPairs, Contains}
use Rattle.std.proofs.lemmas.List.Elements.{All-contains_itself, All-head, All-tail, All-weaker}
use Rattle.type_core.specs.declared.library.Library.{Library}
use Rattle.type_core.specs.declared.names.TypeName.{TypeName}
use Rattle.type_core.specs.declared.ty.Scheme.{Scheme}
use Rattle.iso_normal.proofs.WordsTell.{next_letter, next_letters}
use Rattle.iso_normal.specs.declared.pair_tree.PairTree.{PairTree}
use Rattle.coord_match.proofs.OneLeast as least
use Rattle.linear_match.specs.declared.instance.Instance.{Instance}
use Rattle.linear_match.specs.LeastWord.{IsFirst}
use Rattle.linear_match.proofs.OneFirst.{one_first}
use Rattle.conv_build.specs.declared.converters.Converters.{Converters}
use Rattle.search_core.specs.declared.answer.Details.{Details}
use Rattle.search_core.specs.declared.answer.Hit.{Hit}
use Rattle.search_core.specs.declared.answer.Mode.{Mode}
use Rattle.search_core.specs.declared.answer.Mode.TheVariants as mode
use Rattle.search_core.specs.Search.{AreDetails, AreHits, HasDetails, IsDue, IsMatched, IsPaired, details_of, numbers_of}
use Rattle.search_core.specs.Converters.{AreConverters}
use Rattle.search_core.proofs.Beside.{one_converters, one_pair}

-- rising numbers are told by what they contain
has_first : (x : ℕ) (xs : List ℕ) → Contains (x ∷ xs) x
has_first x xs = (0, omega arith, refl)

has_nothing : (n : ℕ) → Contains [] n → ⊥
has_nothing n has = omega (arith, has.1)

has_cases : (x : ℕ) (xs : List ℕ) (n : ℕ) → Contains (x ∷ xs) n → (x ≡ n) ⊎ Contains xs n
has_cases x xs n has = go has.0 has.1 has.2
  where
    go : (k : ℕ) → k < length (x ∷ xs) → slice_index_or (x ∷ xs) k n ≡ n → (x ≡ n) ⊎ Contains xs n
    go zero l is = inl is
    go (suc k) l is = inr (k, omega (arith, l), is)

has_later : (x : ℕ) (xs : List ℕ) (n : ℕ) → Contains xs n → Contains (x ∷ xs) n
has_later x xs n has = (suc has.0, omega (arith, has.1), has.2)

below_later : (x : ℕ) (xs : List ℕ) → AllPairs ◌<◌ (x ∷ xs) → (n : ℕ) → Contains xs n → x < n
below_later x xs rising n has = subst (λ m. x < m) has.2 (rising 0 (suc has.0) n (omega arith) (omega (arith, has.1)))

later_rise : (x : ℕ) (xs : List ℕ) → AllPairs ◌<◌ (x ∷ xs) → AllPairs ◌<◌ xs
later_rise x xs rising i j d l m = rising (suc i) (suc j) d (omega (arith, l)) (omega (arith, m))

not_below_itself : (x y n : ℕ) → x ≡ y → y ≡ n → x < n → ⊥
not_below_itself x y n e f l = omega (arith, e, f, l)

module _ (x y : ℕ) (xs ys : List ℕ) (rising : AllPairs ◌<◌ (x ∷ xs)) (also : AllPairs ◌<◌ (y ∷ ys)) where
  first_is : Contains (y ∷ ys) x → Contains (x ∷ xs) y → x ≡ y
  first_is p q = go (has_cases y ys x p) (has_cases x xs y q)
    where
      apart : x < y → y < x → x ≡ y
      apart l m = absurd (omega (arith, l, m))

      go : (y ≡ x) ⊎ Contains ys x → (x ≡ y) ⊎ Contains xs y → x ≡ y
      go (inl e) q = sym e
      go (inr p) (inl e) = e
      go (inr p) (inr q) = apart (below_later x xs rising y q) (below_later y ys also x p)

  later_is : x ≡ y → (n : ℕ) → (Contains (x ∷ xs) n → Contains (y ∷ ys) n) → Contains xs n → Contains ys n
  later_is e n h has = go (has_cases y ys n (h (has_later x xs n has)))
    where
      go : (y ≡ n) ⊎ Contains ys n → Contains ys n
      go (inl f) = absurd (not_below_itself x y n e f (below_later x xs rising n has))
      go (inr has) = has

one_list : (xs ys : List ℕ) → AllPairs ◌<◌ xs → AllPairs ◌<◌ ys → ((n : ℕ) → Contains xs n ↔ Contains ys n) → xs ≡ ys
one_list [] [] r s both = refl
one_list [] (y ∷ ys) r s both = absurd (has_nothing y ((both y).1 (has_first y ys)))
one_list (x ∷ xs) [] r s both = absurd (has_nothing x ((both x).0 (has_first x xs)))
one_list (x ∷ xs) (y ∷ ys) r s both =
    let e = first_is x y xs ys r s ((both x).0 (has_first x xs)) ((both y).1 (has_first y ys)) in
    ap₂ ◌∷◌ e (one_list xs ys (later_rise x xs r) (later_rise y ys s)
    (λ n. (later_is x y xs ys r s e n (both n).0, later_is y x ys xs s r (sym e) n (both n).1)))

same_details : (p q : Details) → p.pairing ≡ q.pairing → p.instance ≡ q.instance → p.conv ≡ q.conv → p ≡ q
same_details p q e f g = λ i. record { pairing = e i; instance = f i; conv = g i }

-- there is one instance of the least word, as a record
one_instance : (names : List TypeName) (a b : Scheme) (i j : Instance) → IsFirst names a b.body i.word i.subst i.body
    → IsFirst names a b.body j.word j.subst j.body → i ≡ j
one_instance names a b i j first also =
    let one = one_first first also in
    λ k. record { subst = one.1 k; body = one.2 k; word = one.0 k }

one_matched : (names : List TypeName) (a b : Scheme) (i : Instance) (p q : PairTree) (c d : Converters)
    → IsMatched names a b i p c → IsMatched names a b i q d → (p ≡ q) × (c ≡ d)
one_matched names a b i p q c d first also =
    let same : p ≡ q = least.one_identical first.least also.least in
    (same, one_pair i.body b.body q c d (subst (λ p. AreConverters i.body b.body p c) same first.converters) also.converters)

one_details : (names : List TypeName) (m : Mode) (a b : Scheme) (p q : Details) → AreDetails names m a b p
    → AreDetails names m a b q → p ≡ q
one_details names mode.Same a b p q e f = same_details p q (e.0 ∙ sym f.0) (e.1 ∙ sym f.1) (e.2 ∙ sym f.2)
one_details names mode.Iso a b p q (tree, terms, tree_is, none, terms_are, paired) (other, others, other_is, also_none, others_are, also) =
    let same : tree ≡ other = least.one_pairing paired.least also.least in
    let one : terms ≡ others = one_converters a b other terms others (subst (λ p. IsPaired a b p terms) same paired)
    also in
    same_details p q (tree_is ∙ ap Some same ∙ sym other_is) (none ∙ sym also_none) (terms_are ∙ ap Some one ∙ sym others_are)
one_details names mode.General a b p q (tree, it, terms, tree_is, it_is, terms_are, matched) (other, its, others, other_is, its_is, others_are, also) =
    let instance : it ≡ its = one_instance names a b it its matched.first also.first in
    let one = one_matched names a b its tree other terms others (subst (λ i. IsMatched names a b i tree terms) instance matched) also in
    same_details p q (tree_is ∙ ap Some one.0 ∙ sym other_is) (it_is ∙ ap Some instance ∙ sym its_is)
    (terms_are ∙ ap Some one.1 ∙ sym others_are)

module _ (library : Library) (m : Mode) (query : Scheme) where
  same_hit : (hit other : Hit) → hit.member ≡ other.member → details_of hit ≡ details_of other → hit ≡ other
  same_hit hit other e f = λ i. record { member = e i; pairing = (f i).pairing; instance = (f i).instance; conv = (f i).conv }

  same_hits : (hits others : List Hit) → numbers_of hits ≡ numbers_of others
      → All (IsDue library m query) (numbers_of hits) → All (HasDetails library m query) hits
      → All (HasDetails library m query) others → hits ≡ others
  same_hits [] [] e due p q = refl
  same_hits [] (other ∷ others) e due p q = absurd (cc e)
  same_hits (hit ∷ hits) [] e due p q = absurd (cc e)
  same_hits (hit ∷ hits) (other ∷ others) e due p q =
      let number : hit.member ≡ other.member = next_letter e in
      let found = All-head (IsDue library m query) hit.member (numbers_of hits) due in
      let details = All-head (HasDetails library m query) hit hits p found.0 found.1 in
      let also = All-head (HasDetails library m query) other others q found.0
      (ap (slice_get library.members) (sym number) ∙ found.1) in
      ap₂ ◌∷◌ (same_hit hit other number
      (one_details library.names m found.0.scheme query (details_of hit) (details_of other) details also))
      (same_hits hits others (next_letters e) (All-tail (IsDue library m query) hit.member (numbers_of hits) due)
      (All-tail (HasDetails library m query) hit hits p) (All-tail (HasDetails library m query) other others q))

  pub one_answer : (hits others : List Hit) → AreHits library m query hits → AreHits library m query others
      → hits ≡ others
  one_answer hits others a b =
      same_hits hits others
      (one_list (numbers_of hits) (numbers_of others) a.rising b.rising
      (λ n. (λ has. (b.exact n).1 ((a.exact n).0 has), λ has. (a.exact n).1 ((b.exact n).0 has))))
      (All-weaker (Contains (numbers_of hits)) (IsDue library m query) (λ n has. (a.exact n).0 has) (numbers_of hits)
      (All-contains_itself (numbers_of hits)))
      a.details b.details
