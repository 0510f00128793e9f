-- The hits among the members that were looked at.
use Rattle.std.proofs.Common.{◌≡◌, ◌≢◌, ℕ, ◌+◌, ◌<◌, ◌≤◌, ◌⊎◌, inl, inr, List, [], ◌∷◌, ◌++◌, length, Some, get_or, slice_get, sym, ap, ◌∙◌, subst, arith}
use Rattle.std.specs.List.{All, AllPairs, Contains}
use Rattle.std.proofs.lemmas.List.{map-append}
use Rattle.std.proofs.lemmas.List.Elements.{All-contains, All-contains_itself, All-cons, All-head, All-nil, All-push, All-tail, All-weaker, Contains-append_left, Contains-push}
use Rattle.std.proofs.lemmas.List.Quantifiers.{all_pairs_push}
use Rattle.std.proofs.lemmas.Bool.Decides.{eqb_tells}
use Rattle.std.proofs.lemmas.Option.{slice_get-get_or, slice_get_within}
use Rattle.type_core.specs.declared.library.Library.{Library}
use Rattle.type_core.specs.declared.member.Member.{Member}
use Rattle.type_core.specs.declared.ty.Scheme.{Scheme}
use Rattle.type_core.specs.ValidLibrary.{IsValidLibrary}
use Rattle.search_core.specs.declared.answer.Mode.{Mode}
use Rattle.search_core.specs.declared.answer.Details.{Details}
use Rattle.search_core.specs.declared.answer.Hit.{Hit}
use Rattle.search_core.specs.Report.{AreMembers}
use Rattle.search_core.specs.Search.{AreDetails, AreHits, CanBeSearched, Finds, HasDetails, IsDue, numbers_of}

-- a valid library can be searched
pub can_be_searched : (library : Library) → IsValidLibrary library → CanBeSearched library
can_be_searched library valid = record {
  schemes = valid.member_schemes;
  types = λ i d l. (valid.member_types i d l).over.is_type;
  sizes = λ i d l. omega (arith, (valid.member_limits i d l).nodes);
  few = omega (arith, valid.member_limit);
}

-- a member that was read
pub stands : (library : Library) (items : List Member) (i : ℕ) (d : Member) → items ≡ library.members → i < length items
    → slice_get library.members i ≡ Some (get_or items i d)
stands library items i d same l =
    subst (λ members. slice_get members i ≡ Some (get_or items i d)) same (slice_get-get_or items i d l)

module _ (library : Library) (m : Mode) (query : Scheme) where
  -- the first so many members were looked at, and these are the hits among them
  pub record AreFound (looked : ℕ) (hits : List Hit) : Type 0 where
    pub rising : AllPairs ◌<◌ (numbers_of hits)
    pub below : All (λ n. n < looked) (numbers_of hits)
    pub due : All (IsDue library m query) (numbers_of hits)
    pub complete : (n : ℕ) → n < looked → IsDue library m query n → Contains (numbers_of hits) n
    pub details : All (HasDetails library m query) hits

  pub found_none : AreFound 0 []
  found_none = record {
    rising = λ i j d l k. absurd (omega (arith, k));
    below = All-nil (λ n. n < 0);
    due = All-nil (IsDue library m query);
    complete = λ n l. absurd (omega (arith, l));
    details = All-nil (HasDetails library m query);
  }

  numbers_push : (hits : List Hit) (hit : Hit) → numbers_of (hits ++ hit ∷ []) ≡ numbers_of hits ++ hit.member ∷ []
  numbers_push hits hit = map-append (λ hit. hit.member) hits (hit ∷ [])

  last_or_before : (n i : ℕ) → n < i + 1 → (n < i) ⊎ (i ≡ n)
  last_or_before n i l = elim (eqb_tells n i) [ inl same ↦ inr (sym same.1) | inr other ↦ inl (less n i l other.1) ]
    where
      less : (n i : ℕ) → n < i + 1 → n ≢ i → n < i
      less n i l d = omega (arith, l, d)

  one_member : (n : ℕ) (a b : Member) → slice_get library.members n ≡ Some a → slice_get library.members n ≡ Some b
      → a ≡ b
  one_member n a b p q = cc (sym p ∙ q)

  below_next : (i : ℕ) (hits : List Hit) → All (λ n. n < i) (numbers_of hits) → All (λ n. n < i + 1) (numbers_of hits)
  below_next i hits below = All-weaker (λ n. n < i) (λ n. n < i + 1) (λ n l. omega (arith, l)) (numbers_of hits) below

  module _ (i : ℕ) (member : Member) (at : slice_get library.members i ≡ Some member) (hits : List Hit)
      (found : AreFound i hits) where
    -- the next member is a hit
    pub found_one : {new : List Hit} (details : Details)
        → new ≡ hits ++ record { member = i; pairing = details.pairing; instance = details.instance; conv = details.conv } ∷ []
        → Finds library.names m member.scheme query × AreDetails library.names m member.scheme query details → AreFound (i + 1) new
    found_one {new} details pushed is =
        let hit : Hit = record { member = i; pairing = details.pairing; instance = details.instance; conv = details.conv } in
        let numbers = numbers_of hits in
        let all : numbers_of new ≡ numbers ++ i ∷ [] = ap numbers_of pushed ∙ numbers_push hits hit in
        record {
          rising = subst (AllPairs ◌<◌) (sym all) (all_pairs_push ◌<◌ numbers i found.rising found.below);
          below = subst (All (λ n. n < i + 1)) (sym all)
              (All-push (λ n. n < i + 1) numbers i (below_next i hits found.below) (omega arith));
          due = subst (All (IsDue library m query)) (sym all)
              (All-push (IsDue library m query) numbers i found.due (member, at, is.0));
          complete = λ n l due. subst (λ all. Contains all n) (sym all) (elim (last_or_before n i l) [
            | inl before ↦ Contains-append_left numbers (i ∷ []) n (found.complete n before due)
            | inr last ↦ subst (Contains (numbers ++ i ∷ [])) last (Contains-push numbers i)
          ]);
          details =
              subst (All (HasDetails library m query)) (sym pushed)
              (All-push (HasDetails library m query) hits hit found.details
              (λ other there. subst (λ (other : Member). AreDetails library.names m other.scheme query details)
              (one_member i member other at there) is.1));
        }

    -- the next member is none
    pub found_other : {new : List Hit} → new ≡ hits → ¬ (Finds library.names m member.scheme query)
        → AreFound (i + 1) new
    found_other {new} kept apart = subst (AreFound (i + 1)) (sym kept) (record {
      rising = found.rising;
      below = below_next i hits found.below;
      due = found.due;
      complete = λ n l is. elim (last_or_before n i l) [
        | inl before ↦ found.complete n before is
        | inr last ↦ absurd
            (apart (subst (λ (member : Member). Finds library.names m member.scheme query)
            (one_member i is.0 member (ap (slice_get library.members) last ∙ is.1) at) is.2))
      ];
      details = found.details;
    })

  pub all_found : (items : List Member) (looked : ℕ) (hits : List Hit) → items ≡ library.members → length items ≤ looked
      → AreFound looked hits → AreHits library m query hits
  all_found items looked hits same l found = record {
    rising = found.rising;
    exact = λ n. (
      λ has. All-contains (IsDue library m query) (numbers_of hits) n found.due has,
      λ is. found.complete n (omega (arith, l, ap length same, slice_get_within library.members n is.0 is.1)) is,
    );
    details = found.details;
  }

  -- hits are members
  each_number : (P : ℕ → Type 0) (hits : List Hit) → All P (numbers_of hits) → All (λ hit. P hit.member) hits
  each_number P [] h = All-nil (λ hit. P hit.member)
  each_number P (hit ∷ hits) h =
      All-cons (λ hit. P hit.member) hit hits (All-head P hit.member (numbers_of hits) h)
      (each_number P hits (All-tail P hit.member (numbers_of hits) h))

  pub are_members : (hits : List Hit) → AreHits library m query hits → AreMembers library hits
  are_members hits are =
      each_number (λ n. n < length library.members) hits
      (All-weaker (Contains (numbers_of hits)) (λ n. n < length library.members)
      (λ n has. let due = (are.exact n).0 has in slice_get_within library.members n due.0 due.1) (numbers_of hits)
      (All-contains_itself (numbers_of hits)))
