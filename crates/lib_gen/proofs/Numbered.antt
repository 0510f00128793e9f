-- Members under the numbers of their schemes.
use Rattle.std.proofs.Common.{◌≡◌, ◌⊎◌, inl, inr, ℕ, ◌+◌, ◌<◌, ◌≤◌, List, [], ◌∷◌, ◌++◌, length, Some, None, get_or, slice_get, refl, sym, ap, ◌∙◌, subst, arith}
use Rattle.std.specs.List.{All}
use Rattle.std.proofs.lemmas.List.{get_or_append_left, get_or_push, length-append}
use Rattle.std.proofs.lemmas.List.Elements.{All-nil, All-push}
use Rattle.std.proofs.lemmas.Bool.Decides.{eqb_tells}
use Rattle.std.proofs.lemmas.Option.{get_or_from_slice_get, slice_get-get_or, slice_get_cases, slice_get_read, slice_get_within}
use Rattle.type_core.specs.declared.library.Library.{Library}
use Rattle.type_core.specs.declared.member.Member.{Member}
use Rattle.type_core.specs.declared.ty.Scheme.{Scheme}
use Rattle.type_core.specs.ValidLibrary.{IsValidLibrary}
use Rattle.search_core.specs.Search.{CanBeSearchedFor}
use Rattle.lib_gen.specs.declared.classes.Classes.{Classes}
use Rattle.lib_gen.specs.Classes.{AreClasses, AreNumbered, HasNumber, HasScheme, IsSearchable, MayGain}

-- what stands at a place stays there
kept_at : {A : Type 0} (xs ys : List A) (k : ℕ) (x : A) → slice_get xs k ≡ Some x → slice_get (xs ++ ys) k ≡ Some x
kept_at xs ys k x at =
    let l = slice_get_within xs k x at in
    slice_get_read (xs ++ ys) (length (xs ++ ys)) k x refl (omega (arith, l, length-append xs ys))
    (sym (get_or_append_left xs ys x k l ∙ get_or_from_slice_get xs k x x at))

pub pushed_at : {A : Type 0} (xs : List A) (x : A) (k : ℕ) → length xs ≡ k → slice_get (xs ++ x ∷ []) k ≡ Some x
pushed_at xs x k at =
    slice_get_read (xs ++ x ∷ []) (length (xs ++ x ∷ [])) k x refl (omega (arith, at, length-append xs (x ∷ [])))
    (sym (get_or_push xs x x k at))

pub same_at : {A : Type 0} (xs : List A) (k : ℕ) (a b : A) → slice_get xs k ≡ Some a → slice_get xs k ≡ Some b → a ≡ b
same_at xs k a b p q = cc (sym p ∙ q)

module _ (scheme : Scheme) (before now : List Member) where
  still_has : (k : ℕ) (other : Scheme) → MayGain scheme before now → HasScheme before k other → HasScheme now k other
  still_has k other (inl same) has = subst (λ members. HasScheme members k other) (sym same) has
  still_has k other (inr (member, gained, is)) has = subst (λ members. HasScheme members k other) (sym gained) (record {
    member = has.member;
    there = kept_at before (member ∷ []) k has.member has.there;
    same = has.same;
  })

  still_few : (i : ℕ) → MayGain scheme before now → length before ≤ i → length now ≤ i + 1
  still_few i (inl same) few = omega (arith, few, ap length same)
  still_few i (inr (member, gained, is)) few = omega (arith, few, ap length gained, length-append before (member ∷ []))

  still_searchable : MayGain scheme before now → IsSearchable scheme → All (λ member. IsSearchable member.scheme) before
      → All (λ member. IsSearchable member.scheme) now
  still_searchable (inl same) one all = subst (All (λ member. IsSearchable member.scheme)) (sym same) all
  still_searchable (inr (member, gained, is)) one all =
      subst (All (λ member. IsSearchable member.scheme)) (sym gained)
      (All-push (λ (member : Member). IsSearchable member.scheme) before member all (subst IsSearchable (sym is) one))

module _ (library : Library) where
  pub none_numbered : (numbers : List ℕ) (members : List Member) → numbers ≡ [] → members ≡ [] → AreNumbered library 0 numbers members
  none_numbered numbers members empty also = record {
    all = ap length empty;
    few = omega (arith, ap length also);
    searchable = subst (All (λ member. IsSearchable member.scheme)) (sym also) (All-nil (λ (member : Member). IsSearchable member.scheme));
    each = λ n member l. absurd (omega (arith, l));
  }

  module _ (i : ℕ) (member : Member) (at : slice_get library.members i ≡ Some member) (numbers more : List ℕ)
      (before now : List Member) (sums : AreNumbered library i numbers before) (k : ℕ) (pushed : more ≡ numbers ++ k ∷ [])
      (gained : MayGain member.scheme before now) (has : HasScheme now k member.scheme) where
    each_so_far : (n : ℕ) (other : Member) → n < i + 1 → slice_get library.members n ≡ Some other → HasNumber more now n other.scheme
    each_so_far n other l there = elim (eqb_tells n i) [ inl same ↦ last same.1 | inr apart ↦ earlier (less n i l apart.1) ]
      where
        less : (n i : ℕ) → n < i + 1 → (n ≡ i → ⊥) → n < i
        less n i l d = omega (arith, l, d)

        last : n ≡ i → HasNumber more now n other.scheme
        last same = record {
          number = k;
          listed = ap (λ ks. slice_get ks n) pushed ∙ pushed_at numbers k n (sums.all ∙ sym same);
          has = subst (λ (found : Member). HasScheme now k found.scheme)
              (same_at library.members n member other (ap (slice_get library.members) same ∙ at) there) has;
        }

        earlier : n < i → HasNumber more now n other.scheme
        earlier l =
            let old = sums.each n other l there in
            record {
              number = old.number;
              listed = ap (λ ks. slice_get ks n) pushed ∙ kept_at numbers (k ∷ []) n old.number old.listed;
              has = still_has member.scheme before now old.number other.scheme gained old.has;
            }

    -- the next member has its number
    pub one_numbered : IsSearchable member.scheme → AreNumbered library (i + 1) more now
    one_numbered is = record {
      all = ap length pushed ∙ length-append numbers (k ∷ []) ∙ ap (λ n. n + 1) sums.all;
      few = still_few member.scheme before now i gained sums.few;
      searchable = still_searchable member.scheme before now gained is sums.searchable;
      each = each_so_far;
    }

  -- the number at a member's place is that of one that has its scheme
  pub class_tells : (classes : Classes) (n class : ℕ) → AreClasses library classes → slice_get classes.numbers n ≡ Some class
      → (member : Member) × (slice_get library.members n ≡ Some member) × HasScheme classes.schemes.members class member.scheme
  class_tells classes n class are listed = go (slice_get_cases library.members n).1
    where
      within : n < length library.members
      within = omega (arith, slice_get_within classes.numbers n class listed, are.numbered.all)

      tells : (member : Member) → slice_get library.members n ≡ Some member → HasScheme classes.schemes.members class member.scheme
      tells member at =
          let number = are.numbered.each n member within at in
          subst (λ k. HasScheme classes.schemes.members k member.scheme)
          (same_at classes.numbers n number.number class number.listed listed) number.has

      go : ((x : Member) × (n < length library.members) × (slice_get library.members n ≡ Some x) × (get_or library.members n x ≡ x))
          ⊎ ((length library.members ≤ n) × (slice_get library.members n ≡ None))
          → (member : Member) × (slice_get library.members n ≡ Some member) × HasScheme classes.schemes.members class member.scheme
      go (inl (member, l, at, same)) = (member, at, tells member at)
      go (inr (past, none)) = absurd (omega (arith, past, within))

  -- a member of a valid library can be searched for
  pub member_searchable : (i : ℕ) (member : Member) → IsValidLibrary library → slice_get library.members i ≡ Some member
      → IsSearchable member.scheme
  member_searchable i member valid at =
      let l = slice_get_within library.members i member at in
      subst (λ (found : Member). IsSearchable found.scheme) (get_or_from_slice_get library.members i member member at) (record {
        query = record {
          scheme = valid.member_schemes i member l;
          type = (valid.member_types i member l).over.is_type;
          normal_limit = valid.normal_limits i member l;
        };
        size = omega (arith, (valid.member_limits i member l).nodes);
      })

  -- a member that was read
  pub stands : (items : List Member) (i : ℕ) (d : Member) → items ≡ library.members → i < length items
      → slice_get library.members i ≡ Some (get_or items i d)
  stands items i d same l =
      subst (λ members. slice_get members i ≡ Some (get_or items i d)) same (slice_get-get_or items i d l)

  pub all_numbered : (items : List Member) (i : ℕ) (numbers : List ℕ) (members : List Member) → items ≡ library.members
      → length items ≤ i → i ≤ length items → AreNumbered library i numbers members
      → AreNumbered library (length library.members) numbers members
  all_numbered items i numbers members same l m sums =
      let is : i ≡ length library.members = omega (arith, l, m, ap length same) in
      subst (λ n. AreNumbered library n numbers members) is sums

  pub are_classes : (classes : Classes) → IsValidLibrary library → classes.schemes.names ≡ library.names
      → AreNumbered library (length library.members) classes.numbers classes.schemes.members → AreClasses library classes
  are_classes classes valid names numbered = record {
    names = names;
    numbered = numbered;
    searched = record {
      schemes = λ k d l. (numbered.searchable k d l).query.scheme;
      types = λ k d l. (numbered.searchable k d l).query.type;
      sizes = λ k d l. (numbered.searchable k d l).size;
      few = omega (arith, numbered.few, valid.member_limit);
    };
  }

  pub class_searchable : (classes : Classes) (class : ℕ) (member : Member) → AreClasses library classes
      → slice_get classes.schemes.members class ≡ Some member → CanBeSearchedFor member.scheme
  class_searchable classes class member are at =
      let l = slice_get_within classes.schemes.members class member at in
      subst (λ (found : Member). CanBeSearchedFor found.scheme)
      (get_or_from_slice_get classes.schemes.members class member member at) (are.numbered.searchable class member l).query
