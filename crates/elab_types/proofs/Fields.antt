-- Fields of record types, and their order.
use Rattle.std.proofs.Common.{◌≡◌, ◌≢◌, ℕ, Bool, true, false, true≢false, not, is_some, if◌then◌else◌, List, [], ◌∷◌, ◌++◌, map, bytes_eq, Option, refl, sym, ap, ◌∙◌}
use Rattle.std.proofs.lemmas.Bool.{and_parts, and_from}
use Rattle.std.proofs.lemmas.List.Elements.{All-cons, All-head, All-nil, All-tail}
use Rattle.std.proofs.lemmas.Slice.Eq.{bytes_eq-Decides}
use Rattle.std.specs.List.{All, AllPairs}
use Rattle.std.specs.Ordering.{is_lt, ordering_reverse}
use Rattle.std.specs.declared.cmp.Ordering.{Ordering}
use Rattle.std.specs.declared.cmp.Ordering.TheVariants.{Less, Equal, Greater}
use Rattle.type_core.specs.declared.ty.Field.{Field}
use Rattle.type_core.specs.Labels.{are_in_order, label_order}
use Rattle.type_core.proofs.LabelOrder.{equal_labels, label_order_total}
use Rattle.elab_types.specs.Finding.{none_of, place_of}
use Rattle.elab_types.specs.Records.{all_inserted, in_label_order, inserted, is_new_label}
use Rattle.elab_types.proofs.FirstPlaces.{none_by_place}
use Rattle.elab_types.proofs.Lists.{pairs_parts}

-- ---- a label that is new
pub is_new_by : (label : List ℕ) (done : List Field) (has : Bool) (place : Option ℕ) → has ≡ is_some place → place ≡ place_of (λ (field : Field). bytes_eq label field.label) done → is_new_label label done ≡ not has
is_new_by label done has place h e = none_by_place (λ (field : Field). bytes_eq label field.label) done ∙ ap (λ o. not (is_some o)) (sym e) ∙ ap not (sym h)

-- a label that is the same is as new
pub fresh_label : (label text : List ℕ) (fields : List Field) → bytes_eq label text ≡ true → is_new_label text fields ≡ true → none_of (λ (field : Field). bytes_eq label field.label) fields ≡ true
fresh_label label text fields same new = ap (λ l. is_new_label l fields) ((bytes_eq-Decides label text).0 same) ∙ new

-- ---- labels
-- the fields have other labels
abbrev pub HaveOther : List ℕ → List Field → Type 0
HaveOther label fields = All (λ field. label ≢ field.label) fields

-- no two fields have one label
abbrev pub AreApart : List Field → Type 0
AreApart fields = AllPairs (λ (a : Field) (b : Field). a.label ≢ b.label) fields

abbrev pub labels : List Field → List (List ℕ)
labels fields = map (λ (field : Field). field.label) fields

-- ---- one field more
module _ (P : Field → Type 0) (field : Field) (h : P field) where
  by_test : (before : Bool) (next : Field) (fields : List Field) → All P (next ∷ fields) → All P (inserted field fields) → All P (if before then field ∷ next ∷ fields else next ∷ inserted field fields)
  by_test true next fields k l = All-cons P field (next ∷ fields) h k
  by_test false next fields k l = All-cons P next (inserted field fields) (All-head P next fields k) l

  all_with : (fields : List Field) → All P fields → All P (inserted field fields)
  all_with [] k = All-cons P field [] h k
  all_with (next ∷ fields) k = by_test (is_lt (label_order field.label next.label)) next fields k (all_with fields (All-tail P next fields k))

pub all_sorted : (P : Field → Type 0) (fields sorted : List Field) → All P fields → All P sorted → All P (all_inserted fields sorted)
all_sorted P [] sorted h k = k
all_sorted P (field ∷ fields) sorted h k = all_with P field (All-head P field fields h) (all_inserted fields sorted) (all_sorted P fields sorted (All-tail P field fields h) k)

-- ---- in order
other_way : (a b : List ℕ) (o : Ordering) → label_order a b ≡ o → is_lt o ≡ false → a ≢ b → is_lt (label_order b a) ≡ true
other_way a b Less e f other = absurd (true≢false f)
other_way a b Equal e f other = absurd (other (equal_labels a b e))
other_way a b Greater e f other = ap is_lt (label_order_total.antisymm b a ∙ ap ordering_reverse e)

-- whether a label comes before the first of these
abbrev leads : List ℕ → List Field → Bool
leads label [] = true
leads label (field ∷ fields) = is_lt (label_order label field.label)

order_from : (field : Field) (fields : List Field) → leads field.label fields ≡ true → are_in_order (labels fields) ≡ true → are_in_order (labels (field ∷ fields)) ≡ true
order_from field [] l h = refl
order_from field (next ∷ fields) l h = and_from _ _ l h

order_parts : (field : Field) (fields : List Field) → are_in_order (labels (field ∷ fields)) ≡ true → (leads field.label fields ≡ true) × (are_in_order (labels fields) ≡ true)
order_parts field [] h = (refl, refl)
order_parts field (next ∷ fields) h = and_parts _ _ h

module _ (field : Field) where
  leads_with : (first : List ℕ) (fields : List Field) → is_lt (label_order first field.label) ≡ true → leads first fields ≡ true → leads first (inserted field fields) ≡ true
  leads_with first [] l h = l
  leads_with first (next ∷ fields) l h = by_case (is_lt (label_order field.label next.label))
    where
      by_case : (before : Bool) → leads first (if before then field ∷ next ∷ fields else next ∷ inserted field fields) ≡ true
      by_case true = l
      by_case false = h

  in_order_with : (fields : List Field) → HaveOther field.label fields → are_in_order (labels fields) ≡ true → are_in_order (labels (inserted field fields)) ≡ true
  in_order_with [] other h = refl
  in_order_with (next ∷ fields) other h =
      let parts = order_parts next fields h in
      by_case (is_lt (label_order field.label next.label)) refl parts.0 (in_order_with fields (All-tail (λ (f : Field). field.label ≢ f.label) next fields other) parts.1)
    where
      by_case : (before : Bool) → is_lt (label_order field.label next.label) ≡ before → leads next.label fields ≡ true → are_in_order (labels (inserted field fields)) ≡ true
          → are_in_order (labels (if before then field ∷ next ∷ fields else next ∷ inserted field fields)) ≡ true
      by_case true e l k = and_from _ _ e h
      by_case false e l k =
          order_from next (inserted field fields)
          (leads_with next.label fields (other_way field.label next.label _ refl e (All-head (λ (f : Field). field.label ≢ f.label) next fields other)) l) k

in_order_all : (fields sorted : List Field) → AreApart fields → All (λ (field : Field). HaveOther field.label sorted) fields → are_in_order (labels sorted) ≡ true → are_in_order (labels (all_inserted fields sorted)) ≡ true
in_order_all [] sorted apart other h = h
in_order_all (field ∷ fields) sorted apart other h =
    let parts = pairs_parts (λ (a : Field) (b : Field). a.label ≢ b.label) field fields apart in
    let P = λ (f : Field). HaveOther f.label sorted in
    in_order_with field (all_inserted fields sorted)
    (all_sorted (λ (f : Field). field.label ≢ f.label) fields sorted parts.0 (All-head P field fields other))
    (in_order_all fields sorted parts.1 (All-tail P field fields other) h)

pub sorted_in_order : (fields : List Field) → AreApart fields → are_in_order (labels (in_label_order fields)) ≡ true
sorted_in_order fields apart = in_order_all fields [] apart (λ k d l. All-nil _) refl
