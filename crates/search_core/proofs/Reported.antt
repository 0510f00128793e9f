-- The entries of the hits that were written.
use Rattle.std.proofs.Common.{◌≡◌, ℕ, ◌+◌, ◌<◌, Bool, true, false, if◌then◌else◌, List, [], ◌∷◌, ◌++◌, length, take, Some, get_or, slice_get, Result, Ok, Err, OnOk, sym, ap, ap₂, ◌∙◌, subst, append-nil, append_assoc}
use Rattle.std.specs.List.{flat_map}
use Rattle.std.proofs.lemmas.List.{take_more}
use Rattle.std.proofs.lemmas.List.Concat.{flat_map-append}
use Rattle.std.proofs.lemmas.Option.{slice_get-get_or}
use Rattle.type_core.specs.declared.library.Library.{Library}
use Rattle.type_core.specs.declared.member.Member.{Member}
use Rattle.search_core.specs.declared.answer.Hit.{Hit}
use Rattle.search_core.specs.Search.{details_of}
use Rattle.search_core.specs.Report.{AreMembers, detail_lines, entry_text, line_of, member_line}

-- one more piece
piece_more : {A : Type 0} (f : A → List ℕ) (xs : List A) (i : ℕ) (d : A) → i < length xs
    → flat_map f (take (i + 1) xs) ≡ flat_map f (take i xs) ++ f (get_or xs i d)
piece_more f xs i d l =
    ap (flat_map f) (take_more xs i d l) ∙ flat_map-append f (take i xs) (get_or xs i d ∷ [])
    ∙ ap (λ last. flat_map f (take i xs) ++ last) (append-nil (f (get_or xs i d)))

-- the line of a member that was read
pub line_is : (library : Library) (members : List Member) (n : ℕ) (member : Member) → members ≡ library.members
    → n < length library.members → member ≡ get_or members n member
    → line_of library.names (slice_get library.members n) ≡ member_line library.names member
line_is library members n member all l is =
    ap (line_of library.names)
    (slice_get-get_or library.members n member l ∙ ap Some (sym (is ∙ ap (λ members. get_or members n member) all)))

module _ (library : Library) (names_only : Bool) where
  -- the line of a hit's member and what is shown besides are its entry
  entry_is : (hit : Hit) (members : List Member) (member : Member) (shown : List ℕ) → members ≡ library.members
      → hit.member < length library.members → member ≡ get_or members hit.member member
      → shown ≡ (if names_only then [] else detail_lines library.names (details_of hit))
      → member_line library.names member ++ shown ≡ entry_text library names_only hit
  entry_is hit members member shown all l is same =
      ap₂ ◌++◌ (sym (line_is library members hit.member member all l is)) same

  -- an entry of which only the name is written
  pub name_pushed : (hit : Hit) (members : List Member) (member : Member) (before last : List ℕ) → names_only ≡ true
      → members ≡ library.members → hit.member < length library.members → member ≡ get_or members hit.member member
      → last ≡ before ++ member_line library.names member → last ≡ before ++ entry_text library names_only hit
  name_pushed hit members member before last is_so all l is line =
      let none : [] ≡ (if names_only then [] else detail_lines library.names (details_of hit)) =
      sym (ap (λ b. if b then [] else detail_lines library.names (details_of hit)) is_so) in
      line ∙ ap (λ text. before ++ text)
      (sym (append-nil (member_line library.names member)) ∙ entry_is hit members member [] all l is none)

  -- an entry that is written whole
  pub entry_pushed : {A E : Type 0} (hit : Hit) (members : List Member) (member : Member)
      (before between last : List ℕ) (result : Result A E) → names_only ≡ false
      → members ≡ library.members → hit.member < length library.members → member ≡ get_or members hit.member member
      → between ≡ before ++ member_line library.names member
      → OnOk result (last ≡ between ++ detail_lines library.names (details_of hit))
      → OnOk result (last ≡ before ++ entry_text library names_only hit)
  entry_pushed hit members member before between last (Err e) whole all l is line lines = tt
  entry_pushed hit members member before between last (Ok x) whole all l is line lines =
      let more : List ℕ = detail_lines library.names (details_of hit) in
      let shown : more ≡ (if names_only then [] else more) = sym (ap (λ b. if b then [] else more) whole) in
      lines ∙ ap (λ text. text ++ more) line ∙ append_assoc before (member_line library.names member) more
      ∙ ap (λ text. before ++ text) (entry_is hit members member more all l is shown)

  module _ (hits items : List Hit) (i : ℕ) (hit : Hit) (same : items ≡ hits) (l : i < length items)
      (is : hit ≡ get_or items i hit) where
    inside : i < length hits
    inside = subst (λ hits. i < length hits) same l

    one : hit ≡ get_or hits i hit
    one = is ∙ ap (λ hits. get_or hits i hit) same

    -- the hit's member is the library's
    pub is_member : AreMembers library hits → hit.member < length library.members
    is_member within = subst (λ (hit : Hit). hit.member < length library.members) (sym one) (within i hit inside)

    -- one more entry
    pub entry_more : (text new : List ℕ) → text ≡ flat_map (entry_text library names_only) (take i hits)
        → new ≡ text ++ entry_text library names_only hit
        → new ≡ flat_map (entry_text library names_only) (take (i + 1) hits)
    entry_more text new before pushed =
        let f : Hit → List ℕ = entry_text library names_only in
        pushed ∙ ap (λ text. text ++ f hit) before ∙ ap (λ (hit : Hit). flat_map f (take i hits) ++ f hit) one
        ∙ sym (piece_more f hits i hit inside)
