-- Finding top identifiers among those of the files before and those of the present file.
use Rattle.std.proofs.Common.{◌≡◌, inl, inr, ℕ, ◌&&◌, Bool, true, false, not, if◌then◌else◌, bytes_eq, List, [], ◌∷◌, ◌++◌, length, take, Option, Some, None, refl, sym, ap, ◌∙◌, arith}
use Rattle.std.specs.Option.{option_or}
use Rattle.std.proofs.lemmas.List.{take_all}
use Rattle.elab_rules.specs.declared.detail.Top.{Top}
use Rattle.elab_rules.specs.declared.entry.UnitEntry.{UnitEntry}
use Rattle.elab_rules.specs.declared.tops.Tops.{Tops}
use Rattle.elab_rules.specs.declared.units.Units.{Units}
use Rattle.elab_rules.specs.Details.{IsDetail}
use Rattle.elab_rules.specs.Files.{is_new_unit}
use Rattle.elab_types.specs.Finding.{none_of}
use Rattle.elab_rules.specs.Indexes.{IsSeen}
use Rattle.elab_rules.specs.Tops.{IsTop, IsTopOf}
use Rattle.elab_rules.specs.LookUps.{unit_in}
use Rattle.elab_rules.proofs.DistinctMore.{given_appended}
use Rattle.elab_rules.proofs.SeenEntries.{seen_whole}

none_appended : {A : Type 0} (test : A → Bool) (xs ys : List A) → none_of test (xs ++ ys) ≡ (none_of test xs && none_of test ys)
none_appended test [] ys = refl
none_appended test (x ∷ xs) ys = ap (λ b. not (test x) && b) (none_appended test xs ys) ∙ by_case (not (test x))
  where
    by_case : (b : Bool) → (b && (none_of test xs && none_of test ys)) ≡ ((b && none_of test xs) && none_of test ys)
    by_case true = refl
    by_case false = refl

-- ---- in one list after the other
module _ (before after : List UnitEntry) (id : List ℕ) (count : ℕ) (all : count ≡ length before) where
  whole : take count before ≡ before
  whole = take_all count before (omega (arith, all))

  pub unit_before : (unit : UnitEntry) → Some unit ≡ unit_in id (take count before) → Some unit ≡ unit_in id (before ++ after)
  unit_before unit found =
      sym (given_appended (λ (u : UnitEntry). if bytes_eq id u.id then Some u else None) before after
      ∙ ap (λ o. option_or o (unit_in id after)) (sym (found ∙ ap (unit_in id) whole)))

  pub unit_after : (o : Option UnitEntry) → None ≡ unit_in id (take count before) → o ≡ unit_in id after → o ≡ unit_in id (before ++ after)
  unit_after o none found =
      found
      ∙ sym (given_appended (λ (u : UnitEntry). if bytes_eq id u.id then Some u else None) before after
      ∙ ap (λ p. option_or p (unit_in id after)) (sym (none ∙ ap (unit_in id) whole)))

  new_in_both : is_new_unit id (before ++ after) ≡ (is_new_unit id (take count before) && is_new_unit id after)
  new_in_both = none_appended (λ (u : UnitEntry). bytes_eq id u.id) before after ∙ ap (λ units. is_new_unit id units && is_new_unit id after) (sym whole)

  pub known_before : true ≡ not (is_new_unit id (take count before)) → true ≡ not (is_new_unit id (before ++ after))
  known_before known = by_case (is_new_unit id (take count before)) known ∙ ap not (sym new_in_both)
    where
      by_case : (b : Bool) → true ≡ not b → true ≡ not (b && is_new_unit id after)
      by_case true e = cc
      by_case false e = refl

  pub known_after : (known : Bool) → false ≡ not (is_new_unit id (take count before)) → known ≡ not (is_new_unit id after) → known ≡ not (is_new_unit id (before ++ after))
  known_after known new is = is ∙ by_case (is_new_unit id (take count before)) new ∙ ap not (sym new_in_both)
    where
      by_case : (b : Bool) → false ≡ not b → not (is_new_unit id after) ≡ not (b && is_new_unit id after)
      by_case true e = refl
      by_case false e = cc

-- ---- what is kept beside a unit that was found
top_detail : (units : Units) (top : Top) → IsTop units top → IsDetail top.detail.now top.unit.now
top_detail units top h = units.detailed.each h.place top.detail.now top.unit.now h.detail h.unit

pub top_of_detail : (tops : Tops) (top : Top) → IsTopOf tops top → IsDetail top.detail.now top.unit.now
top_of_detail tops top h = elim h [
  | inl before ↦ top_detail tops.before.now top before
  | inr added ↦ top_detail tops.added.now top added
]

pub top_seen : (tops : Tops) (top : Top) → IsTopOf tops top → IsSeen top.detail.now.index top.unit.now.entries
top_seen tops top h = seen_whole top.detail.now.index top.unit.now.entries (top_of_detail tops top h).indexed
