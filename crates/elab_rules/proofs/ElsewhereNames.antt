-- The first parts of the paths of names from elsewhere, as they are collected.
use Rattle.std.proofs.Common.{◌≡◌, ℕ, ◌+◌, ◌&&◌, ◌||◌, Bool, true, false, not, List, [], ◌∷◌, ◌++◌, take, slice_get, Some, sym, ap, ◌∙◌}
use Rattle.std.proofs.lemmas.List.{take_more}
use Rattle.std.proofs.lemmas.Option.{get_or_from_slice_get, slice_get_within}
use Rattle.type_core.specs.declared.names.TypeName.{TypeName}
use Rattle.elab_rules.specs.Files.{is_first_part, is_from}
use Rattle.elab_types.specs.Finding.{none_of}
use Rattle.elab_rules.proofs.Tracked.{and_true, none_more, not_both}

-- ---- one name more that was looked at
taken_more : (names : List TypeName) (n : ℕ) (name : TypeName) → slice_get names n ≡ Some name → (id : List ℕ) → none_of (is_from id) (take (n + 1) names) ≡ (none_of (is_from id) (take n names) && not (is_from id name))
taken_more names n name at id =
    ap (none_of (is_from id)) (take_more names n name (slice_get_within names n name at) ∙ ap (λ x. take n names ++ x ∷ []) (get_or_from_slice_get names n name name at))
    ∙ none_more (is_from id) (take n names) name

pub own_passed : (names : List TypeName) (n : ℕ) (name : TypeName) (id : List ℕ) (found : Bool) → slice_get names n ≡ Some name → name.external ≡ false → found ≡ not (none_of (is_from id) (take n names)) → found ≡ not (none_of (is_from id) (take (n + 1) names))
own_passed names n name id found at own so_far =
    so_far ∙ ap not (sym (taken_more names n name at id ∙ ap (λ b. none_of (is_from id) (take n names) && not (b && is_first_part id name.path)) own ∙ and_true (none_of (is_from id) (take n names))))

pub external_passed : (names : List TypeName) (n : ℕ) (name : TypeName) (id : List ℕ) (before now : Bool) → slice_get names n ≡ Some name → name.external ≡ true → before ≡ not (none_of (is_from id) (take n names)) → now ≡ (before || is_first_part id name.path)
    → now ≡ not (none_of (is_from id) (take (n + 1) names))
external_passed names n name id before now at external so_far is =
    is ∙ ap (λ b. b || is_first_part id name.path) so_far ∙ not_both (none_of (is_from id) (take n names)) (is_first_part id name.path)
    ∙ ap not (sym (taken_more names n name at id ∙ ap (λ b. none_of (is_from id) (take n names) && not (b && is_first_part id name.path)) external))
