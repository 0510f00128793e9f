-- What stands along the parts of a text, part by part.
use Rattle.std.proofs.Common.{◌≡◌, ℕ, ◌+◌, ◌==◌, Bool, true, false, if◌then◌else◌, List, [], ◌∷◌, drop, take, Some, None, refl, sym, ap, ◌∙◌}
use Rattle.std.specs.Option.{option_and_then}
use Rattle.type_core.specs.declared.names.TypeName.{TypeName}
use Rattle.type_core.specs.Types.{IsOver}
use Rattle.elab_rules.specs.Environments.{Environment, structure_in}
use Rattle.sig_base.specs.LongIdentifiers.{parts, with_first}
use Rattle.elab_rules.specs.LongIdentifiers.{structure_along, type_along}
use Rattle.elab_rules.specs.Standing.{AreOver}
use Rattle.elab_rules.proofs.FoundOver.{structure_in_over}

-- there is a first part
some_part : (text : List ℕ) → (part : List ℕ) × ((rest : List (List ℕ)) × (parts text ≡ part ∷ rest))
some_part [] = ([], ([], refl))
some_part (b ∷ text) = by_case (b == 46) (some_part text)
  where
    by_case : (dot : Bool) → (part : List ℕ) × ((rest : List (List ℕ)) × (parts text ≡ part ∷ rest))
        → (part : List ℕ) × ((rest : List (List ℕ)) × ((if dot then [] ∷ parts text else with_first b (parts text)) ≡ part ∷ rest))
    by_case true some = ([], (parts text, refl))
    by_case false some = (b ∷ some.0, (some.1.0, ap (with_first b) some.1.1))

-- ---- a text with a dot at a place
module _ (path id rest : List ℕ) (dot : ℕ) (env : Environment) (first : id ≡ take dot path) (later : rest ≡ drop (dot + 1) path) (dotted : parts path ≡ take dot path ∷ parts (drop (dot + 1) path)) where
  parts_are : parts path ≡ id ∷ parts rest
  parts_are = dotted ∙ ap (λ t. t ∷ parts (drop (dot + 1) path)) (sym first) ∙ ap (λ t. id ∷ parts t) (sym later)

  type_beyond : type_along (parts path) env ≡ option_and_then (type_along (parts rest)) (structure_in id env)
  type_beyond =
      let some = some_part rest in
      ap (λ ps. type_along ps env) parts_are ∙ ap (λ ps. type_along (id ∷ ps) env) some.1.1
      ∙ ap (λ ps. option_and_then (type_along ps) (structure_in id env)) (sym some.1.1)

  pub no_type_beyond : None ≡ structure_in id env → None ≡ type_along (parts path) env
  no_type_beyond none = ap (option_and_then (type_along (parts rest))) none ∙ sym type_beyond

  pub type_further : (inner : Environment) → Some inner ≡ structure_in id env → type_along (parts rest) inner ≡ type_along (parts path) env
  type_further inner found = ap (option_and_then (type_along (parts rest))) found ∙ sym type_beyond

  structure_beyond : structure_along (parts path) env ≡ option_and_then (structure_along (parts rest)) (structure_in id env)
  structure_beyond = ap (λ ps. structure_along ps env) parts_are

  pub structure_further : (inner : Environment) → Some inner ≡ structure_in id env → structure_along (parts rest) inner ≡ structure_along (parts path) env
  structure_further inner found = ap (option_and_then (structure_along (parts rest))) found ∙ sym structure_beyond

-- what a structure has is over the names that its environment is over
pub further_over : (names : List TypeName) (id : List ℕ) (env inner : Environment) → Some inner ≡ structure_in id env → AreOver names env → AreOver names inner
further_over names id env inner found over = structure_in_over (IsOver names) id inner env over (sym found)
