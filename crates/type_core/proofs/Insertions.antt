-- Fields that are put in their places one by one.
use Rattle.std.proofs.Common.{◌≡◌, ℕ, List, [], ◌∷◌, ◌++◌, insert, refl, sym, ap, ◌∙◌}
use Rattle.type_core.specs.declared.ty.Field.{Field}
use Rattle.type_core.specs.Records.{all_inserted, inserted}

-- the last field is inserted first
pub inserted_last : (fields sorted : List Field) (field : Field) → all_inserted (fields ++ field ∷ []) sorted ≡ all_inserted fields (inserted field sorted)
inserted_last [] sorted field = refl
inserted_last (first ∷ fields) sorted field = ap (inserted first) (inserted_last fields sorted field)

-- a field put in its place
pub one_inserted : (rest all sorted items given : List Field) (field : Field) (place : ℕ) (whole : List Field) → items ≡ insert sorted place field → given ≡ sorted → inserted field given ≡ insert given place field
    → all ≡ rest ++ field ∷ [] → all_inserted all sorted ≡ whole → all_inserted rest items ≡ whole
one_inserted rest all sorted items given field place whole i g n a w =
    ap (all_inserted rest) (i ∙ ap (λ xs. insert xs place field) (sym g) ∙ sym n ∙ ap (inserted field) g)
    ∙ sym (inserted_last rest sorted field)
    ∙ ap (λ fields. all_inserted fields sorted) (sym a)
    ∙ w
