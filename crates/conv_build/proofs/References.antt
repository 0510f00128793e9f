-- References, one after the other.
use Rattle.std.proofs.Common.{◌≡◌, ℕ, ◌+◌, ◌-◌, ◌<◌, List, [], ◌∷◌, ◌++◌, sym, ap, ◌∙◌, arith, suc}
use Rattle.std.proofs.lemmas.List.{append_assoc}
use Rattle.type_core.specs.declared.ty.Ty.{Ty}
use Rattle.conv_build.specs.direct.References.{Reference, references_from, referring}

pub next_pushed : (all after : List Reference) (level : ℕ) (of : Ty) (place count : ℕ) (r : Reference) (whole : List Reference) → place < count → r ≡ referring level of place → after ≡ all ++ r ∷ []
    → all ++ references_from level of place (count - place) ≡ whole → after ++ references_from level of (place + 1) (count - (place + 1)) ≡ whole
next_pushed all after level of place count r whole less is pushed so_far =
    let left : count - place ≡ suc (count - (place + 1)) = omega (arith, less) in
    ap (λ x. x ++ references_from level of (place + 1) (count - (place + 1))) (pushed ∙ ap (λ r. all ++ r ∷ []) is)
    ∙ append_assoc all (referring level of place ∷ []) (references_from level of (place + 1) (count - (place + 1)))
    ∙ ap (λ n. all ++ references_from level of place n) (sym left) ∙ so_far
