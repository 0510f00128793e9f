-- A list after one more push.
use Rattle.std.proofs.Common.{◌≡◌, List, [], ◌∷◌, ◌++◌, ap, ◌∙◌, append_assoc}

pub further : {A : Type 0} (start pushed : List A) {before now : List A} (x : A) → before ≡ start ++ pushed → now ≡ before ++ x ∷ [] → now ≡ start ++ (pushed ++ x ∷ [])
further start pushed x e f = f ∙ ap (λ xs. xs ++ x ∷ []) e ∙ append_assoc start pushed (x ∷ [])
