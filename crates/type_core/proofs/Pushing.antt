-- What one more push makes.
use Rattle.std.proofs.Common.{◌≡◌, List, [], ◌∷◌, ◌++◌, ap, ◌∙◌, append_assoc}

pub push_after : {A : Type 0} (all : List A) (xs : List A) {new old : List A} (x : A) → old ≡ all ++ xs → new ≡ old ++ x ∷ [] → new ≡ all ++ (xs ++ x ∷ [])
push_after all xs x e f = f ∙ ap (λ z. z ++ x ∷ []) e ∙ append_assoc all xs (x ∷ [])
