-- Lists with one more at the end.
use Rattle.std.proofs.Common.{◌≡◌, List, [], ◌∷◌, ◌++◌, Option, Some, None, IfSome, IfNone, refl, sym, ap, ◌∙◌, subst}

abbrev front : {A : Type 0} → List A → List A
front [] = []
front (x ∷ []) = []
front (x ∷ y ∷ ys) = x ∷ front (y ∷ ys)

front_append : {A : Type 0} (xs : List A) (x : A) → front (xs ++ x ∷ []) ≡ xs
front_append [] x = refl
front_append (y ∷ []) x = refl
front_append (y ∷ z ∷ zs) x = ap (λ r. y ∷ r) (front_append (z ∷ zs) x)

pub one_front : {A : Type 0} (xs ys : List A) (x y : A) → xs ++ x ∷ [] ≡ ys ++ y ∷ [] → xs ≡ ys
one_front xs ys x y e = sym (front_append xs x) ∙ ap front e ∙ front_append ys y

abbrev HasSome : {A : Type 0} → List A → Type 0
HasSome [] = ⊥
HasSome (x ∷ xs) = Unit {0}

has_last : {A : Type 0} (xs : List A) (x : A) → HasSome (xs ++ x ∷ [])
has_last [] x = tt
has_last (y ∷ ys) x = tt

pub none_with_last : {A : Type 0} (xs : List A) (x : A) → [] ≡ xs ++ x ∷ [] → ⊥
none_with_last xs x e = subst HasSome (sym e) (has_last xs x)

pub popped_front : {A : Type 0} (old new xs : List A) (x : A) (last : Option A) → old ≡ xs ++ x ∷ [] → IfSome last (λ y. old ≡ new ++ y ∷ []) → IfNone last ((old ≡ []) × (new ≡ [])) → new ≡ xs
popped_front old new xs x (Some y) e popped none = one_front new xs y x (sym popped ∙ e)
popped_front old new xs x None e popped none = absurd (none_with_last xs x (sym none.0 ∙ e))
