-- What holds of each value of a list.
use Rattle.std.proofs.Common.{◌≡◌, ◌&&◌, Bool, true, false, true≢false, if◌then◌else◌, List, [], ◌∷◌, ◌++◌, map, refl, sym}
use Rattle.type_core.specs.declared.ty.VarId.{VarId}
use Rattle.type_core.specs.Lists.{all_true, concatenated}
use Rattle.type_core.specs.Variables.{meet, meet_all, occurs}
use Rattle.type_core.proofs.Places.{occurs_here, occurs_later}
use Rattle.type_core.proofs.Trees.{EachOf}

pub both : (x y : Bool) → (x && y) ≡ true → (x ≡ true) × (y ≡ true)
both true y e = (refl, e)
both false y e = absurd (true≢false (sym e))

module _ {A : Type 0} (P : A → Type 0) where
  pub each_appended : (xs ys : List A) → EachOf P xs → EachOf P ys → EachOf P (xs ++ ys)
  each_appended [] ys p q = q
  each_appended (x ∷ xs) ys p q = (p.0, each_appended xs ys p.1 q)

  pub each_left : (xs ys : List A) → EachOf P (xs ++ ys) → EachOf P xs
  each_left [] ys p = tt
  each_left (x ∷ xs) ys p = (p.0, each_left xs ys p.1)

  pub each_right : (xs ys : List A) → EachOf P (xs ++ ys) → EachOf P ys
  each_right [] ys p = p
  each_right (x ∷ xs) ys p = each_right xs ys p.1

  pub each_concatenated : {B : Type 0} (f : B → List A) (bs : List B) → EachOf (λ b. EachOf P (f b)) bs
      → EachOf P (concatenated (map f bs))
  each_concatenated f [] p = tt
  each_concatenated f (b ∷ bs) p = each_appended (f b) (concatenated (map f bs)) p.0 (each_concatenated f bs p.1)

  pub each_true : (is : A → Bool) → ((x : A) → is x ≡ true → P x) → (xs : List A) → all_true (map is xs) ≡ true
      → EachOf P xs
  each_true is h [] e = tt
  each_true is h (x ∷ xs) e = let b = both (is x) (all_true (map is xs)) e in (h x b.0, each_true is h xs b.1)

  pub each_weaker : (Q : A → Type 0) → ((x : A) → P x → Q x) → (xs : List A) → EachOf P xs → EachOf Q xs
  each_weaker Q h [] p = tt
  each_weaker Q h (x ∷ xs) p = (h x p.0, each_weaker Q h xs p.1)

pub each_both : {A : Type 0} (P Q : A → Type 0) (xs : List A) → EachOf P xs → EachOf Q xs → EachOf (λ x. P x × Q x) xs
each_both P Q [] p q = tt
each_both P Q (x ∷ xs) p q = ((p.0, q.0), each_both P Q xs p.1 q.1)

module _ (P : VarId → Type 0) where
  pub each_occurring : (vs : List VarId) → ((v : VarId) → occurs v vs ≡ true → P v) → EachOf P vs
  each_occurring [] h = tt
  each_occurring (v ∷ vs) h = (h v (occurs_here v vs), each_occurring vs (λ w o. h w (occurs_later w v vs o)))

  each_meeting : (met : List VarId) (v : VarId) (is_old : Bool) → EachOf P met → P v
      → EachOf P (if is_old then met else met ++ v ∷ [])
  each_meeting met v true p q = p
  each_meeting met v false p q = each_appended P met (v ∷ []) p (q, tt)

  pub each_met : (met vs : List VarId) → EachOf P met → EachOf P vs → EachOf P (meet_all met vs)
  each_met met [] p q = p
  each_met met (v ∷ vs) p q = each_met (meet met v) vs (each_meeting met v (occurs v met) p q.0) q.1
