-- Substitution depends only on what stands in place of the variables that occur.
use Rattle.std.proofs.Common.{◌≡◌, ℕ, zero, suc, ◌+◌, ◌<◌, ◌==◌, Bool, true, not, List, [], ◌∷◌, ◌++◌, drop, get_or, length, map, slice_get, refl, sym, ap, ◌∙◌, subst, arith}
use Rattle.std.proofs.lemmas.List.{append_assoc, drop_more, length-append}
use Rattle.type_core.specs.declared.ty.VarId.{VarId}
use Rattle.type_core.specs.declared.ty.Ty.{Ty}
use Rattle.type_core.specs.declared.ty.Ty.TheVariants as ty
use Rattle.type_core.specs.Substitution.{each_variable, or_variable, substituted}
use Rattle.type_core.proofs.Trees.{each_variable_var, substituted_con, substituted_var}
use Rattle.elab_env.specs.Lacks.{is_other, lacks}
use Rattle.elab_env.proofs.Parts.{agree}
use Rattle.elab_env.proofs.Equations.{substituted_inside, variables_partwise}

-- what agrees at each variable that passes a test makes one type of a type whose variables pass it
pub substituted_alike : (is : VarId → Bool) (by others : List Ty) → ((v : VarId) → is v ≡ true → slice_get by v.n ≡ slice_get others v.n) → (t : Ty) → each_variable is t ≡ true → substituted by t ≡ substituted others t
substituted_alike is by others alike = agree (each_variable is) (substituted by) (substituted others) (variables_partwise is) (substituted_inside by) (substituted_inside others)
    (λ v e. substituted_var by v ∙ ap (or_variable v) (alike v (sym (each_variable_var is v) ∙ e)) ∙ sym (substituted_var others v))
    (λ name ts e h. substituted_con by name ts ∙ ap (ty.Con name) h ∙ sym (substituted_con others name ts))

other_number : (m n : ℕ) → not (m == n) ≡ true → m ≡ n → ⊥
other_number m n e = grind (arith, e)

elsewhere : (xs ys : List Ty) (a b : Ty) (n : ℕ) → (n ≡ length xs → ⊥) → slice_get (xs ++ a ∷ ys) n ≡ slice_get (xs ++ b ∷ ys) n
elsewhere [] ys a b zero other = absurd (other refl)
elsewhere [] ys a b (suc n) other = refl
elsewhere (x ∷ xs) ys a b zero other = refl
elsewhere (x ∷ xs) ys a b (suc n) other = elsewhere xs ys a b n (λ e. other (ap suc e))

-- what stands in place of a variable that doesn't occur makes no difference
pub unused : (xs ys : List Ty) (a b t : Ty) → lacks (length xs) t ≡ true → substituted (xs ++ a ∷ ys) t ≡ substituted (xs ++ b ∷ ys) t
unused xs ys a b t = substituted_alike (is_other (length xs)) (xs ++ a ∷ ys) (xs ++ b ∷ ys) (λ v other. elsewhere xs ys a b v.n (other_number v.n (length xs) other)) t

-- ---- one argument more
pub one_longer : (done next : List Ty) (n : ℕ) (a : Ty) → next ≡ done ++ a ∷ [] → length done ≡ n → length next ≡ n + 1
one_longer done next n a pushed count = ap length pushed ∙ length-append done (a ∷ []) ∙ ap (λ k. k + 1) count

module _ (f : Ty → Ty) (ts : List Ty) (t : Ty) where
  -- what is done, and f of the rest, make of the type what f of all makes of it
  abbrev pub StandsForAll : List Ty → ℕ → Type 0
  StandsForAll done n = substituted (done ++ map f (drop n ts)) t ≡ substituted (map f ts) t

  module _ (done next : List Ty) (n : ℕ) (x a : Ty) (within : n < length ts) (is : x ≡ get_or ts n x) (pushed : next ≡ done ++ a ∷ []) (so_far : StandsForAll done n) where
    one_more : substituted (done ++ a ∷ map f (drop (n + 1) ts)) t ≡ substituted (done ++ f x ∷ map f (drop (n + 1) ts)) t → StandsForAll next (n + 1)
    one_more same =
        ap (λ us. substituted (us ++ map f (drop (n + 1) ts)) t) pushed
        ∙ ap (λ us. substituted us t) (append_assoc done (a ∷ []) _)
        ∙ same
        ∙ ap (λ us. substituted (done ++ map f us) t) (sym (drop_more ts n x within ∙ ap (λ y. y ∷ drop (n + 1) ts) (sym is)))
        ∙ so_far

    pub used_more : a ≡ f x → StandsForAll next (n + 1)
    used_more e = one_more (ap (λ y. substituted (done ++ y ∷ map f (drop (n + 1) ts)) t) e)

    pub unused_more : length done ≡ n → lacks n t ≡ true → StandsForAll next (n + 1)
    unused_more count e = one_more (unused done _ a (f x) t (subst (λ k. lacks k t ≡ true) (sym count) e))
