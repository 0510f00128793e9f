-- Two terms are one or they aren't.
use Rattle.std.proofs.Common.{◌≡◌, ℕ, ◌==◌, ◌⊎◌, inl, inr, Bool, true, false, true≢false, List, [], ◌∷◌, map, refl, sym, ap, ap₂, ◌∙◌, subst, arith}
use Rattle.type_core.specs.declared.ty.Ty.{Ty}
use Rattle.type_core.specs.EqualTypes.{types_equal}
use Rattle.type_core.proofs.EqualTypesDecide.{types_equal_decides}
use Rattle.conv_terms.specs.declared.term.Term.{Term, out-Term}
use Rattle.conv_terms.specs.declared.term.Term.TheOpen.{Term-F, Var, Lam, App, Tup, Proj}
use Rattle.conv_terms.specs.declared.term.Term.TheViews.{roll-Term, out-roll-Term, roll-out-Term}
use Rattle.conv_terms.specs.declared.term.Term.TheFolds.{map-Term, ind-Term}

abbrev pub Decided : Type 0 → Type 0
Decided P = P ⊎ (¬ P)

pub both : {P Q R : Type 0} → Decided P → Decided Q → (P → Q → R) → (R → P) → (R → Q) → Decided R
both (inl p) (inl q) make first second = inl (make p q)
both (inl p) (inr lacks) make first second = inr (λ r. lacks (second r))
both (inr lacks) q make first second = inr (λ r. lacks (first r))

pub alike : {P Q : Type 0} → Decided P → (P → Q) → (Q → P) → Decided Q
alike (inl p) make first = inl (make p)
alike (inr lacks) make first = inr (λ q. lacks (first q))

pub tested : {P : Type 0} (b : Bool) → (b ≡ true → P) → (P → b ≡ true) → Decided P
tested true make first = inl (make refl)
tested false make first = inr (λ p. true≢false (sym (first p)))

types_decided : (a b : Ty) → Decided (a ≡ b)
types_decided a b = let decides = types_equal_decides a b in tested (types_equal a b) decides.0 decides.1

equal_is : (n m : ℕ) → (n == m) ≡ true → n ≡ m
equal_is n m h = grind arith

is_equal : (n m : ℕ) → n ≡ m → (n == m) ≡ true
is_equal n m h = grind arith

pub numbers_decided : (n m : ℕ) → Decided (n ≡ m)
numbers_decided n m = tested (n == m) (equal_is n m) (is_equal n m)

abbrev Told : Term → Type 0
Told t = (u : Term) → Decided (t ≡ u)

all_told : (es : List ((t : Term) × Told t)) (us : List Term) → Decided (map (λ e. e.0) es ≡ us)
all_told [] [] = inl refl
all_told [] (u ∷ us) = inr (λ e. cc)
all_told (x ∷ es) [] = inr (λ e. cc)
all_told (x ∷ es) (u ∷ us) = both (x.1 u) (all_told es us) (λ p q. ap₂ ◌∷◌ p q) (λ e. cc) (λ e. cc)

level : (x : Term-F ((t : Term) × Told t)) (y : Term-F Term) → Decided (map-Term _ _ (λ e. e.0) x ≡ y)
level (Var n) (Var m) = alike (numbers_decided n m) (λ e. ap Var e) (λ e. cc)
level (Var n) (Lam b u) = inr (λ e. cc)
level (Var n) (App g u) = inr (λ e. cc)
level (Var n) (Tup us) = inr (λ e. cc)
level (Var n) (Proj j m u) = inr (λ e. cc)
level (Lam a t) (Var m) = inr (λ e. cc)
level (Lam a t) (Lam b u) = both (types_decided a b) (t.1 u) (λ p q. ap₂ Lam p q) (λ e. cc) (λ e. cc)
level (Lam a t) (App g u) = inr (λ e. cc)
level (Lam a t) (Tup us) = inr (λ e. cc)
level (Lam a t) (Proj j m u) = inr (λ e. cc)
level (App f t) (Var m) = inr (λ e. cc)
level (App f t) (Lam b u) = inr (λ e. cc)
level (App f t) (App g u) = both (f.1 g) (t.1 u) (λ p q. ap₂ App p q) (λ e. cc) (λ e. cc)
level (App f t) (Tup us) = inr (λ e. cc)
level (App f t) (Proj j m u) = inr (λ e. cc)
level (Tup ts) (Var m) = inr (λ e. cc)
level (Tup ts) (Lam b u) = inr (λ e. cc)
level (Tup ts) (App g u) = inr (λ e. cc)
level (Tup ts) (Tup us) = alike (all_told ts us) (λ e. ap Tup e) (λ e. cc)
level (Tup ts) (Proj j m u) = inr (λ e. cc)
level (Proj i n t) (Var m) = inr (λ e. cc)
level (Proj i n t) (Lam b u) = inr (λ e. cc)
level (Proj i n t) (App g u) = inr (λ e. cc)
level (Proj i n t) (Tup us) = inr (λ e. cc)
level (Proj i n t) (Proj j m u) =
    let place : Decided ((i ≡ j) × (n ≡ m)) = both (numbers_decided i j) (numbers_decided n m) (λ p q. (p, q)) (λ r. r.0) (λ r. r.1) in
    both place (t.1 u) (λ p q. ap₂ (λ k e. k e) (ap₂ Proj p.0 p.1) q) (λ e. (cc, cc)) (λ e. cc)

told : (x : Term-F ((t : Term) × Told t)) → Told (roll-Term (map-Term _ _ (λ e. e.0) x))
told x u =
    let z : Term-F Term = map-Term _ _ (λ e. e.0) x in
    alike (level x (out-Term u)) (λ e. ap roll-Term e ∙ roll-out-Term u) (λ e. sym (out-roll-Term z) ∙ ap out-Term e)

pub terms_decided : (t u : Term) → Decided (t ≡ u)
terms_decided = ind-Term Told (λ x y is. subst (λ z. Told (roll-Term z)) is (told y))

pub lists_decided : (ts us : List Term) → Decided (ts ≡ us)
lists_decided [] [] = inl refl
lists_decided [] (u ∷ us) = inr (λ e. cc)
lists_decided (t ∷ ts) [] = inr (λ e. cc)
lists_decided (t ∷ ts) (u ∷ us) = both (terms_decided t u) (lists_decided ts us) (λ p q. ap₂ ◌∷◌ p q) (λ e. cc) (λ e. cc)
