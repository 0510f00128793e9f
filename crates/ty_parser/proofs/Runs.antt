-- Runs of machines over lists of tokens.
use Rattle.std.proofs.Common.{◌≡◌, ℕ, ◌+◌, List, [], ◌∷◌, ◌++◌, length, Option, Some, None, refl, ap, sym, ◌∙◌, subst, arith, add-zero}
use Rattle.std.specs.Prelude.{IfSome, option_and_then}
use Rattle.std.specs.List.{enumerate_from}
use Rattle.ty_parser.specs.Grammar.{Numbered}
use Rattle.ty_parser.specs.machine.Machine.{run}

pub of_some : {A : Type 0} (P : A → Type 0) (o : Option A) (a : A) → o ≡ Some a → IfSome o P → P a
of_some {A = A} P o a e h = let Q : Option A → Type 0 = λ o. IfSome o P in subst Q e h

pub if_some-and_then : {A B : Type 0} (f : A → Option B) (o : Option A) (P : A → Type 0) (Q : B → Type 0) → IfSome o P → ((a : A) → P a → IfSome (f a) Q) → IfSome (option_and_then f o) Q
if_some-and_then f None P Q h go = tt
if_some-and_then f (Some a) P Q h go = go a h

pub if_some-map : {A : Type 0} (P Q : A → Type 0) (o : Option A) → ((a : A) → P a → Q a) → IfSome o P → IfSome o Q
if_some-map P Q None f h = tt
if_some-map P Q (Some a) f h = f a h

and_then_twice : {A B C : Type 0} (f : A → Option B) (g : B → Option C) (o : Option A) → option_and_then (λ a. option_and_then g (f a)) o ≡ option_and_then g (option_and_then f o)
and_then_twice f g None = refl
and_then_twice f g (Some a) = refl

and_then_same : {A B : Type 0} (f g : A → Option B) (o : Option A) → ((a : A) → f a ≡ g a) → option_and_then f o ≡ option_and_then g o
and_then_same f g None h = refl
and_then_same f g (Some a) h = h a

pub run-append : {S : Type 0} (go : S → Numbered → Option S) (st : S) (ts us : List Numbered) → run go st (ts ++ us) ≡ option_and_then (λ st'. run go st' us) (run go st ts)
run-append go st [] us = refl
run-append go st (t ∷ ts) us =
    and_then_same (λ st'. run go st' (ts ++ us)) (λ st'. option_and_then (λ st''. run go st'' us) (run go st' ts)) (go st t) (λ st'. run-append go st' ts us)
    ∙ and_then_twice (λ st'. run go st' ts) (λ st'. run go st' us) (go st t)

pub enumerate_from-append : {X : Type 0} (n : ℕ) (xs ys : List X) → enumerate_from n (xs ++ ys) ≡ enumerate_from n xs ++ enumerate_from (n + length xs) ys
enumerate_from-append n [] ys = ap (λ m. enumerate_from m ys) (sym (add-zero n))
enumerate_from-append n (x ∷ xs) ys =
    let same : n + 1 + length xs ≡ n + length (x ∷ xs) = omega arith in
    ap (λ l. (n, x) ∷ l) (enumerate_from-append (n + 1) xs ys ∙ ap (λ m. enumerate_from (n + 1) xs ++ enumerate_from m ys) same)
