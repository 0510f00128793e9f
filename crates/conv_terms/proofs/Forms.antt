-- The forms of terms: what a view shows, and what forms tell apart.
use Rattle.std.proofs.Common.{◌≡◌, ℕ, ◌+◌, ◌==◌, true, List, length, rules, refl, sym, ap, ◌∙◌, subst, arith, Option, Some, None, unwrap_or, true≢false}
use Rattle.type_core.specs.declared.ty.Ty.{Ty}
use Rattle.conv_terms.specs.declared.term.Term.{Term, out-Term}
use Rattle.conv_terms.specs.declared.term.Term.TheVariants as term
use Rattle.conv_terms.specs.declared.term.Term.TheOpen.{Term-F, Var, Lam, App, Tup, Proj}
use Rattle.conv_terms.specs.declared.term.Term.TheViews.{the_lemmas}
use Rattle.conv_terms.specs.LongForm.{abstraction_form, is_abstraction, tuple_form, is_tuple_of}
use Rattle.conv_terms.proofs.Equations.{induct}

pub out_var : (n : ℕ) → out-Term (term.Var n) ≡ Var n
out_var n = search (rules, the_lemmas)

pub out_lam : (a : Ty) (t : Term) → out-Term (term.Lam a t) ≡ Lam a t
out_lam a t = search (rules, the_lemmas)

pub out_app : (f e : Term) → out-Term (term.App f e) ≡ App f e
out_app f e = search (rules, the_lemmas)

pub out_tup : (ts : List Term) → out-Term (term.Tup ts) ≡ Tup ts
out_tup ts = search (rules, the_lemmas)

pub out_proj : (i n : ℕ) (e : Term) → out-Term (term.Proj i n e) ≡ Proj i n e
out_proj i n e = search (rules, the_lemmas)

-- what is found
pub some_is : {A : Type 0} (a b : A) → Some a ≡ Some b → a ≡ b
some_is a b p = ap (λ o. unwrap_or o a) p

abbrev IsThere : {A : Type 0} → Option A → Type 0
IsThere (Some a) = Unit {0}
IsThere None = ⊥

pub none_not : {A : Type 0} (a : A) → None ≡ Some a → ⊥
none_not a p = subst IsThere (sym p) tt

pub same_place : (i k : ℕ) → i + 1 ≡ k + 1 → i ≡ k
same_place i k e = omega (arith, e)

-- the parts that a view shows
abbrev body_in : Term → Term-F Term → Term
body_in other (Lam a t) = t
body_in other _ = other

abbrev parts_in : List Term → Term-F Term → List Term
parts_in other (Tup ts) = ts
parts_in other _ = other

abbrev function_in : Term → Term-F Term → Term
function_in other (App f e) = f
function_in other _ = other

abbrev argument_in : Term → Term-F Term → Term
argument_in other (App f e) = e
argument_in other _ = other

abbrev tuple_in : Term → Term-F Term → Term
tuple_in other (Proj i n e) = e
tuple_in other _ = other

abbrev count_in : ℕ → Term-F Term → ℕ
count_in other (Proj i n e) = n
count_in other _ = other

pub lam_body : (a b : Ty) (t u : Term) → term.Lam a t ≡ term.Lam b u → t ≡ u
lam_body a b t u h = sym (ap (body_in t) (out_lam a t)) ∙ ap (λ x. body_in t (out-Term x)) h ∙ ap (body_in t) (out_lam b u)

pub tup_parts : (ts us : List Term) → term.Tup ts ≡ term.Tup us → ts ≡ us
tup_parts ts us h = sym (ap (parts_in ts) (out_tup ts)) ∙ ap (λ x. parts_in ts (out-Term x)) h ∙ ap (parts_in ts) (out_tup us)

pub app_function : (f e g u : Term) → term.App f e ≡ term.App g u → f ≡ g
app_function f e g u h = sym (ap (function_in f) (out_app f e)) ∙ ap (λ x. function_in f (out-Term x)) h ∙ ap (function_in f) (out_app g u)

pub app_argument : (f e g u : Term) → term.App f e ≡ term.App g u → e ≡ u
app_argument f e g u h = sym (ap (argument_in e) (out_app f e)) ∙ ap (λ x. argument_in e (out-Term x)) h ∙ ap (argument_in e) (out_app g u)

pub proj_tuple : (i n j m : ℕ) (e u : Term) → term.Proj i n e ≡ term.Proj j m u → e ≡ u
proj_tuple i n j m e u h = sym (ap (tuple_in e) (out_proj i n e)) ∙ ap (λ x. tuple_in e (out-Term x)) h ∙ ap (tuple_in e) (out_proj j m u)

pub proj_count : (i n j m : ℕ) (e u : Term) → term.Proj i n e ≡ term.Proj j m u → n ≡ m
proj_count i n j m e u h = sym (ap (count_in n) (out_proj i n e)) ∙ ap (λ x. count_in n (out-Term x)) h ∙ ap (count_in n) (out_proj j m u)

-- abstractions and tuples
pub lam_is : (a : Ty) (t : Term) → is_abstraction (term.Lam a t) ≡ true
lam_is a t = ap abstraction_form (out_lam a t)

pub equal_itself : (n : ℕ) → (n == n) ≡ true
equal_itself n = grind arith

pub is_equal : (n m : ℕ) → (n == m) ≡ true → n ≡ m
is_equal n m h = grind arith

pub tup_is : (ts : List Term) → is_tuple_of (length ts) (term.Tup ts) ≡ true
tup_is ts = ap (tuple_form (length ts)) (out_tup ts) ∙ equal_itself (length ts)

pub abstraction_is : (t : Term) → is_abstraction t ≡ true → (a : Ty) × (u : Term) × (t ≡ term.Lam a u)
abstraction_is = induct (λ t. is_abstraction t ≡ true → (a : Ty) × (u : Term) × (t ≡ term.Lam a u))
    (λ n h. absurd (true≢false (sym h ∙ ap abstraction_form (out_var n))))
    (λ a t _ h. (a, t, refl))
    (λ f e _ _ h. absurd (true≢false (sym h ∙ ap abstraction_form (out_app f e))))
    (λ ts _ h. absurd (true≢false (sym h ∙ ap abstraction_form (out_tup ts))))
    (λ i n e _ h. absurd (true≢false (sym h ∙ ap abstraction_form (out_proj i n e))))

pub tuple_is : (t : Term) (n : ℕ) → is_tuple_of n t ≡ true → (us : List Term) × (t ≡ term.Tup us) × (length us ≡ n)
tuple_is = induct (λ t. (n : ℕ) → is_tuple_of n t ≡ true → (us : List Term) × (t ≡ term.Tup us) × (length us ≡ n))
    (λ n m h. absurd (true≢false (sym h ∙ ap (tuple_form m) (out_var n))))
    (λ a t _ m h. absurd (true≢false (sym h ∙ ap (tuple_form m) (out_lam a t))))
    (λ f e _ _ m h. absurd (true≢false (sym h ∙ ap (tuple_form m) (out_app f e))))
    (λ ts _ m h. (ts, refl, is_equal (length ts) m (sym (ap (tuple_form m) (out_tup ts)) ∙ h)))
    (λ i n e _ m h. absurd (true≢false (sym h ∙ ap (tuple_form m) (out_proj i n e))))
