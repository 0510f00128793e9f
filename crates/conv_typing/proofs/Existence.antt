-- Every typed term has a long form: hereditary substitution, by the size of the type and then the term.
use Rattle.std.proofs.Common.{◌≡◌, ℕ, ◌+◌, ◌-◌, ◌<◌, ◌≤◌, ◌==◌, ◌&&◌, not, ◌⊎◌, inl, inr, Bool, true, false, List, [], ◌∷◌, ◌++◌, map, length, refl, sym, ap, ◌∙◌, subst, subst₂, arith, Some, slice_get, true≢false, zero, suc, append_assoc, append-nil}
use Rattle.type_core.specs.declared.ty.Ty.{Ty}
use Rattle.type_core.specs.declared.ty.Ty.TheVariants as ty
use Rattle.type_core.specs.Lists.{sum_of}
use Rattle.type_core.specs.Size.{size_of}
use Rattle.type_core.specs.Types.{IsType}
use Rattle.type_core.proofs.Trees.{size_tup, size_arrow}
use Rattle.conv_terms.specs.declared.term.Term.{Term}
use Rattle.conv_terms.specs.declared.term.Term.TheVariants as term
use Rattle.conv_terms.specs.Shifting.{shifted}
use Rattle.conv_terms.specs.Substitution.{substituted, traversed, image, each_below}
use Rattle.conv_terms.specs.LongForm.{abstraction_form, is_abstraction, tuple_form, is_tuple_of, IsLongForm, AreLongForms}
use Rattle.conv_terms.proofs.Equations.{induct, HoldOf, traversed_var, traversed_lam, traversed_app, traversed_tup, traversed_proj}
use Rattle.conv_terms.proofs.Moving.{image_low, image_same, image_high, below_or_from}
use Rattle.conv_terms.proofs.Forms.{some_is, none_not, out_var, out_lam, out_app, out_tup, out_proj, lam_is, abstraction_is, tuple_is}
use Rattle.conv_terms.proofs.RedexFree.{is_redex_free, are_redex_free, free_lam, free_app, free_tup, free_proj, left_true, right_true, not_true, free_shifted}
use Rattle.conv_terms.proofs.LongForms.{itself, long_form_free}
use Rattle.conv_typing.specs.Typing.{HasType, HaveTypes}
use Rattle.conv_typing.proofs.Types.{one_domain, one_range}
use Rattle.conv_typing.proofs.Inversion.{of_var, of_lam, of_app, of_tup, of_proj}
use Rattle.conv_typing.proofs.Weakening.{get_left, one_more, substituted_below_typed}
use Rattle.conv_typing.proofs.Kept.{last_type}
use Rattle.conv_typing.proofs.LongForms.{long_form_typed}

sum_at : (ts : List Ty) (i : ℕ) (a : Ty) → slice_get ts i ≡ Some a → size_of a ≤ sum_of (map size_of ts)
sum_at [] i a l = absurd (none_not a l)
sum_at (t ∷ ts) zero a l = let e : size_of t ≡ size_of a = ap size_of (some_is t a l) in omega arith
sum_at (t ∷ ts) (suc i) a l = let e : size_of a ≤ sum_of (map size_of ts) = sum_at ts i a l in omega arith

from_less : (a b : Ty) → size_of a < size_of (ty.Arrow a b)
from_less a b = let e : size_of (ty.Arrow a b) ≡ 1 + (size_of a + size_of b) = size_arrow a b in omega arith

to_less : (a b : Ty) → size_of b ≤ size_of (ty.Arrow a b)
to_less a b = let e : size_of (ty.Arrow a b) ≡ 1 + (size_of a + size_of b) = size_arrow a b in omega arith

part_less : (ts : List Ty) (i : ℕ) (a : Ty) → slice_get ts i ≡ Some a → size_of a ≤ size_of (ty.Tup ts)
part_less ts i a l =
    let e : size_of (ty.Tup ts) ≡ 1 + sum_of (map size_of ts) = size_tup ts in
    let f : size_of a ≤ sum_of (map size_of ts) = sum_at ts i a l in omega arith

-- where G, without redexes and of type T, is substituted in E, without redexes too, the result has a long form; an abstraction or a tuple that is new there
-- has a type no larger than T, so that what it is applied to or projected from is smaller
pub record AfterSubstitution (T : Ty) (ctx d : List Ty) (G E : Term) (c : Ty) : Type 0 where
  pub form : Term
  pub long : IsLongForm (length (ctx ++ d)) (traversed (image (length ctx) G) E (length d)) form
  pub lam : is_abstraction form ≡ true → (is_abstraction E ≡ true) ⊎ (size_of c ≤ size_of T)
  pub tup : (n : ℕ) → is_tuple_of n form ≡ true → (is_tuple_of n E ≡ true) ⊎ (size_of c ≤ size_of T)

abbrev HaveLongForms : Ty → Term → Type 0
HaveLongForms T E = is_redex_free E ≡ true → (ctx d : List Ty) (G : Term) (c : Ty) → is_redex_free G ≡ true → HasType ctx G T → HasType ((ctx ++ T ∷ []) ++ d) E c → AfterSubstitution T ctx d G E c

abbrev Smaller : Ty → Type 0
Smaller T = (b : Ty) → size_of b < size_of T → (E : Term) → HaveLongForms b E

-- no abstraction and no tuple
neither : (T : Ty) (ctx d : List Ty) (G E : Term) (c : Ty) (form : Term) → IsLongForm (length (ctx ++ d)) (traversed (image (length ctx) G) E (length d)) form → is_abstraction form ≡ false → ((n : ℕ) → is_tuple_of n form ≡ false) → AfterSubstitution T ctx d G E c
neither T ctx d G E c form long l t = record { form = form; long = long; lam = λ h. absurd (true≢false (sym h ∙ l)); tup = λ n h. absurd (true≢false (sym h ∙ t n)) }

at_var : (T : Ty) (n : ℕ) → HaveLongForms T (term.Var n)
at_var T n fe ctx d G c fg g k = go (below_or_from n (length ctx)) (below_or_from (length ctx) n)
  where
    at : traversed (image (length ctx) G) (term.Var n) (length d) ≡ image (length ctx) G n (length d)
    at = traversed_var (image (length ctx) G) n (length d)

    variable : (m : ℕ) → image (length ctx) G n (length d) ≡ term.Var m → AfterSubstitution T ctx d G (term.Var n) c
    variable m p = neither T ctx d G (term.Var n) c (term.Var m) (subst (λ t. IsLongForm (length (ctx ++ d)) t (term.Var m)) (sym (at ∙ p)) (IsLongForm.var m)) (ap abstraction_form (out_var m)) (λ j. ap (tuple_form j) (out_var m))

    found : n ≡ length ctx → T ≡ c
    found e =
        let less : length ctx < length (ctx ++ T ∷ []) = let q : length (ctx ++ T ∷ []) ≡ length ctx + 1 = one_more ctx T in omega arith in
        some_is T c (sym (last_type ctx T) ∙ sym (get_left (ctx ++ T ∷ []) d (length ctx) less) ∙ ap (slice_get ((ctx ++ T ∷ []) ++ d)) (sym e) ∙ (of_var ((ctx ++ T ∷ []) ++ d) n c k).0)

    here : n ≡ length ctx → AfterSubstitution T ctx d G (term.Var n) c
    here e =
        let small : size_of c ≤ size_of T = let q : size_of T ≡ size_of c = ap size_of (found e) in omega arith in
        record {
          form = shifted (length ctx) (length d) G;
          long = subst (λ t. IsLongForm (length (ctx ++ d)) t (shifted (length ctx) (length d) G)) (sym (at ∙ ap (λ m. image (length ctx) G m (length d)) e ∙ image_same (length ctx) G (length d))) (itself (shifted (length ctx) (length d) G) (free_shifted (length ctx) (length d) G ∙ fg) (length (ctx ++ d)));
          lam = λ _. inr small;
          tup = λ _ _. inr small;
        }

    go : (n < length ctx) ⊎ (length ctx ≤ n) → (length ctx < n) ⊎ (n ≤ length ctx) → AfterSubstitution T ctx d G (term.Var n) c
    go (inl low) _ = variable n (image_low (length ctx) G n (length d) low)
    go (inr _) (inl high) = variable (n - 1) (image_high (length ctx) G n (length d) high)
    go (inr a) (inr b) = here (omega arith)

at_lam : (T : Ty) (a : Ty) (t : Term) → HaveLongForms T t → HaveLongForms T (term.Lam a t)
at_lam T a t ih fe ctx d G c fg g k =
    let o = of_lam ((ctx ++ T ∷ []) ++ d) a t c k in
    let r : AfterSubstitution T ctx (d ++ a ∷ []) G t o.0 = ih (sym (free_lam a t) ∙ fe) ctx (d ++ a ∷ []) G o.0 fg g (subst (λ x. HasType x t o.0) (append_assoc (ctx ++ T ∷ []) d (a ∷ [])) o.3) in
    let n : length (ctx ++ (d ++ a ∷ [])) ≡ length (ctx ++ d) + 1 = ap length (sym (append_assoc ctx d (a ∷ []))) ∙ one_more (ctx ++ d) a in
    record {
      form = term.Lam a r.form;
      long = subst (λ x. IsLongForm (length (ctx ++ d)) x (term.Lam a r.form)) (sym (traversed_lam (image (length ctx) G) a t (length d)))
          (IsLongForm.lam a (traversed (image (length ctx) G) t (length d + 1)) r.form (subst₂ (λ m j. IsLongForm m (traversed (image (length ctx) G) t j) r.form) n (one_more d a) r.long));
      lam = λ _. inl (lam_is a t);
      tup = λ m h. absurd (true≢false (sym h ∙ ap (tuple_form m) (out_lam a r.form)));
    }

-- the application of a long form to another
app_long : (T : Ty) (ctx d : List Ty) (G f e : Term) (c b : Ty) → Smaller T → is_abstraction f ≡ false → HasType (ctx ++ d) (traversed (image (length ctx) G) f (length d)) (ty.Arrow b c) → HasType (ctx ++ d) (traversed (image (length ctx) G) e (length d)) b → AfterSubstitution T ctx d G e b → (s : Bool) → (rf : AfterSubstitution T ctx d G f (ty.Arrow b c)) → is_abstraction rf.form ≡ s → AfterSubstitution T ctx d G (term.App f e) c
app_long T ctx d G f e c b smaller nf kf ke re false rf h =
    neither T ctx d G (term.App f e) c (term.App rf.form re.form)
    (subst (λ x. IsLongForm (length (ctx ++ d)) x (term.App rf.form re.form)) (sym (traversed_app (image (length ctx) G) f e (length d))) (IsLongForm.app _ _ rf.form re.form h rf.long re.long))
    (ap abstraction_form (out_app rf.form re.form)) (λ j. ap (tuple_form j) (out_app rf.form re.form))
app_long T ctx d G f e c b smaller nf kf ke re true rf h = either (rf.lam h)
  where
    form : (a : Ty) × (u : Term) × (rf.form ≡ term.Lam a u)
    form = abstraction_is rf.form h

    is_long : IsLongForm (length (ctx ++ d)) (traversed (image (length ctx) G) f (length d)) (term.Lam form.0 form.1)
    is_long = subst (IsLongForm (length (ctx ++ d)) (traversed (image (length ctx) G) f (length d))) form.2 rf.long

    typed : (x : Ty) × (ty.Arrow b c ≡ ty.Arrow form.0 x) × IsType form.0 × HasType ((ctx ++ d) ++ form.0 ∷ []) form.1 x
    typed = of_lam (ctx ++ d) form.0 form.1 (ty.Arrow b c) (long_form_typed (ctx ++ d) (ty.Arrow b c) _ _ kf is_long)

    body : HasType (((ctx ++ d) ++ b ∷ []) ++ []) form.1 c
    body = subst (λ x. HasType x form.1 c) (sym (append-nil ((ctx ++ d) ++ b ∷ []))) (subst₂ (λ a x. HasType ((ctx ++ d) ++ a ∷ []) form.1 x) (sym (one_domain b c form.0 typed.0 typed.1)) (sym (one_range b c form.0 typed.0 typed.1)) typed.3)

    value : HasType (ctx ++ d) re.form b
    value = (long_form_typed (ctx ++ d) b _ _ ke re.long)

    below : size_of (ty.Arrow b c) ≤ size_of T → AfterSubstitution T ctx d G (term.App f e) c
    below s =
        let less : size_of b < size_of T = let q : size_of b < size_of (ty.Arrow b c) = from_less b c in omega arith in
        let small : size_of c ≤ size_of T = let q : size_of c ≤ size_of (ty.Arrow b c) = to_less b c in omega arith in
        let r : AfterSubstitution b (ctx ++ d) [] re.form form.1 c = smaller b less form.1 (sym (free_lam form.0 form.1) ∙ long_form_free _ _ _ is_long) (ctx ++ d) [] re.form c (long_form_free _ _ _ re.long) value body in
        record {
          form = r.form;
          long = subst (λ x. IsLongForm (length (ctx ++ d)) x r.form) (sym (traversed_app (image (length ctx) G) f e (length d)))
              (IsLongForm.beta _ _ form.0 form.1 re.form is_long re.long (subst (λ x. IsLongForm (length x) (substituted (length (ctx ++ d)) re.form form.1) r.form) (append-nil (ctx ++ d)) r.long));
          lam = λ _. inr small;
          tup = λ _ _. inr small;
        }

    either : (is_abstraction f ≡ true) ⊎ (size_of (ty.Arrow b c) ≤ size_of T) → AfterSubstitution T ctx d G (term.App f e) c
    either (inl l) = absurd (true≢false (sym l ∙ nf))
    either (inr s) = below s

at_app : (T : Ty) → Smaller T → (f e : Term) → HaveLongForms T f → HaveLongForms T e → HaveLongForms T (term.App f e)
at_app T smaller f e ihf ihe fe ctx d G c fg g k =
    let o = of_app ((ctx ++ T ∷ []) ++ d) f e c k in
    let q : (not (is_abstraction f) && (is_redex_free f && is_redex_free e)) ≡ true = sym (free_app f e) ∙ fe in
    let l : (is_redex_free f && is_redex_free e) ≡ true = right_true (not (is_abstraction f)) (is_redex_free f && is_redex_free e) q in
    let rf : AfterSubstitution T ctx d G f (ty.Arrow o.0 c) = ihf (left_true (is_redex_free f) (is_redex_free e) l) ctx d G (ty.Arrow o.0 c) fg g o.1 in
    let re : AfterSubstitution T ctx d G e o.0 = ihe (right_true (is_redex_free f) (is_redex_free e) l) ctx d G o.0 fg g o.2 in
    app_long T ctx d G f e c o.0 smaller (not_true (is_abstraction f) (left_true (not (is_abstraction f)) (is_redex_free f && is_redex_free e) q)) (substituted_below_typed ctx d T G f (ty.Arrow o.0 c) g o.1) (substituted_below_typed ctx d T G e o.0 g o.2) re (is_abstraction rf.form) rf refl

at_each : (T : Ty) (ctx d : List Ty) (G : Term) → is_redex_free G ≡ true → HasType ctx G T → (ts : List Term) (types : List Ty) → HoldOf (HaveLongForms T) ts → are_redex_free ts ≡ true → HaveTypes ((ctx ++ T ∷ []) ++ d) ts types → (us : List Term) × AreLongForms (length (ctx ++ d)) (each_below (map (traversed (image (length ctx) G)) ts) (length d)) us × (length us ≡ length ts)
at_each T ctx d G fg g [] types ihs fe HaveTypes.none = ([], AreLongForms.none, refl)
at_each T ctx d G fg g (t ∷ ts) types ihs fe (HaveTypes.more {a = a} {types = rest} k ks) =
    let r : AfterSubstitution T ctx d G t a = ihs.0 (left_true (is_redex_free t) (are_redex_free ts) fe) ctx d G a fg g k in
    let rs : (us : List Term) × AreLongForms (length (ctx ++ d)) (each_below (map (traversed (image (length ctx) G)) ts) (length d)) us × (length us ≡ length ts) = at_each T ctx d G fg g ts rest ihs.1 (right_true (is_redex_free t) (are_redex_free ts) fe) ks in
    (r.form ∷ rs.0, AreLongForms.more r.long rs.1, ap suc rs.2)

at_tup : (T : Ty) (ts : List Term) → HoldOf (HaveLongForms T) ts → HaveLongForms T (term.Tup ts)
at_tup T ts ihs fe ctx d G c fg g k =
    let o = of_tup ((ctx ++ T ∷ []) ++ d) ts c k in
    let rs : (us : List Term) × AreLongForms (length (ctx ++ d)) (each_below (map (traversed (image (length ctx) G)) ts) (length d)) us × (length us ≡ length ts) = at_each T ctx d G fg g ts o.0 ihs (sym (free_tup ts) ∙ fe) o.3 in
    record {
      form = term.Tup rs.0;
      long = subst (λ x. IsLongForm (length (ctx ++ d)) x (term.Tup rs.0)) (sym (traversed_tup (image (length ctx) G) ts (length d))) (IsLongForm.tup _ rs.0 rs.1);
      lam = λ h. absurd (true≢false (sym h ∙ ap abstraction_form (out_tup rs.0)));
      tup = λ m h. inl (ap (tuple_form m) (out_tup ts) ∙ ap (λ j. j == m) (sym rs.2) ∙ sym (ap (tuple_form m) (out_tup rs.0)) ∙ h);
    }

got : (us : List Term) (i : ℕ) → i < length us → (u : Term) × (slice_get us i ≡ Some u)
got [] i h = let no : ⊥ = omega arith in absurd no
got (u ∷ us) zero h = (u, refl)
got (u ∷ us) (suc i) h = let less : i < length us = omega arith in got us i less

within : (ts : List Ty) (i : ℕ) (a : Ty) → slice_get ts i ≡ Some a → i < length ts
within [] i a h = absurd (none_not a h)
within (t ∷ ts) zero a h = let e : 0 < suc (length ts) = omega arith in e
within (t ∷ ts) (suc i) a h = let e : i < length ts = within ts i a h in omega arith

proj_long : (T : Ty) (ctx d : List Ty) (G e : Term) (c : Ty) (j : ℕ) (types : List Ty) → is_tuple_of (length types) e ≡ false → slice_get types j ≡ Some c → (r : AfterSubstitution T ctx d G e (ty.Tup types)) → (s : Bool) → is_tuple_of (length types) r.form ≡ s → AfterSubstitution T ctx d G (term.Proj (j + 1) (length types) e) c
proj_long T ctx d G e c j types ne l r false h =
    neither T ctx d G (term.Proj (j + 1) (length types) e) c (term.Proj (j + 1) (length types) r.form)
    (subst (λ x. IsLongForm (length (ctx ++ d)) x (term.Proj (j + 1) (length types) r.form)) (sym (traversed_proj (image (length ctx) G) (j + 1) (length types) e (length d))) (IsLongForm.proj (j + 1) (length types) _ r.form h r.long))
    (ap abstraction_form (out_proj (j + 1) (length types) r.form)) (λ m. ap (tuple_form m) (out_proj (j + 1) (length types) r.form))
proj_long T ctx d G e c j types ne l r true h = either (r.tup (length types) h)
  where
    form : (us : List Term) × (r.form ≡ term.Tup us) × (length us ≡ length types)
    form = tuple_is r.form (length types) h

    one : (u : Term) × (slice_get form.0 j ≡ Some u)
    one = got form.0 j (subst (λ m. j < m) (sym form.2) (within types j c l))

    either : (is_tuple_of (length types) e ≡ true) ⊎ (size_of (ty.Tup types) ≤ size_of T) → AfterSubstitution T ctx d G (term.Proj (j + 1) (length types) e) c
    either (inl p) = absurd (true≢false (sym p ∙ ne))
    either (inr s) =
        let small : size_of c ≤ size_of T = let q : size_of c ≤ size_of (ty.Tup types) = part_less types j c l in omega arith in
        record {
          form = one.0;
          long = subst (λ x. IsLongForm (length (ctx ++ d)) x one.0) (sym (traversed_proj (image (length ctx) G) (j + 1) (length types) e (length d)))
              (subst (λ m. IsLongForm (length (ctx ++ d)) (term.Proj (j + 1) m (traversed (image (length ctx) G) e (length d))) one.0) form.2
              (IsLongForm.projection j _ form.0 (subst (IsLongForm (length (ctx ++ d)) (traversed (image (length ctx) G) e (length d))) form.1 r.long) one.1));
          lam = λ _. inr small;
          tup = λ _ _. inr small;
        }

at_proj : (T : Ty) (i n : ℕ) (e : Term) → HaveLongForms T e → HaveLongForms T (term.Proj i n e)
at_proj T i n e ih fe ctx d G c fg g k =
    let o = of_proj ((ctx ++ T ∷ []) ++ d) i n e c k in
    let q : (not (is_tuple_of n e) && is_redex_free e) ≡ true = sym (free_proj i n e) ∙ fe in
    let r : AfterSubstitution T ctx d G e (ty.Tup o.1) = ih (right_true (not (is_tuple_of n e)) (is_redex_free e) q) ctx d G (ty.Tup o.1) fg g o.6 in
    let ne : is_tuple_of (length o.1) e ≡ false = ap (λ m. is_tuple_of m e) (sym o.3) ∙ not_true (is_tuple_of n e) (left_true (not (is_tuple_of n e)) (is_redex_free e) q) in
    subst₂ (λ i n. AfterSubstitution T ctx d G (term.Proj i n e) c) (sym o.2) (sym o.3) (proj_long T ctx d G e c o.0 o.1 ne o.5 r (is_tuple_of (length o.1) r.form) refl)

pub substitution_ends : (k : ℕ) (T : Ty) → size_of T < k → (E : Term) → HaveLongForms T E
substitution_ends zero T h = let no : ⊥ = omega arith in absurd no
substitution_ends (suc k) T h = induct (HaveLongForms T) (at_var T) (at_lam T) (at_app T (λ b less. substitution_ends k b (lower b less))) (at_tup T) (at_proj T)
  where
    lower : (b : Ty) → size_of b < size_of T → size_of b < k
    lower b less = omega arith

-- every typed term has a long form
abbrev Ends : Term → Type 0
Ends t = (ctx : List Ty) (c : Ty) → HasType ctx t c → (u : Term) × IsLongForm (length ctx) t u

ends_app : (f e : Term) (ctx : List Ty) (b c : Ty) → HasType ctx f (ty.Arrow b c) → HasType ctx e b → (g u : Term) → IsLongForm (length ctx) f g → IsLongForm (length ctx) e u → (s : Bool) → is_abstraction g ≡ s → (h : Term) × IsLongForm (length ctx) (term.App f e) h
ends_app f e ctx b c kf ke g u lf le false q = (term.App g u, IsLongForm.app f e g u q lf le)
ends_app f e ctx b c kf ke g u lf le true q =
    let form : (a : Ty) × (t : Term) × (g ≡ term.Lam a t) = abstraction_is g q in
    let is_long : IsLongForm (length ctx) f (term.Lam form.0 form.1) = subst (IsLongForm (length ctx) f) form.2 lf in
    let typed : (x : Ty) × (ty.Arrow b c ≡ ty.Arrow form.0 x) × IsType form.0 × HasType (ctx ++ form.0 ∷ []) form.1 x = of_lam ctx form.0 form.1 (ty.Arrow b c) (long_form_typed ctx (ty.Arrow b c) f (term.Lam form.0 form.1) kf is_long) in
    let body : HasType ((ctx ++ b ∷ []) ++ []) form.1 c = subst (λ x. HasType x form.1 c) (sym (append-nil (ctx ++ b ∷ []))) (subst₂ (λ a x. HasType (ctx ++ a ∷ []) form.1 x) (sym (one_domain b c form.0 typed.0 typed.1)) (sym (one_range b c form.0 typed.0 typed.1)) typed.3) in
    let less : size_of b < suc (size_of b) = omega arith in
    let r : AfterSubstitution b ctx [] u form.1 c = substitution_ends (suc (size_of b)) b less form.1 (sym (free_lam form.0 form.1) ∙ long_form_free _ _ _ is_long) ctx [] u c (long_form_free _ _ _ le) (long_form_typed ctx b e u ke le) body in
    (r.form, IsLongForm.beta f e form.0 form.1 u is_long le (subst (λ x. IsLongForm (length x) (substituted (length ctx) u form.1) r.form) (append-nil ctx) r.long))

ends_proj : (e : Term) (ctx : List Ty) (j : ℕ) (types : List Ty) (c : Ty) → slice_get types j ≡ Some c → (u : Term) → IsLongForm (length ctx) e u → (s : Bool) → is_tuple_of (length types) u ≡ s → (h : Term) × IsLongForm (length ctx) (term.Proj (j + 1) (length types) e) h
ends_proj e ctx j types c l u k false q = (term.Proj (j + 1) (length types) u, IsLongForm.proj (j + 1) (length types) e u q k)
ends_proj e ctx j types c l u k true q =
    let form : (us : List Term) × (u ≡ term.Tup us) × (length us ≡ length types) = tuple_is u (length types) q in
    let one : (w : Term) × (slice_get form.0 j ≡ Some w) = got form.0 j (subst (λ m. j < m) (sym form.2) (within types j c l)) in
    (one.0, subst (λ m. IsLongForm (length ctx) (term.Proj (j + 1) m e) one.0) form.2 (IsLongForm.projection j e form.0 (subst (IsLongForm (length ctx) e) form.1 k) one.1))

ends_all : (ts : List Term) → HoldOf Ends ts → (ctx types : List Ty) → HaveTypes ctx ts types → (us : List Term) × AreLongForms (length ctx) ts us
ends_all [] ihs ctx types HaveTypes.none = ([], AreLongForms.none)
ends_all (t ∷ ts) ihs ctx types (HaveTypes.more {a = a} {types = rest} k ks) =
    let r : (u : Term) × IsLongForm (length ctx) t u = ihs.0 ctx a k in
    let rs : (us : List Term) × AreLongForms (length ctx) ts us = ends_all ts ihs.1 ctx rest ks in
    (r.0 ∷ rs.0, AreLongForms.more r.1 rs.1)

pub ends : (t : Term) → Ends t
ends = induct Ends
    (λ i ctx c k. (term.Var i, IsLongForm.var i))
    (λ a t ih ctx c k.
    let o = of_lam ctx a t c k in
    let r : (u : Term) × IsLongForm (length (ctx ++ a ∷ [])) t u = ih (ctx ++ a ∷ []) o.0 o.3 in
    (term.Lam a r.0, IsLongForm.lam a t r.0 (subst (λ n. IsLongForm n t r.0) (one_more ctx a) r.1)))
    (λ f e ihf ihe ctx c k.
    let o = of_app ctx f e c k in
    let rf : (u : Term) × IsLongForm (length ctx) f u = ihf ctx (ty.Arrow o.0 c) o.1 in
    let re : (u : Term) × IsLongForm (length ctx) e u = ihe ctx o.0 o.2 in
    ends_app f e ctx o.0 c o.1 o.2 rf.0 re.0 rf.1 re.1 (is_abstraction rf.0) refl)
    (λ ts ihs ctx c k.
    let o = of_tup ctx ts c k in
    let rs : (us : List Term) × AreLongForms (length ctx) ts us = ends_all ts ihs ctx o.0 o.3 in
    (term.Tup rs.0, IsLongForm.tup ts rs.0 rs.1))
    (λ i n e ih ctx c k.
    let o = of_proj ctx i n e c k in
    let r : (u : Term) × IsLongForm (length ctx) e u = ih ctx (ty.Tup o.1) o.6 in
    subst₂ (λ i n. (h : Term) × IsLongForm (length ctx) (term.Proj i n e) h) (sym o.2) (sym o.3) (ends_proj e ctx o.0 o.1 c o.5 r.0 r.1 (is_tuple_of (length o.1) r.0) refl))

pub long_form_of : (ctx : List Ty) (c : Ty) (t : Term) → HasType ctx t c → (u : Term) × IsLongForm (length ctx) t u
long_form_of ctx c t k = ends t ctx c k
