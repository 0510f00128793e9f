-- The type of each form of term, by those of its parts, and of terms one after the other.
use Rattle.std.proofs.Common.{◌≡◌, ℕ, ◌==◌, Bool, true, false, if◌then◌else◌, List, [], ◌∷◌, ◌++◌, length, slice_get, Option, option_map, Some, None, ◌↔◌, refl, sym, ap, ap₂, ◌∙◌, subst, subst₂, arith, zero, suc, true≢false, add-one, Result, Ok, Err, IfOk, take, get_or, ◌<◌}
use Rattle.sig_base.specs.declared.no_memory.NoMemory.{NoMemory}
use Rattle.type_core.specs.declared.ty.Ty.{Ty, out-Ty}
use Rattle.type_core.specs.declared.ty.Field.{Field}
use Rattle.type_core.specs.declared.ty.Ty.TheVariants as ty
use Rattle.type_core.specs.declared.ty.Ty.TheOpen.{Ty-F, Var, Con, Rec, Tup, Arrow}
use Rattle.type_core.specs.Types.{is_type}
use Rattle.conv_terms.specs.declared.term.Term.{Term}
use Rattle.conv_terms.specs.declared.term.Term.TheVariants as term
use Rattle.conv_typing.specs.Typing.{HasType, HaveTypes}
use Rattle.conv_typing.specs.deciding.TypeOf.{IsTypeOf, AreTypesOf, IsResult, if_type, function_from, tuple_of, component, component_step, from_one}
use Rattle.conv_typing.proofs.Types.{out_tup, one_tuple, is_tuple}
use Rattle.conv_terms.proofs.Forms.{some_is, none_not, same_place}
use Rattle.conv_typing.proofs.Inversion.{of_var, of_lam, of_app, of_tup, of_proj, one_type, one_types}

-- what is answered is the one type
pub the_type : {ctx : List Ty} {t : Term} (r : Option Ty) → IsTypeOf ctx t r → (a : Ty) → (r ≡ Some a) ↔ HasType ctx t a
the_type {ctx = ctx} {t = t} (Some b) k a = ((λ p. subst (HasType ctx t) (some_is b a p) k), (λ l. ap Some (one_type k a l)))
the_type None k a = ((λ p. absurd (none_not a p)), (λ l. absurd (k a l)))

pub no_type : {ctx : List Ty} {t : Term} (r : Option Ty) → IsTypeOf ctx t r → (r ≡ None) ↔ ((a : Ty) → ¬ (HasType ctx t a))
no_type (Some b) k = ((λ p. absurd (none_not b (sym p))), (λ l. absurd (l b k)))
no_type None k = ((λ _. k), (λ _. refl))

pub var_type : (ctx : List Ty) (n : ℕ) (o : Option Ty) → o ≡ if_type (slice_get ctx n) → IsTypeOf ctx (term.Var n) o
var_type ctx n o e = subst (IsTypeOf ctx (term.Var n)) (sym e) (seen (slice_get ctx n) refl)
  where
    tested : (a : Ty) → slice_get ctx n ≡ Some a → (b : Bool) → is_type a ≡ b → IsTypeOf ctx (term.Var n) (if b then Some a else None)
    tested a p true q = HasType.var n p q
    tested a p false q = λ c k. let other = of_var ctx n c k in true≢false (sym (ap is_type (some_is a c (sym p ∙ other.0)) ∙ other.1) ∙ q)

    seen : (x : Option Ty) → slice_get ctx n ≡ x → IsTypeOf ctx (term.Var n) (if_type x)
    seen (Some a) p = tested a p (is_type a) refl
    seen None p = λ a k. none_not a (sym p ∙ (of_var ctx n a k).0)

pub lam_type : (ctx : List Ty) (a : Ty) (body : Term) (o : Option Ty) → IsTypeOf (ctx ++ a ∷ []) body o → IsTypeOf ctx (term.Lam a body) (function_from a o)
lam_type ctx a body o k = tested (is_type a) refl o k
  where
    tested : (t : Bool) → is_type a ≡ t → (o : Option Ty) → IsTypeOf (ctx ++ a ∷ []) body o → IsTypeOf ctx (term.Lam a body) (if t then option_map (ty.Arrow a) o else None)
    tested true p (Some b) k = HasType.lam a body p k
    tested true p None k = λ c l. let (b, e, is, m) = of_lam ctx a body c l in k b m
    tested false p o k = λ c l. let (b, e, is, m) = of_lam ctx a body c l in true≢false (sym is ∙ p)

pub app_type : (ctx : List Ty) (f e : Term) (o p r : Option Ty) → IsTypeOf ctx f o → IsTypeOf ctx e p → IsResult o p r → IsTypeOf ctx (term.App f e) r
app_type ctx f e o p (Some b) k l (a, g, h) = HasType.app {a = a} f e (subst (IsTypeOf ctx f) g k) (subst (IsTypeOf ctx e) h l)
app_type ctx f e o p None k l lacks = λ b m.
    let (a, g, h) = of_app ctx f e b m in
    lacks a b ((the_type o k (ty.Arrow a b)).1 g) ((the_type p l a).1 h)

-- lists
pub types_of : {ctx : List Ty} {ts : List Term} (o : Option (List Ty)) → AreTypesOf ctx ts o → (types : List Ty) → HaveTypes ctx ts types → o ≡ Some types
types_of (Some others) ks types ls = ap Some (one_types ks types ls)
types_of None lacks types ls = absurd (lacks types ls)

is_equal : (n m : ℕ) → (n == m) ≡ true → n ≡ m
is_equal n m h = grind arith

equal_is : (n m : ℕ) → n ≡ m → (n == m) ≡ true
equal_is n m h = grind arith

pub tup_type : (ctx : List Ty) (ts : List Term) (o : Option (List Ty)) → AreTypesOf ctx ts o → IsTypeOf ctx (term.Tup ts) (tuple_of o)
tup_type ctx ts None lacks = λ c k. let (types, e, less, ls) = of_tup ctx ts c k in lacks types ls
tup_type ctx ts (Some types) ks = go (length types == 1) refl
  where
    go : (b : Bool) → (length types == 1) ≡ b → IsTypeOf ctx (term.Tup ts) (if b then None else Some (ty.Tup types))
    go true p = λ c k.
        let (others, e, less, ls) = of_tup ctx ts c k in
        less (ap length (sym (one_types ks others ls)) ∙ is_equal (length types) 1 p)
    go false p = HasType.tup ts types (λ q. true≢false (ap (λ n. n == 1) (sym q) ∙ p)) ks

-- the answer at a tuple type
component_typed : (ctx : List Ty) (i n : ℕ) (e : Term) (types : List Ty) → HasType ctx e (ty.Tup types) → (same one : Bool) → (length types == n) ≡ same → (n == 1) ≡ one → IsTypeOf ctx (term.Proj i n e) (if same then (if one then None else from_one types i) else None)
component_typed ctx i n e types k false one p q = λ a l.
    let (j, others, at, m, less, r, h) = of_proj ctx i n e a l in
    true≢false (sym (equal_is (length types) n (ap length (one_tuple types others (one_type k (ty.Tup others) h)) ∙ sym m)) ∙ p)
component_typed ctx i n e types k true true p q = λ a l.
    let (j, others, at, m, less, r, h) = of_proj ctx i n e a l in
    less (sym m ∙ is_equal n 1 q)
component_typed ctx zero n e types k true false p q = λ a l.
    let (j, others, at, m, less, r, h) = of_proj ctx 0 n e a l in
    let never : ⊥ = omega (arith, at) in never
component_typed ctx (suc i) n e types k true false p q = go (slice_get types i) refl
  where
    size : length types ≡ n
    size = is_equal (length types) n p

    go : (o : Option Ty) → slice_get types i ≡ o → IsTypeOf ctx (term.Proj (suc i) n e) o
    go (Some a) r = subst₂ (λ x y. HasType ctx (term.Proj x y e) a) (add-one i) size (HasType.proj i e types (λ s. true≢false (sym (equal_is n 1 (sym size ∙ s)) ∙ q)) r k)
    go None r = λ a l.
        let (j, others, at, m, less, s, h) = of_proj ctx (suc i) n e a l in
        none_not a (sym r ∙ ap₂ slice_get (one_tuple types others (one_type k (ty.Tup others) h)) (same_place i j (add-one i ∙ at)) ∙ s)

abbrev IsTup : Ty-F Ty Field → Type 0
IsTup (Tup types) = Unit {0}
IsTup _ = ⊥

pub proj_type : (ctx : List Ty) (i n : ℕ) (e : Term) (o : Option Ty) → IsTypeOf ctx e o → IsTypeOf ctx (term.Proj i n e) (component i n o)
proj_type ctx i n e None lacks = λ a l. let (j, others, at, m, less, s, h) = of_proj ctx i n e a l in lacks (ty.Tup others) h
proj_type ctx i n e (Some t) k = viewed (out-Ty t) refl
  where
    other : ((types : List Ty) → ¬ (t ≡ ty.Tup types)) → (a : Ty) → ¬ (HasType ctx (term.Proj i n e) a)
    other lacks = λ a l. let (j, others, at, m, less, s, h) = of_proj ctx i n e a l in lacks others (one_type k (ty.Tup others) h)

    not_tuple : (v : Ty-F Ty Field) → out-Ty t ≡ v → ((types : List Ty) → ¬ (v ≡ Tup types)) → (a : Ty) → ¬ (HasType ctx (term.Proj i n e) a)
    not_tuple v p lacks = other (λ types q. lacks types (sym p ∙ ap out-Ty q ∙ out_tup types))

    viewed : (v : Ty-F Ty Field) → out-Ty t ≡ v → IsTypeOf ctx (term.Proj i n e) (component_step i n v)
    viewed (Tup types) p = component_typed ctx i n e types (subst (HasType ctx e) (is_tuple t types p) k) (length types == n) (n == 1) refl refl
    viewed (Var v) p = not_tuple (Var v) p (λ types q. subst IsTup (sym q) tt)
    viewed (Con name ts) p = not_tuple (Con name ts) p (λ types q. subst IsTup (sym q) tt)
    viewed (Rec fields) p = not_tuple (Rec fields) p (λ types q. subst IsTup (sym q) tt)
    viewed (Arrow a b) p = not_tuple (Arrow a b) p (λ types q. subst IsTup (sym q) tt)

-- the same for what is answered where memory suffices
if_ok : {A E : Type 0} {P Q : A → Type 0} (r : Result A E) → ((x : A) → P x → Q x) → IfOk r P → IfOk r Q
if_ok (Ok x) f p = f x p
if_ok (Err e) f p = tt

module _ (ctx : List Ty) (t : Term) where
  pub var_answer : (n : ℕ) (seen : List Ty) (r : Result (Option Ty) NoMemory) → t ≡ term.Var n → seen ≡ ctx → IfOk r (λ o. o ≡ if_type (slice_get seen n)) → IfOk r (λ o. IsTypeOf ctx t o)
  var_answer n seen r is seen_is = if_ok r (λ o e. subst (λ u. IsTypeOf ctx u o) (sym is) (var_type ctx n o (e ∙ ap (λ x. if_type (slice_get x n)) seen_is)))

  pub lam_answer : (a x y : Ty) (body part : Term) (inner : List Ty) (b : Option Ty) (r : Result (Option Ty) NoMemory) → t ≡ term.Lam a body → x ≡ a → y ≡ a → part ≡ body → inner ≡ ctx ++ x ∷ [] → IsTypeOf inner part b → IfOk r (λ o. o ≡ function_from y b) → IfOk r (λ o. IsTypeOf ctx t o)
  lam_answer a x y body part inner b r is x_is y_is part_is inner_is k = if_ok r (λ o e.
      subst₂ (IsTypeOf ctx) (sym is) (ap (λ z. function_from z b) (sym y_is) ∙ sym e)
      (lam_type ctx a body b (subst₂ (λ c u. IsTypeOf c u b) (inner_is ∙ ap (λ z. ctx ++ z ∷ []) x_is) part_is k)))

  pub app_answer : (f e g h : Term) (o p : Option Ty) (r : Result (Option Ty) NoMemory) → t ≡ term.App f e → g ≡ f → h ≡ e → IsTypeOf ctx g o → IsTypeOf ctx h p → IfOk r (IsResult o p) → IfOk r (IsTypeOf ctx t)
  app_answer f e g h o p r is g_is h_is k l = if_ok r (λ a m. subst (λ u. IsTypeOf ctx u a) (ap₂ term.App g_is h_is ∙ sym is) (app_type ctx g h o p a k l m))

  pub tup_answer : (terms seen : List Term) (o : Option (List Ty)) (r : Result (Option Ty) NoMemory) → t ≡ term.Tup terms → seen ≡ terms → AreTypesOf ctx seen o → IfOk r (λ a. a ≡ tuple_of o) → IfOk r (IsTypeOf ctx t)
  tup_answer terms seen o r is seen_is k = if_ok r (λ a e. subst₂ (IsTypeOf ctx) (ap term.Tup seen_is ∙ sym is) (sym e) (tup_type ctx seen o k))

  pub proj_answer : (i n : ℕ) (e g : Term) (o : Option Ty) (r : Result (Option Ty) NoMemory) → t ≡ term.Proj i n e → g ≡ e → IsTypeOf ctx g o → IfOk r (λ a. a ≡ component i n o) → IfOk r (λ a. IsTypeOf ctx t a)
  proj_answer i n e g o r is g_is k = if_ok r (λ a p. subst₂ (IsTypeOf ctx) (ap (term.Proj i n) g_is ∙ sym is) (sym p) (proj_type ctx i n g o k))

-- terms one after the other
pub have_more : (ctx : List Ty) (terms : List Term) (i : ℕ) (done : List Ty) (t : Term) (a : Ty) → HaveTypes ctx (take i terms) done → i < length terms → t ≡ get_or terms i t → HasType ctx t a → HaveTypes ctx (take (suc i) terms) (done ++ a ∷ [])
have_more ctx [] i done t a ks l is k = let never : ⊥ = omega (arith, l) in absurd never
have_more ctx (u ∷ us) zero [] t a ks l is k = HaveTypes.more (subst (λ z. HasType ctx z a) is k) HaveTypes.none
have_more ctx (u ∷ us) zero (b ∷ done) t a ks l is k = elim ks [ ]
have_more ctx (u ∷ us) (suc i) [] t a ks l is k = elim ks [ ]
have_more ctx (u ∷ us) (suc i) (b ∷ done) t a (HaveTypes.more k ks) l is m =
    let less : i < length us = omega (arith, l) in
    HaveTypes.more k (have_more ctx us i done t a ks less is m)

pub one_missing : (ctx : List Ty) (terms : List Term) (i : ℕ) (t : Term) → i < length terms → t ≡ get_or terms i t → ((a : Ty) → ¬ (HasType ctx t a)) → (types : List Ty) → ¬ (HaveTypes ctx terms types)
one_missing ctx [] i t l is lacks types ks = let never : ⊥ = omega (arith, l) in never
one_missing ctx (u ∷ us) zero t l is lacks [] ks = elim ks [ ]
one_missing ctx (u ∷ us) zero t l is lacks (a ∷ types) (HaveTypes.more k ks) = lacks a (subst (λ z. HasType ctx z a) (sym is) k)
one_missing ctx (u ∷ us) (suc i) t l is lacks [] ks = elim ks [ ]
one_missing ctx (u ∷ us) (suc i) t l is lacks (a ∷ types) (HaveTypes.more k ks) =
    let less : i < length us = omega (arith, l) in
    one_missing ctx us i t less is lacks types ks

pub the_answer : (ctx seen : List Ty) (t : Term) (r : Result (Option Ty) NoMemory) → seen ≡ ctx → IfOk r (λ o. IsTypeOf seen t o) → IfOk r (λ o. (a : Ty) → (o ≡ Some a) ↔ HasType ctx t a)
the_answer ctx seen t r is = if_ok r (λ o k. the_type o (subst (λ c. IsTypeOf c t o) is k))

pub no_answer : (ctx seen : List Ty) (t : Term) (r : Result (Option Ty) NoMemory) → seen ≡ ctx → IfOk r (λ o. IsTypeOf seen t o) → IfOk r (λ o. (o ≡ None) ↔ ((a : Ty) → ¬ (HasType ctx t a)))
no_answer ctx seen t r is = if_ok r (λ o k. no_type o (subst (λ c. IsTypeOf c t o) is k))
