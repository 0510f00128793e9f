-- `==` on tops is equality.
use Rattle.std.proofs.Common.{◌≡◌, ◌==◌, ℕ, Bool, true, false, List, [], ◌∷◌, refl, sym, ap, ap₂, arith, true≢false}
use Rattle.std.proofs.lemmas.Bool.Decides.{nat_tests}
use Rattle.std.specs.Cmp.Lexicographic.{pointwise}
use Rattle.type_core.specs.declared.ty.VarId.{VarId}
use Rattle.type_core.specs.declared.ty.NameId.{NameId}
use Rattle.type_core.specs.contracts.ty.VarIdPartialEq.TheImpl as var_compare
use Rattle.type_core.specs.contracts.ty.NameIdPartialEq.TheImpl as name_compare
use Rattle.type_intern.specs.declared.node.TyId.{TyId}
use Rattle.type_intern.specs.declared.node.FieldId.{FieldId}
use Rattle.type_intern.specs.declared.node.Node.{Node}
use Rattle.type_intern.specs.declared.node.Node.TheVariants.{Var, Con, Rec, Tup, Arrow}
use Rattle.type_intern.specs.contracts.node.NodePartialEq.TheImpl.{eq-value}
use Rattle.type_intern.specs.contracts.node.NodeEq.TheImpl.Laws.{laws-law}
use Rattle.std.proofs.lemmas.Bool.{and_parts}
use mathlib.Core.Bool.{beq}
use Rattle.type_intern.specs.contracts.node.TyIdPartialEq.TheImpl as id_compare
use Rattle.type_intern.specs.contracts.node.FieldIdPartialEq.TheImpl as field_compare

abbrev pub node_eq : Node → Node → Bool
node_eq a b = eq-value.it a b

abbrev id_eq : TyId → TyId → Bool
id_eq a b = id_compare.eq-value.it a b

abbrev field_eq : FieldId → FieldId → Bool
field_eq a b = field_compare.eq-value.it a b

abbrev var_eq : VarId → VarId → Bool
var_eq a b = var_compare.eq-value.it a b

abbrev name_eq : NameId → NameId → Bool
name_eq a b = name_compare.eq-value.it a b

-- a test that only equal values pass, and one that each value passes beside itself
abbrev pub OnlyEqual : {A : Type 0} → (A → A → Bool) → Type 0
OnlyEqual {A} test = (a b : A) → test a b ≡ true → a ≡ b

abbrev pub PassedBeside : {A : Type 0} → (A → A → Bool) → Type 0
PassedBeside {A} test = (a : A) → test a a ≡ true

pub pointwise_same : {A : Type 0} (test : A → A → Bool) → OnlyEqual test → (xs ys : List A)
    → pointwise test xs ys ≡ true → xs ≡ ys
pointwise_same test same [] [] e = refl
pointwise_same test same [] (y ∷ ys) e = absurd (true≢false (sym e))
pointwise_same test same (x ∷ xs) [] e = absurd (true≢false (sym e))
pointwise_same test same (x ∷ xs) (y ∷ ys) e =
    let parts = and_parts (test x y) (pointwise test xs ys) e in
    ap₂ ◌∷◌ (same x y parts.0) (pointwise_same test same xs ys parts.1)

pub number_same : (m n : ℕ) → (m == n) ≡ true → m ≡ n
number_same m n e = grind (arith, nat_tests)

pub id_eq_same : OnlyEqual id_eq
id_eq_same a b e = ap (λ (n : ℕ). record { 0 = n }) (number_same a.0 b.0 e)

mark_same : (m n : Bool) → beq m n ≡ true → m ≡ n
mark_same true true e = refl
mark_same true false e = absurd (true≢false (sym e))
mark_same false true e = absurd (true≢false (sym e))
mark_same false false e = refl

name_eq_same : OnlyEqual name_eq
name_eq_same a b e = ap (λ (n : ℕ). record { 0 = n }) (number_same a.0 b.0 e)

var_eq_same : OnlyEqual var_eq
var_eq_same a b e =
    let parts = and_parts (a.n == b.n) (beq a.eq b.eq) e in
    ap₂ (λ (n : ℕ) (m : Bool). record { n = n; eq = m }) (number_same a.n b.n parts.0) (mark_same a.eq b.eq parts.1)

field_eq_same : OnlyEqual field_eq
field_eq_same a b e =
    let parts = and_parts (pointwise ◌==◌ a.label b.label) (id_eq a.ty b.ty) e in
    ap₂ (λ (l : List ℕ) (t : TyId). record { label = l; ty = t }) (pointwise_same ◌==◌ number_same a.label b.label
    parts.0) (id_eq_same a.ty b.ty parts.1)

pub node_eq_same : OnlyEqual node_eq
node_eq_same (Var v) (Var w) e = ap Var (var_eq_same v w e)
node_eq_same (Con name ids) (Con other js) e =
    let parts = and_parts (name_eq name other) (pointwise id_eq ids js) e in
    ap₂ Con (name_eq_same name other parts.0) (pointwise_same id_eq id_eq_same ids js parts.1)
node_eq_same (Rec fs) (Rec gs) e = ap Rec (pointwise_same field_eq field_eq_same fs gs e)
node_eq_same (Tup ids) (Tup js) e = ap Tup (pointwise_same id_eq id_eq_same ids js e)
node_eq_same (Arrow a b) (Arrow c d) e =
    let parts = and_parts (id_eq a c) (id_eq b d) e in
    ap₂ Arrow (id_eq_same a c parts.0) (id_eq_same b d parts.1)
node_eq_same (Var v) (Con other js) e = absurd (true≢false (sym e))
node_eq_same (Var v) (Rec gs) e = absurd (true≢false (sym e))
node_eq_same (Var v) (Tup js) e = absurd (true≢false (sym e))
node_eq_same (Var v) (Arrow c d) e = absurd (true≢false (sym e))
node_eq_same (Con name ids) (Var w) e = absurd (true≢false (sym e))
node_eq_same (Con name ids) (Rec gs) e = absurd (true≢false (sym e))
node_eq_same (Con name ids) (Tup js) e = absurd (true≢false (sym e))
node_eq_same (Con name ids) (Arrow c d) e = absurd (true≢false (sym e))
node_eq_same (Rec fs) (Var w) e = absurd (true≢false (sym e))
node_eq_same (Rec fs) (Con other js) e = absurd (true≢false (sym e))
node_eq_same (Rec fs) (Tup js) e = absurd (true≢false (sym e))
node_eq_same (Rec fs) (Arrow c d) e = absurd (true≢false (sym e))
node_eq_same (Tup ids) (Var w) e = absurd (true≢false (sym e))
node_eq_same (Tup ids) (Con other js) e = absurd (true≢false (sym e))
node_eq_same (Tup ids) (Rec gs) e = absurd (true≢false (sym e))
node_eq_same (Tup ids) (Arrow c d) e = absurd (true≢false (sym e))
node_eq_same (Arrow a b) (Var w) e = absurd (true≢false (sym e))
node_eq_same (Arrow a b) (Con other js) e = absurd (true≢false (sym e))
node_eq_same (Arrow a b) (Rec gs) e = absurd (true≢false (sym e))
node_eq_same (Arrow a b) (Tup js) e = absurd (true≢false (sym e))

pub node_eq_itself : PassedBeside node_eq
node_eq_itself = laws-law.refl
