-- The views of types, and what they tell apart.
use Rattle.std.proofs.Common.{◌≡◌, List, rules, sym, ap, ◌∙◌, subst}
use Rattle.type_core.specs.declared.ty.VarId.{VarId}
use Rattle.type_core.specs.declared.ty.NameId.{NameId}
use Rattle.type_core.specs.declared.ty.Field.{Field}
use Rattle.type_core.specs.declared.ty.Ty.{Ty, out-Ty}
use Rattle.type_core.specs.declared.ty.Ty.TheVariants as ty
use Rattle.type_core.specs.declared.ty.Ty.TheVariants.{rolls-Tup}
use Rattle.type_core.specs.declared.ty.Ty.TheOpen.{Ty-F, Var, Con, Rec, Tup, Arrow}
use Rattle.type_core.specs.declared.ty.Ty.TheViews.{the_lemmas}

pub out_var : (v : VarId) → out-Ty (ty.Var v) ≡ Var v
out_var v = search (rules, the_lemmas)

pub out_con : (name : NameId) (ts : List Ty) → out-Ty (ty.Con name ts) ≡ Con name ts
out_con name ts = search (rules, the_lemmas)

pub out_rec : (fields : List Field) → out-Ty (ty.Rec fields) ≡ Rec fields
out_rec fields = search (rules, the_lemmas)

pub out_tup : (ts : List Ty) → out-Ty (ty.Tup ts) ≡ Tup ts
out_tup ts = search (rules, the_lemmas)

pub out_arrow : (a b : Ty) → out-Ty (ty.Arrow a b) ≡ Arrow a b
out_arrow a b = search (rules, the_lemmas)

pub ruleset out_at = (out_var, out_con, out_rec, out_tup, out_arrow)

abbrev domain : Ty → Ty-F Ty Field → Ty
domain other (Arrow a b) = a
domain other _ = other

abbrev range : Ty → Ty-F Ty Field → Ty
range other (Arrow a b) = b
range other _ = other

abbrev parts : List Ty → Ty-F Ty Field → List Ty
parts other (Tup ts) = ts
parts other _ = other

pub one_domain : (a b c d : Ty) → ty.Arrow a b ≡ ty.Arrow c d → a ≡ c
one_domain a b c d e = sym (ap (domain a) (out_arrow a b)) ∙ ap (λ t. domain a (out-Ty t)) e ∙ ap (domain a) (out_arrow c d)

pub one_range : (a b c d : Ty) → ty.Arrow a b ≡ ty.Arrow c d → b ≡ d
one_range a b c d e = sym (ap (range b) (out_arrow a b)) ∙ ap (λ t. range b (out-Ty t)) e ∙ ap (range b) (out_arrow c d)

pub one_tuple : (ts us : List Ty) → ty.Tup ts ≡ ty.Tup us → ts ≡ us
one_tuple ts us e = sym (ap (parts ts) (out_tup ts)) ∙ ap (λ t. parts ts (out-Ty t)) e ∙ ap (parts ts) (out_tup us)

pub is_tuple : (t : Ty) (ts : List Ty) → out-Ty t ≡ Tup ts → t ≡ ty.Tup ts
is_tuple t ts e = search (rules, the_lemmas)

-- a function type is no tuple type
abbrev IsFunction : Ty-F Ty Field → Type 0
IsFunction (Arrow a b) = Unit {0}
IsFunction _ = ⊥

pub no_function : (a b : Ty) (ts : List Ty) → ¬ (ty.Arrow a b ≡ ty.Tup ts)
no_function a b ts e = subst IsFunction (sym (out_arrow a b) ∙ ap out-Ty e ∙ out_tup ts) tt
