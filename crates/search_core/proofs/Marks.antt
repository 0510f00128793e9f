-- Whether a marked variable occurs in one type or list, or in another.
use Rattle.std.proofs.Common.{◌≡◌, ℕ, ◌==◌, ◌&&◌, ◌||◌, Bool, true, false, List, [], ◌∷◌, ◌++◌, refl, sym, ap, ◌∙◌, arith}
use Rattle.std.proofs.Math.Bool.{or-false, or_assoc}
use Rattle.type_core.specs.declared.ty.VarId.{VarId}
use Rattle.type_core.specs.declared.ty.Ty.{Ty}
use Rattle.type_core.specs.declared.ty.Field.{Field}
use Rattle.type_core.specs.declared.ty.Ty.TheVariants as ty
use Rattle.type_core.specs.Variables.{field_variables, occurs, same_variable, variables}
use Rattle.search_core.specs.Converters.{marked}
use Rattle.type_core.proofs.Trees.{variables_arrow, variables_field, variables_var}

number_turned : (m n : ℕ) → (m == n) ≡ (n == m)
number_turned m n = grind arith

pub occurs_appended : (v : VarId) (vs ws : List VarId) → occurs v (vs ++ ws) ≡ (occurs v vs || occurs v ws)
occurs_appended v [] ws = refl
occurs_appended v (w ∷ vs) ws =
    ap (λ z. same_variable v w || z) (occurs_appended v vs ws)
    ∙ sym (or_assoc (same_variable v w) (occurs v vs) (occurs v ws))

pub marked_variable : (n : ℕ) (v : VarId) (t : Ty) → t ≡ ty.Var v
    → occurs (marked n) (variables t) ≡ ((v.n == n) && v.eq)
marked_variable n v t e =
    ap (occurs (marked n)) (ap variables e ∙ variables_var v)
    ∙ or-false ((n == v.n) && v.eq) ∙ ap (λ b. b && v.eq) (number_turned n v.n)

pub marked_arrow : (v : VarId) (a b t : Ty) → t ≡ ty.Arrow a b
    → occurs v (variables t) ≡ (occurs v (variables a) || occurs v (variables b))
marked_arrow v a b t e =
    ap (occurs v) (ap variables e ∙ variables_arrow a b) ∙ occurs_appended v (variables a) (variables b)

-- an arrow whose left side has it, and one whose left side doesn't
pub from_marked : (v : VarId) (a b t x : Ty) (found : Bool) → t ≡ ty.Arrow a b → x ≡ a → found ≡ occurs v (variables x)
    → found ≡ true → found ≡ occurs v (variables t)
from_marked v a b t x found e is value has =
    let left : occurs v (variables a) ≡ true = ap (λ u. occurs v (variables u)) (sym is) ∙ sym value ∙ has in
    has ∙ sym (marked_arrow v a b t e ∙ ap (λ z. z || occurs v (variables b)) left)

pub to_marked : (v : VarId) (a b t x y : Ty) (found last : Bool) → t ≡ ty.Arrow a b → x ≡ a → y ≡ b
    → found ≡ occurs v (variables x) → found ≡ false → last ≡ occurs v (variables y) → last ≡ occurs v (variables t)
to_marked v a b t x y found last e is also value lacks value_too =
    let left : occurs v (variables a) ≡ false = ap (λ u. occurs v (variables u)) (sym is) ∙ sym value ∙ lacks in
    value_too ∙ ap (λ u. occurs v (variables u)) also
    ∙ sym (marked_arrow v a b t e ∙ ap (λ z. z || occurs v (variables b)) left)

pub marked_field : (v : VarId) (field : Field) → occurs v (field_variables field) ≡ occurs v (variables field.ty)
marked_field v field = ap (occurs v) (variables_field field)

pub ruleset marking = (occurs_appended, marked_variable, marked_field)
