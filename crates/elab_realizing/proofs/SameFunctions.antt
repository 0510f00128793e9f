-- The test whether two type functions are one says so exactly where they are.
use Rattle.std.proofs.Common.{◌≡◌, ◌==◌, ◌&&◌, Bool, true, ap, ap₂, sym, ◌∙◌}
use Rattle.std.proofs.lemmas.Bool.{and_parts, eq-eqb, eqb-true}
use Rattle.std.proofs.lemmas.Bool.Decides.{same_from_decides}
use Rattle.type_core.specs.declared.type_fn.TypeFn.{TypeFn}
use Rattle.type_core.specs.EqualTypes.{types_equal}
use Rattle.type_core.proofs.EqualTypesDecide.{types_equal_decides}
use Rattle.elab_rules.specs.Sharing.{same_function}

-- of one arity, they are one where their bodies are
pub same_by_parts : (f g : TypeFn) (same : Bool) → f.arity ≡ g.arity → (same ≡ true → f.body ≡ g.body) → (f.body ≡ g.body → same ≡ true) → same ≡ same_function f g
same_by_parts f g same arity told tells =
    same_from_decides same (types_equal f.body g.body) (told, tells) (types_equal_decides f.body g.body)
    ∙ sym (ap (λ b. b && types_equal f.body g.body) (eq-eqb f.arity g.arity arity))

-- so where it says so they are one
pub one_by_test : (f g : TypeFn) → same_function f g ≡ true → f ≡ g
one_by_test f g same =
    let both = and_parts (f.arity == g.arity) (types_equal f.body g.body) same in
    ap₂ (λ a t. let h : TypeFn = record { arity = a; body = t } in h) (eqb-true f.arity g.arity both.0) ((types_equal_decides f.body g.body).0 both.1)
