-- Meeting the variables of one type or list after those of another.
use Rattle.std.proofs.Common.{◌≡◌, Bool, List, [], ◌∷◌, ◌++◌, refl, sym, ap, ◌∙◌}
use Rattle.type_core.specs.declared.ty.VarId.{VarId}
use Rattle.type_core.specs.declared.ty.Ty.{Ty}
use Rattle.type_core.specs.declared.ty.Field.{Field}
use Rattle.type_core.specs.declared.ty.Ty.TheVariants as ty
use Rattle.type_core.specs.Variables.{variables, field_variables}
use Rattle.type_core.proofs.Trees.{variables_arrow, variables_field}
use Rattle.lib_index.specs.Marks.{mark_met, marks_met}

pub meet_appended : (met : List Bool) (vs ws : List VarId) → marks_met met (vs ++ ws) ≡ marks_met (marks_met met vs) ws
meet_appended met [] ws = refl
meet_appended met (v ∷ vs) ws = meet_appended (mark_met met v) vs ws

pub meet_arrow : (met first last : List Bool) (a b t : Ty) → t ≡ ty.Arrow a b → first ≡ marks_met met (variables a)
    → last ≡ marks_met first (variables b) → last ≡ marks_met met (variables t)
meet_arrow met first last a b t e f g = g ∙ ap (λ x. marks_met x (variables b)) f ∙ sym (meet_appended met
    (variables a) (variables b)) ∙ sym (ap (marks_met met) (ap variables e ∙ variables_arrow a b))

pub meet_field : (met new : List Bool) (field : Field) → new ≡ marks_met met (variables field.ty)
    → new ≡ marks_met met (field_variables field)
meet_field met new field e = e ∙ ap (marks_met met) (sym (variables_field field))

pub ruleset meeting = (meet_appended, meet_arrow, meet_field)
