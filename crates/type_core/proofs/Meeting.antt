-- Meeting the variables of one type or list after those of another.
use Rattle.std.proofs.Common.{◌≡◌, List, [], ◌∷◌, ◌++◌, refl, sym, ap, ◌∙◌}
use Rattle.type_core.specs.declared.ty.VarId.{VarId}
use Rattle.type_core.specs.declared.ty.Ty.{Ty}
use Rattle.type_core.specs.declared.ty.Field.{Field}
use Rattle.type_core.specs.declared.ty.Ty.TheVariants as ty
use Rattle.type_core.specs.Variables.{variables, field_variables, meet, meet_all}
use Rattle.type_core.proofs.Trees.{variables_arrow, variables_field}

pub meet_appended : (met vs ws : List VarId) → meet_all met (vs ++ ws) ≡ meet_all (meet_all met vs) ws
meet_appended met [] ws = refl
meet_appended met (v ∷ vs) ws = meet_appended (meet met v) vs ws

pub meet_arrow : (met first last : List VarId) (a b t : Ty) → t ≡ ty.Arrow a b → first ≡ meet_all met (variables a) → last ≡ meet_all first (variables b) → last ≡ meet_all met (variables t)
meet_arrow met first last a b t e f g = g ∙ ap (λ x. meet_all x (variables b)) f ∙ sym (meet_appended met (variables a) (variables b)) ∙ sym (ap (meet_all met) (ap variables e ∙ variables_arrow a b))

pub meet_field : (met new : List VarId) (field : Field) → new ≡ meet_all met (variables field.ty) → new ≡ meet_all met (field_variables field)
meet_field met new field e = e ∙ ap (meet_all met) (sym (variables_field field))

pub ruleset meeting = (meet_appended, meet_arrow, meet_field)
