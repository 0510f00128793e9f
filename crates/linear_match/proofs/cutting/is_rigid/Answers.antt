use Rattle.std.proofs.Common.{sym, ap, ◌∙◌, subst}
use Rattle.type_core.specs.declared.ty.Ty.TheVariants.{outs-Con, outs-Rec}
use Rattle.type_core.specs.declared.ty.Ty.TheViews.{out-Ty}
use Rattle.linear_match.specs.search.Tasks.{IsRigid, application, labelled}
use Rattle.linear_match.proofs.cutting.is_rigid.Goals as goal

pub returns-in-Con : goal.returns-in-Con
returns-in-Con c =
    record { value = λ e. subst IsRigid (sym (ap out-Ty c.in-Con.is ∙ outs-Con _ _)) (application _ _) }

pub returns-in-Rec : goal.returns-in-Rec
returns-in-Rec c =
    record { value = λ e. subst IsRigid (sym (ap out-Ty c.in-Rec.is ∙ outs-Rec _)) (labelled _) }
