use Rattle.std.proofs.Common.{◌∙◌, ◌++◌, ap}
use Rattle.std.proofs.lemmas.Result.{IfOk-weaker}
use Rattle.conv_build.specs.direct.References.{references}
use Rattle.conv_build.specs.direct.TwoPasses.{leaves}
use Rattle.conv_build.proofs.BuiltConverters.{direct_is}
use Rattle.conv_build.proofs.converters.direct.Goals as goal

pub returns : goal.returns
returns c = record {
  value = IfOk-weaker c.abstraction.result _ _
      (λ r is. direct_is c.args.a.now c.args.b.now c.args.p.now _ _ _ _ r
      (c.as_slice.ensures.value ∙ c.in_ok-push_references.ensures.pushed ∙ ap (λ x. x ++ references 0 c.args.a.now) c.new-references.ensures.empty)
      (c.as_slice-2.ensures.value ∙ c.in_ok-push_leaves.ensures.pushed ∙ ap (λ x. x ++ leaves c.args.b.now 1) c.new-leaves.ensures.empty)
      c.in_ok-terms.ensures.value c.in_ok-body.ensures.value is)
      c.abstraction.ensures.value;
}
