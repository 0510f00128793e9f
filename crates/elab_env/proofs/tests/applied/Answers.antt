use Rattle.std.proofs.Common.{refl, ap, ◌∙◌}
use Rattle.std.proofs.lemmas.Bool.{eq-eqb}
use Rattle.type_core.specs.Types.{takes}
use Rattle.elab_env.proofs.Joined.{name_is_over}
use Rattle.elab_env.proofs.tests.applied.Goals as goal

pub returns : goal.returns
returns c = record {
  over = (name_is_over _ c.args.n.0 c.name.result.now.arity _ c.in_ok-body.ensures.value
      (ap (λ o. takes o c.name.result.now.arity) c.name.ensures.value ∙ eq-eqb c.name.result.now.arity c.name.result.now.arity refl)).over;
}
