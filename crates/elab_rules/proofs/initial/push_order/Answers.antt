use Rattle.std.proofs.Common.{◌++◌, ◌∷◌, [], ap, ◌∙◌, codes}
use Rattle.std.proofs.lemmas.Result.{on_ok_weaker}
use Rattle.elab_rules.specs.InitialEnvironment.{constant, initial_type}
use Rattle.elab_rules.proofs.initial.push_order.Goals as goal

pub returns : goal.returns
returns c = record {
  pushed = on_ok_weaker c.push_type.result
      (λ is.
      is
      ∙ ap (λ body. c.args.env.now ++ initial_type (codes "order") 0 body c.in_ok-constructors.constructors ∷ []) c.constant.ensures.value
      ∙ ap (λ constructors. c.args.env.now ++ initial_type (codes "order") 0 (constant 8) constructors ∷ []) c.in_ok-constructors.ensures.value)
      c.push_type.ensures.pushed;
}
