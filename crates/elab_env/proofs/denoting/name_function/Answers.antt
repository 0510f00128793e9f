use Rattle.std.proofs.Common.{sym, ap, ◌∙◌, ◌++◌, ◌∷◌, []}
use Rattle.elab_env.specs.Parameters.{parameter}
use Rattle.elab_env.proofs.ParameterLists.{parameters-more}
use Rattle.elab_env.proofs.denoting.name_function.Goals as goal

pub loop-n-preserved : goal.loop-n-preserved
loop-n-preserved c = c.in_ok-push.ensures.pushed ∙ ap (λ ts. ts ++ parameter c.loop-n.n ∷ []) c.loop-n.invariant ∙ sym (parameters-more c.loop-n.n)
