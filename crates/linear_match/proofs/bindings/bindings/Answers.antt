use Rattle.std.proofs.Common.{◌++◌, ◌∷◌, [], sym, ap₂, ◌∙◌}
use Rattle.linear_match.specs.search.Bindings.{meetings_of}
use Rattle.linear_match.proofs.Firsts.{bindings_more}
use Rattle.linear_match.proofs.bindings.bindings.Goals as goal

pub loop-n-preserved : goal.loop-n-preserved
loop-n-preserved c = c.in_ok-push.ensures.pushed
    ∙ ap₂ (λ xs x. xs ++ x ∷ []) c.loop-n.invariant c.in_ok-binding.ensures.value
    ∙ sym (bindings_more (meetings_of c.args.met.now) c.loop-n.n)
