use Rattle.elab_env.proofs.Resolved.{resolved_more}
use Rattle.elab_env.proofs.laws.resolving_one_realization_more.Goals as goal

pub returns : goal.returns
returns c = record { law = resolved_more }
