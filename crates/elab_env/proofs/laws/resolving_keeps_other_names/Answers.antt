use Rattle.elab_env.proofs.Resolved.{resolved_other}
use Rattle.elab_env.proofs.laws.resolving_keeps_other_names.Goals as goal

pub returns : goal.returns
returns c = record { law = resolved_other }
