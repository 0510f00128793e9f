use Rattle.elab_env.proofs.Resolved.{resolved_is_resolved}
use Rattle.elab_env.proofs.laws.resolving_leaves_no_realized_name.Goals as goal

pub returns : goal.returns
returns c = record { law = resolved_is_resolved }
