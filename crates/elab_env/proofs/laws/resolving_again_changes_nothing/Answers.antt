use Rattle.elab_env.proofs.Resolved.{resolved_again}
use Rattle.elab_env.proofs.laws.resolving_again_changes_nothing.Goals as goal

pub returns : goal.returns
returns c = record { law = resolved_again }
