use Rattle.elab_env.proofs.Resolved.{resolved_substituted}
use Rattle.elab_env.proofs.laws.resolving_goes_through_substitution.Goals as goal

pub returns : goal.returns
returns c = record { law = resolved_substituted }
