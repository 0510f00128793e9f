use Rattle.elab_env.proofs.Resolved.{resolved_over, resolved_type, resolved_variables}
use Rattle.elab_env.proofs.laws.resolving_keeps_types.Goals as goal

pub returns : goal.returns
returns c = record { over = resolved_over; type_stays = resolved_type; variables = resolved_variables }
