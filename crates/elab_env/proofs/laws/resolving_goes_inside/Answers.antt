use Rattle.elab_env.proofs.Resolved.{resolved_var, resolved_rec, resolved_tup, resolved_arrow}
use Rattle.elab_env.proofs.laws.resolving_goes_inside.Goals as goal

pub returns : goal.returns
returns c = record { variable = resolved_var; record_type = resolved_rec; tuple = resolved_tup; arrow = resolved_arrow }
