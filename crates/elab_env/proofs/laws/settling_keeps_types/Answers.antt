use Rattle.elab_env.proofs.NameLists.{keeps_settled, still_over}
use Rattle.elab_env.proofs.laws.settling_keeps_types.Goals as goal

pub returns : goal.returns
returns c = record { law = λ names n equality. still_over names _ (keeps_settled n equality names) }
