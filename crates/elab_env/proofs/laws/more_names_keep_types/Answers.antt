use Rattle.elab_env.proofs.NameLists.{keeps_appended, still_over}
use Rattle.elab_env.proofs.laws.more_names_keep_types.Goals as goal

pub returns : goal.returns
returns c = record { law = λ names more. still_over names _ (keeps_appended names more) }
