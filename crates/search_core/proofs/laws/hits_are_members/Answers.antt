use Rattle.search_core.proofs.Found.{are_members}
use Rattle.search_core.proofs.laws.hits_are_members.Goals as goal

pub returns : goal.returns
returns c = record { law = are_members }
