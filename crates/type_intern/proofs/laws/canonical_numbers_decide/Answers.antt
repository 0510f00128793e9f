use Rattle.type_intern.proofs.Firsts.{canonical_decides}
use Rattle.type_intern.proofs.laws.canonical_numbers_decide.Goals as goal

pub returns : goal.returns
returns c = record { law = canonical_decides }
