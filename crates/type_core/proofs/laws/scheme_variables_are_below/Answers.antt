use Rattle.type_core.proofs.SchemeVariables.{scheme_variables_below}
use Rattle.type_core.proofs.laws.scheme_variables_are_below.Goals as goal

pub returns : goal.returns
returns c = record { law = scheme_variables_below }
