use Rattle.type_core.proofs.Listed.{renamed_is_substituted, scheme_listed}
use Rattle.type_core.proofs.laws.renaming_is_substitution.Goals as goal

pub returns : goal.returns
returns c = record { types = λ r t by. renamed_is_substituted r by t; schemes = scheme_listed }
