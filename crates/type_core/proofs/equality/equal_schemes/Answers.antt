use Rattle.type_core.proofs.Closed.{equal_where_renamed, renamed_where_equal}
use Rattle.type_core.proofs.equality.equal_schemes.Goals as goal

pub returns : goal.returns
returns c = record { value = (λ e. renamed_where_equal c.args.a.now c.args.b.now (c.same.ensures.value.0 e), λ h. c.same.ensures.value.1 (equal_where_renamed c.args.a.now c.args.b.now c.requires.first c.requires.second h)) }
