use Rattle.elab_types.proofs.ManyFields.{fewer_fields}
use Rattle.elab_types.proofs.laws.records_have_nodes.Goals as goal

pub returns : goal.returns
returns c = record { law = fewer_fields }
