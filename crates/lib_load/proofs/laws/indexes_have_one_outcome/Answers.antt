use Rattle.lib_load.proofs.OneIndex.{one_index}
use Rattle.lib_load.proofs.laws.indexes_have_one_outcome.Goals as goal

pub returns : goal.returns
returns c = record { law = one_index c.index_texts_tell_libraries.ensures.law }
