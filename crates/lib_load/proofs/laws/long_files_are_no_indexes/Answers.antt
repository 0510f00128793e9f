use Rattle.lib_load.proofs.OneIndex.{long_no_index}
use Rattle.lib_load.proofs.laws.long_files_are_no_indexes.Goals as goal

pub returns : goal.returns
returns c = record { law = long_no_index c.index_texts_are_short.ensures.law }
