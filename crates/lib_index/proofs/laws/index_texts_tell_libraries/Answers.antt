use Rattle.lib_index.proofs.OneLibrary.{one_library}
use Rattle.lib_index.proofs.laws.index_texts_tell_libraries.Goals as goal

pub returns : goal.returns
returns c = record { law = one_library }
