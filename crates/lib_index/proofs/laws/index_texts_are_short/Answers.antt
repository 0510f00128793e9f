use Rattle.lib_index.proofs.TextLength.{text_length}
use Rattle.lib_index.proofs.laws.index_texts_are_short.Goals as goal

pub returns : goal.returns
returns c = record { law = text_length }
