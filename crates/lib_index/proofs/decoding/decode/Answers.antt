use Rattle.lib_index.proofs.OneLibrary.{no_heading}
use Rattle.lib_index.proofs.decoding.decode.Goals as goal

pub returns-in-None-clause-not_an_index : goal.returns-in-None-clause-not_an_index
returns-in-None-clause-not_an_index c = λ _. no_heading c.args.bytes.now c.in-None.ensures.cases
