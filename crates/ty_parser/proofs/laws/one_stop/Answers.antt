use Rattle.ty_parser.specs.Phrases.{PhraseFrom}
use Rattle.ty_parser.proofs.Stops.{one_stop}
use Rattle.ty_parser.proofs.laws.one_stop.Goals as goal

pub returns : goal.returns
returns c = record { law = λ first ss j k at_j at_k. one_stop (PhraseFrom first) ss j k at_j at_k }
