use Rattle.ty_parser.specs.Phrases.{PhraseFrom}
use Rattle.ty_parser.proofs.Stops.{one_reach}
use Rattle.ty_parser.proofs.laws.one_front.Goals as goal

pub returns : goal.returns
returns c = record { law = λ outside first ss j k at_j at_k. one_reach (PhraseFrom first) ss j k at_j.reaches at_k.reaches }
