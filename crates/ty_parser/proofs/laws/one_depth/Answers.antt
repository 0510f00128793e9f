use Rattle.ty_parser.specs.Phrases.{PhraseFrom}
use Rattle.ty_parser.proofs.Stops.{one_depth}
use Rattle.ty_parser.proofs.laws.one_depth.Goals as goal

pub returns : goal.returns
returns c = record { law = λ outside first ss. one_depth (PhraseFrom first) ss outside }
