use Rattle.ty_parser.specs.Phrases.{PhraseFrom}
use Rattle.ty_parser.proofs.Stops.{no_depth}
use Rattle.ty_parser.proofs.laws.no_depth.Goals as goal

pub returns : goal.returns
returns c = record { law = λ outside first ss j k stops shallow deep. no_depth (PhraseFrom first) ss outside j k stops.reaches shallow deep }
