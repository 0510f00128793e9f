use Rattle.sml_lexer.proofs.LongPlaces.{by_place}
use Rattle.sml_lexer.proofs.token_laws.long_identifiers_by_place.Goals as goal

pub returns : goal.returns
returns c = record { law = by_place }
