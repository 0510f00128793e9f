use Rattle.conv_plain.proofs.Moves.{moved_length}
use Rattle.conv_plain.proofs.PlainConverters.{place_has_term}
use Rattle.conv_plain.proofs.laws.places_have_the_terms_of_their_entries.Goals as goal

pub returns : goal.returns
returns c = record { count = moved_length; law = place_has_term }
