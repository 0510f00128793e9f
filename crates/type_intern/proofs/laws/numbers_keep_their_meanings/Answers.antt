use Rattle.type_intern.proofs.Firsts.{first_stays}
use Rattle.type_intern.proofs.Places.{stays}
use Rattle.type_intern.proofs.Rows.{keeps_on}
use Rattle.type_intern.proofs.laws.numbers_keep_their_meanings.Goals as goal

pub returns : goal.returns
returns c = record {
  types = λ old new i t keeps at. stays old.types new.types keeps.types i t at;
  coords = λ old new i d keeps at. stays old.coords new.coords keeps.coords i d at;
  canonical = λ old new d n keeps p. first_stays _ old.coords new.coords keeps.coords n p;
  keys = λ old new cs n keeps p. first_stays _ old.keys new.keys keeps.keys n p;
  onwards = keeps_on;
}
