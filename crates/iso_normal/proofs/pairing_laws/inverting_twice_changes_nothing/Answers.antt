use Rattle.iso_normal.proofs.Inverses.{inverse_permuted, inverse_twice}
use Rattle.iso_normal.proofs.pairing_laws.inverting_twice_changes_nothing.Goals as goal

pub returns : goal.returns
returns c = record { permuted = λ p. inverse_permuted; law = λ p. inverse_twice }
