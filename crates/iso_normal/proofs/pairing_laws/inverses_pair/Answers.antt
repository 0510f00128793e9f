use Rattle.std.proofs.Common.{◌≡◌, sym}
use Rattle.iso_normal.proofs.InversePairs.{inverse_pairs}
use Rattle.iso_normal.proofs.pairing_laws.inverses_pair.Goals as goal

pub returns : goal.returns
returns c = record { law = λ c d p. inverse_pairs ◌≡◌ ◌≡◌ (λ h k. sym) }
