use Rattle.std.proofs.Common.{◌≡◌}
use Rattle.type_core.specs.Renaming.{renamed}
use Rattle.iso_normal.proofs.InversePairs.{pairs_permuted}
use Rattle.iso_normal.proofs.pairing_laws.pairings_are_permuted.Goals as goal

pub returns : goal.returns
returns c = record { law = λ c d p. pairs_permuted ◌≡◌; renamed = λ r c d p. pairs_permuted (λ h k. renamed r h ≡ k) }
