use Rattle.std.proofs.Common.{refl}
use Rattle.type_core.specs.Coordinates.{coordinates}
use Rattle.iso_normal.proofs.Sound.{isomorphic_alike}
use Rattle.iso_normal.proofs.Complete.{alike_isomorphic}
use Rattle.iso_normal.proofs.Paired.{agree_of_pairs, paired}
use Rattle.iso_normal.proofs.laws.isomorphic_types_have_pairings.Goals as goal

pub returns : goal.returns
returns c = record { law = λ a b p q. (λ e. paired (isomorphic_alike e) (coordinates a) (coordinates b) refl refl, λ found. alike_isomorphic a b p q (agree_of_pairs found.1)) }
