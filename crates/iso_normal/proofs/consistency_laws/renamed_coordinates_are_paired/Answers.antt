use Rattle.std.proofs.Common.{refl}
use Rattle.iso_normal.proofs.Consistent.{consistent_pairs, pairs_renamed, renamed_pairs}
use Rattle.iso_normal.proofs.consistency_laws.renamed_coordinates_are_paired.Goals as goal

pub returns : goal.returns
returns c = record {
  law = λ r c d p. (λ paired. pairs_renamed r paired, λ paired. renamed_pairs r paired c refl);
  consistent = consistent_pairs;
}
