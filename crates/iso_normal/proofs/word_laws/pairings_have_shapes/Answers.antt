use Rattle.iso_normal.proofs.WordsTell.{shape_of}
use Rattle.iso_normal.proofs.word_laws.pairings_have_shapes.Goals as goal

pub returns : goal.returns
returns c = record { law = λ c d p. shape_of; renamed = λ r c d p. shape_of }
