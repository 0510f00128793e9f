use Rattle.conv_plain.specs.CoordinateTypes.{coordinate_types}
use Rattle.conv_plain.proofs.Formed.{coordinates_typed, formed}
use Rattle.conv_plain.proofs.Lists.{each_type}
use Rattle.conv_plain.proofs.laws.coordinates_have_types.Goals as goal

pub returns : goal.returns
returns c = record { law = λ a is. each_type (coordinate_types a) (coordinates_typed (formed a is)) }
