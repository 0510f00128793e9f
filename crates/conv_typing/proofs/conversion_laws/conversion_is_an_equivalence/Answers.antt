use Rattle.conv_typing.specs.Conversion.{Converts}
use Rattle.conv_typing.proofs.conversion_laws.conversion_is_an_equivalence.Goals as goal

pub returns : goal.returns
returns c = record {
  reflexive = λ ctx a t k. Converts.same k;
  symmetric = λ ctx a t u k. Converts.back k;
  transitive = λ ctx a t u v k l. Converts.chain k l;
}
