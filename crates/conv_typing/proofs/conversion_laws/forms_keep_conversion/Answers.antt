use Rattle.conv_typing.specs.Conversion.{Converts}
use Rattle.conv_typing.proofs.conversion_laws.forms_keep_conversion.Goals as goal

pub returns : goal.returns
returns c = record {
  abstraction = λ ctx a b t u is k. Converts.lam a t u is k;
  application = λ ctx a b f g t u k l. Converts.app f g t u k l;
  tuple = λ ctx types ts us l ks. Converts.tup types ts us l ks;
  projection = λ ctx types i a t u l p k. Converts.proj i types t u l p k;
}
