use Rattle.conv_typing.specs.Conversion.{Converts}
use Rattle.conv_typing.proofs.Kept.{converts_typed, each_typed}
use Rattle.conv_plain.proofs.Congruent.{join_converts, split_converts}
use Rattle.conv_plain.proofs.Formed.{formed}
use Rattle.conv_plain.proofs.Lists.{same_each}
use Rattle.conv_plain.proofs.PlainConverters.{moved_typed}
use Rattle.conv_plain.proofs.laws.splitting_joining_and_moving_keep_types.Goals as goal

pub returns : goal.returns
returns c = record {
  split = λ ctx a e is k. (each_typed (split_converts (formed a is) ctx e e (Converts.same k))).0;
  join = λ ctx a es is k. (converts_typed (join_converts (formed a is) ctx es es (same_each k))).0;
  moved = moved_typed;
}
