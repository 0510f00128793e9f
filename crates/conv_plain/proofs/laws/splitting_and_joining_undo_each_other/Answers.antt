use Rattle.conv_plain.proofs.Formed.{formed}
use Rattle.conv_plain.proofs.RoundTrip.{joins, splits}
use Rattle.conv_plain.proofs.laws.splitting_and_joining_undo_each_other.Goals as goal

pub returns-clause-joined : goal.returns-clause-joined
returns-clause-joined c = λ ctx a e is k. joins (formed a is) ctx e k

pub returns-clause-split : goal.returns-clause-split
returns-clause-split c = λ ctx a es is k. splits (formed a is) ctx es k
