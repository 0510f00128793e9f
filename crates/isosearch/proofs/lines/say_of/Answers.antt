use Rattle.std.proofs.Common.{append-nil}
use Rattle.isosearch.proofs.lines.say_of.Goals as goal

pub returns : goal.returns
returns g c = rw (append-nil, c.as_bytes.ensures.value, c.as_bytes-2.ensures.value) at c.say.ensures
