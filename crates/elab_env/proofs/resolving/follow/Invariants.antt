use Rattle.std.proofs.Common.{◌-◌, length}
use Rattle.elab_env.specs.Meaning.{IsLinked}
use Rattle.elab_env.proofs.resolving.follow.Given as goal

abbrev pub decreases-links : goal.decreases-links
decreases-links l = length l.table.realizations - l.at

abbrev pub invariant-links : goal.invariant-links
invariant-links l = IsLinked l.table.names l.table.realizations l.fn.start l.name l.fn.from l.at
