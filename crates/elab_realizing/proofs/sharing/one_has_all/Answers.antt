use Rattle.std.proofs.Common.{sym}
use Rattle.elab_realizing.proofs.sharing.one_has_all.Goals as goal

pub returns-then-has_all : goal.returns-then-has_all
returns-then-has_all c =
    record { there = λ yes. (c.loop-structure.structure-index, c.structure-item.result, c.loop-structure-test.true, sym c.structure-item.is, c.has_all.ensures.there c.if-has_all.true) }
