use Rattle.iso_normal.proofs.Taking.{nothing_added}
use Rattle.iso_normal.proofs.coordinates.+add.Goals as goal

pub add-returns-then-gives_nothing-clause-added : goal.add-returns-then-gives_nothing-clause-added
add-returns-then-gives_nothing-clause-added t c =
    nothing_added c.args.done.now c.args.arguments.now c.args.t.now c.in-Arrow.from c.in-Arrow.to c.get.result.now c.in-Arrow.is c.get.ensures.value (c.gives_nothing.ensures.value.0 c.if-gives_nothing.true)
