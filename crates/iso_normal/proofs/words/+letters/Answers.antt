use Rattle.iso_normal.proofs.ReadWords.{too_few}
use Rattle.iso_normal.proofs.words.+letters.Goals as goal

pub returns-then-left-eq0-clause-none : goal.returns-then-left-eq0-clause-none
returns-then-left-eq0-clause-none t c = too_few c.args.all.now c.args.letters c.loop-c.left c.loop-c.c-index c.c-item.result c.loop-c.invariant c.if-left-eq0.true c.loop-c-test.true
