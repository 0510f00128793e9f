use Rattle.type_intern.proofs.Rows.{keeps_on}
use Rattle.type_intern.proofs.tests.read.Goals as goal

pub loop-letter-preserved : goal.loop-letter-preserved
loop-letter-preserved c = record {
  within = c.in_ok-row.ensures.within;
  keeps = keeps_on c.args.arena.now c.loop-letter.arena c.next.new.arena c.loop-letter.invariant.keeps c.in_ok-row.ensures.keeps;
}
