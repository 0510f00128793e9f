use Rattle.std.proofs.Common.{drop_of_length-le, sym, ap, ◌∙◌}
use Rattle.coord_match.proofs.MarksByNumber.{marked_by_number, one_mark}
use Rattle.coord_match.proofs.tests.are_marked_by_number.Goals as goal

pub returns : goal.returns
returns c = record { one_mark = λ e. one_mark c.args.variables.now (sym c.loop-v.invariant ∙ ap marked_by_number (drop_of_length-le c.args.variables.now c.loop-v-test.false)) }
