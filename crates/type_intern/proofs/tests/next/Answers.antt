use Rattle.std.proofs.Common.{◌≡◌, [], ◌∷◌, ◌++◌}
use Rattle.std.proofs.lemmas.Result.{IfOk-weaker}
use Rattle.type_intern.proofs.Rows.{coords_kept, one_more_below}
use Rattle.type_intern.proofs.tests.next.Goals as goal

pub returns-clause-within : goal.returns-clause-within
returns-clause-within c = IfOk-weaker c.one_more-2.result (λ ids. ids ≡ c.args.row ++ c.in_ok-c-2.c ∷ []) _
    (λ ids is. one_more_below _ c.args.row ids c.in_ok-c-2.c (coords_kept c.args.arena.now c.over-2.new.arena c.args.row
    c.in_ok-c-2.ensures.keeps c.requires.row) c.in_ok-c-2.ensures.within is) c.one_more-2.ensures.value
