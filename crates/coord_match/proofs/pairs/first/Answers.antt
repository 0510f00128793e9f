use Rattle.std.proofs.Common.{◌++◌, Some, ap, ap₂, ◌∙◌}
use Rattle.iso_normal.specs.Consistency.{variables_among}
use Rattle.coord_match.specs.Names.{number_bound}
use Rattle.coord_match.specs.search.Partners.{partner_of_number}
use Rattle.coord_match.proofs.Consistent.{is_first, none_of_none}
use Rattle.coord_match.proofs.Whole.{best_handed, none_handed}
use Rattle.coord_match.proofs.pairs.first.Goals as goal

pub returns-in_default-clause-none : goal.returns-in_default-clause-none
returns-in_default-clause-none c = λ e.
    none_of_none c.args.a.now c.args.b.now
    (none_handed c.new-bound.ensures.empty c.as_slice.ensures.value c.as_slice-2.ensures.value (c.in_ok-word.ensures.none c.in_default.is))

pub returns-clause-found : goal.returns-clause-found
returns-clause-found c =
    let variables = c.as_slice-4.ensures.value ∙ c.in_ok-gather_coordinates.ensures.added
    ∙ ap₂ (λ vs cs. vs ++ variables_among cs) c.new-variables.ensures.empty c.as_slice-3.ensures.value in
    is_first c.args.a.now c.args.b.now
    (best_handed c.new-bound.ensures.empty c.as_slice.ensures.value c.as_slice-2.ensures.value (rw c.in-Some.is at c.in_ok-word.ensures.found))
    c.requires.one_mark
    (c.in_ok-names.ensures.long ∙ ap number_bound variables)
    (λ n l. c.in_ok-names.ensures.partners n l ∙ ap₂ (λ vs s. Some (partner_of_number n vs s)) variables c.as_slice-5.ensures.value)
