use Rattle.std.proofs.Common.{◌++◌, [], ap, ap₂, ◌∙◌}
use Rattle.iso_normal.specs.Consistency.{variables_among}
use Rattle.coord_match.specs.search.Partners.{with_themselves}
use Rattle.coord_match.proofs.Identical.{is_least, is_none, themselves_match}
use Rattle.coord_match.proofs.pairs.first_identical.Goals as goal

pub first_allowed-requires-clause-matching : goal.first_allowed-requires-clause-matching
first_allowed-requires-clause-matching c = themselves_match c.as_slice-2.result.now c.in_ok-bound.ensures.value

pub returns-clause-found : goal.returns-clause-found
returns-clause-found c =
    let variables = c.as_slice-2.ensures.value ∙ c.in_ok-gather_coordinates.ensures.added
    ∙ ap₂ (λ vs cs. vs ++ variables_among cs) c.new-variables.ensures.empty c.as_slice.ensures.value in
    is_least c.args.a.now c.args.b.now c.first_allowed.new.bound (c.in_ok-bound.ensures.value ∙ ap (with_themselves []) variables)
    c.as_slice-3.ensures.value c.as_slice-4.ensures.value c.first_allowed.result c.first_allowed.ensures.found

pub returns-clause-none : goal.returns-clause-none
returns-clause-none c =
    let variables = c.as_slice-2.ensures.value ∙ c.in_ok-gather_coordinates.ensures.added
    ∙ ap₂ (λ vs cs. vs ++ variables_among cs) c.new-variables.ensures.empty c.as_slice.ensures.value in
    is_none c.args.a.now c.args.b.now c.first_allowed.new.bound (c.in_ok-bound.ensures.value ∙ ap (with_themselves []) variables)
    c.as_slice-3.ensures.value c.as_slice-4.ensures.value c.first_allowed.result c.first_allowed.ensures.none
