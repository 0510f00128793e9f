use Rattle.coord_match.specs.search.Bindings.{met, met_field}
use Rattle.coord_match.proofs.Unequal.{unequal}
use Rattle.coord_match.proofs.bindings.+meet.Goals as goal

pub meet_all-returns-then-parts-others-clause-value : goal.meet_all-returns-then-parts-others-clause-value
meet_all-returns-then-parts-others-clause-value t c = unequal met c.args.parts.now c.args.others.now c.args.bound.now c.if-parts-others.true

pub meet_fields-returns-then-fields-others-clause-value : goal.meet_fields-returns-then-fields-others-clause-value
meet_fields-returns-then-fields-others-clause-value t c = unequal met_field c.args.fields.now c.args.others.now c.args.bound.now c.if-fields-others.true
