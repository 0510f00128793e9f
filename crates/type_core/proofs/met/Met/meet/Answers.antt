use Rattle.std.proofs.Common.{ap, ◌∙◌}
use Rattle.type_core.specs.Variables.{meet}
use Rattle.type_core.proofs.MetVariables.{met_held}
use Rattle.type_core.proofs.met.Met.meet.Goals as goal

pub returns : goal.returns
returns c = record {
  met = c.in_ok-insert_full.ensures.keys ∙ met_held c.args.v c.self.inside.variables.keys ∙ ap (λ vs. meet vs c.args.v) c.self.view_is;
}
