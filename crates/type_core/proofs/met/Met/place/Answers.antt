use Rattle.std.proofs.Common.{sym, ap, ◌∙◌}
use Rattle.type_core.specs.Variables.{place}
use Rattle.type_core.proofs.MetVariables.{place_found, place_of_new}
use Rattle.type_core.proofs.met.Met.place.Goals as goal

pub returns-in-Some-clause-value : goal.returns-in-Some-clause-value
returns-in-Some-clause-value c =
    place_found c.args.v c.self.inside.variables.keys c.in-Some.place (sym c.get_index_of.ensures.index ∙ c.in-Some.is) ∙ ap (place c.args.v) c.self.view_is

pub returns-in-None-clause-value : goal.returns-in-None-clause-value
returns-in-None-clause-value c =
    c.len.ensures.len ∙ place_of_new c.args.v c.self.inside.variables.keys (sym c.get_index_of.ensures.index ∙ c.in-None.is) ∙ ap (place c.args.v) c.self.view_is
