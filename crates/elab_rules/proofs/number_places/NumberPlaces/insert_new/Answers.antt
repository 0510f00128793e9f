use Rattle.std.proofs.Common.{sym, ◌∙◌}
use Rattle.elab_rules.specs.NumberPlaces.{number_place}
use Rattle.elab_rules.proofs.NumbersPlaced.{newly_placed}
use Rattle.elab_rules.proofs.number_places.NumberPlaces.insert_new.Goals as goal

pub returns-in_ok-insert-in-None-clause-inserted : goal.returns-in_ok-insert-in-None-clause-inserted
returns-in_ok-insert-in-None-clause-inserted c = λ m. newly_placed (number_place c.args.self.now) c.args.n c.args.place m _ (sym c.get.ensures.value ∙ c.in-None.is) (c.in_ok-insert-in-None.ensures.updates.0 m)
