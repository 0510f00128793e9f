use Rattle.elab_types.proofs.Held.{held_after}
use Rattle.elab_types.proofs.places.Places.insert.Goals as goal

pub returns-clause-inserted : goal.returns-clause-inserted
returns-clause-inserted c =
    held_after (λ key. key.items) c.args.self.now.places c.insert.new.self c.in_ok-text.text c.args.text.now c.args.place c.in_ok-text.ensures.items c.in_ok-insert.ensures.updates
