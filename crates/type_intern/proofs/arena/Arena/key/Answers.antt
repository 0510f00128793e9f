use Rattle.std.proofs.lemmas.Result.{IfOk-weaker}
use Rattle.type_intern.specs.CoordTables.{IsKeyAt, erased_in}
use Rattle.type_intern.proofs.Arenas.{keeps_seen, key_seen}
use Rattle.type_intern.proofs.arena.Arena.key.Goals as goal

pub returns-clause-value : goal.returns-clause-value
returns-clause-value c = IfOk-weaker c.key.result (λ k. IsKeyAt (erased_in c.key.new.self.nodes.entries)
    c.key.new.self.keys.keys c.args.cs.now k.0) _
    (λ k at. key_seen c.self.inside.tables.types c.self.inside.tables.nodes.entries c.self.inside.tables.keys.keys
    c.self.invariant c.args.self.now c.self.view_is c.key.new.self.types c.key.new.self.nodes.entries
    c.key.new.self.keys.keys c.key.ensures.grows c.args.cs.now c.requires.within k.0 at) c.key.ensures.value

pub returns-clause-keeps : goal.returns-clause-keeps
returns-clause-keeps c = keeps_seen c.self.inside.tables.types c.self.inside.tables.nodes.entries
    c.self.inside.tables.keys.keys c.self.invariant c.args.self.now c.self.view_is c.key.new.self.types
    c.key.new.self.nodes.entries c.key.new.self.keys.keys c.key.ensures.grows
