use Rattle.std.proofs.Common.{◌≡◌, Some, slice_get}
use Rattle.std.specs.Map.{keys_of}
use Rattle.std.proofs.lemmas.Option.{slice_get_within}
use Rattle.std.proofs.lemmas.Result.{IfOk-weaker}
use Rattle.type_intern.proofs.Arenas.{coord_seen, keeps_seen}
use Rattle.type_intern.proofs.arena.Arena.coord.Goals as goal

pub returns-clause-value : goal.returns-clause-value
returns-clause-value c = IfOk-weaker c.coord.result (λ id. slice_get (keys_of c.coord.new.self.nodes.entries)
    id.0 ≡ Some (record { args = c.in_ok-args.args; head = c.args.head })) _
    (λ id stands. coord_seen c.self.inside.tables.types c.self.inside.tables.nodes.entries
    c.self.inside.tables.keys.keys c.self.invariant c.args.self.now c.self.view_is c.coord.new.self.types
    c.coord.new.self.nodes.entries c.coord.new.self.keys.keys c.coord.ensures.grows c.args.args.now
    c.in_ok-args.args c.args.head c.in_ok-args.ensures.value c.requires.args c.requires.head id.0
    stands) c.coord.ensures.value

pub returns-clause-within : goal.returns-clause-within
returns-clause-within c = IfOk-weaker c.coord.result (λ id. slice_get (keys_of c.coord.new.self.nodes.entries)
    id.0 ≡ Some (record { args = c.in_ok-args.args; head = c.args.head })) _
    (λ id stands. slice_get_within _ id.0 _ (c.coord.ensures.grows.arena.table.reads id.0
    (record { args = c.in_ok-args.args; head = c.args.head }) stands)) c.coord.ensures.value

pub returns-clause-keeps : goal.returns-clause-keeps
returns-clause-keeps c = keeps_seen c.self.inside.tables.types c.self.inside.tables.nodes.entries
    c.self.inside.tables.keys.keys c.self.invariant c.args.self.now c.self.view_is c.coord.new.self.types
    c.coord.new.self.nodes.entries c.coord.new.self.keys.keys c.coord.ensures.grows
