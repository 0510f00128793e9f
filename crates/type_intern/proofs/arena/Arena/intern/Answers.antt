use Rattle.std.proofs.Common.{◌≡◌, Some, slice_get}
use Rattle.std.proofs.lemmas.Option.{slice_get_within}
use Rattle.std.proofs.lemmas.Result.{IfOk-weaker}
use Rattle.type_intern.proofs.Meaning.{arena_types}
use Rattle.type_intern.proofs.Arenas.{keeps_types_seen}
use Rattle.type_intern.proofs.arena.Arena.intern.Goals as goal

pub invariant_of-self : goal.invariant_of-self
invariant_of-self c = arena_types c.self.inside.tables.types c.intern-result.new.self c.intern-result.ensures.keeps
    c.self.inside.tables.nodes.entries c.self.inside.tables.keys.keys c.self.invariant c.len-count.ensures.once

pub returns-clause-keeps : goal.returns-clause-keeps
returns-clause-keeps c = keeps_types_seen c.self.inside.tables.types c.self.inside.tables.nodes.entries
    c.self.inside.tables.keys.keys c.self.invariant c.args.self.now c.self.view_is c.intern-result.new.self
    c.intern-result.ensures.keeps

pub returns-clause-within : goal.returns-clause-within
returns-clause-within c = IfOk-weaker c.intern-result.result (λ id. slice_get c.intern-result.new.self id.0 ≡ Some
    c.args.t.now) _ (λ id at. slice_get_within c.intern-result.new.self id.0 c.args.t.now
    at) c.intern-result.ensures.value
