use Rattle.type_intern.proofs.Arenas.{empty_arena, nothing_meant}
use Rattle.type_intern.proofs.arena.Arena.new.Goals as goal

pub invariant_of-result : goal.invariant_of-result
invariant_of-result c = empty_arena c.new.result.types c.new.ensures.types c.new.result.nodes.entries
    c.new.ensures.nodes c.new.result.keys.keys c.new.ensures.keys

pub returns : goal.returns
returns c = record {
  empty = nothing_meant c.new.result.types c.new.ensures.types c.new.result.nodes.entries
      c.new.ensures.nodes c.new.result.keys.keys c.new.ensures.keys;
}
