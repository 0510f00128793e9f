use Rattle.type_intern.specs.declared.node.Numbers.{Numbers}
use Rattle.type_intern.proofs.Arenas.{single_seen}
use Rattle.type_intern.proofs.Reducing.{value_beside}
use Rattle.type_intern.proofs.arena.Arena.erased.Goals as goal

pub returns : goal.returns
returns c = record {
  value = single_seen c.self.inside.tables.types c.self.inside.tables.nodes.entries c.self.inside.tables.keys.keys
      c.self.invariant c.args.self.now c.self.view_is c.args.c c.index.result.now.key.0 c.requires.within
      (value_beside (λ (v : Numbers). v.key.0) c.self.inside.tables.nodes.entries c.args.c.0 c.index.result.now
      c.index.ensures);
}
