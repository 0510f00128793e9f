use Rattle.type_intern.specs.declared.node.Numbers.{Numbers}
use Rattle.type_intern.proofs.Arenas.{canonical_seen}
use Rattle.type_intern.proofs.Reducing.{value_beside}
use Rattle.type_intern.proofs.arena.Arena.canon.Goals as goal

pub returns : goal.returns
returns c = record {
  value = canonical_seen c.self.inside.tables.types c.self.inside.tables.nodes.entries c.self.inside.tables.keys.keys
      c.self.invariant c.args.self.now c.self.view_is c.args.c c.index.result.now.canon.0 c.requires.within
      (value_beside (λ (v : Numbers). v.canon.0) c.self.inside.tables.nodes.entries c.args.c.0 c.index.result.now
      c.index.ensures);
}
