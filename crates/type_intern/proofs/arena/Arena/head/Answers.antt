use Rattle.std.proofs.Common.{◌<◌, ap, length, subst, sym, ◌∙◌}
use Rattle.type_intern.specs.declared.node.CoordNode.{CoordNode}
use Rattle.type_intern.specs.Tops.{type_at}
use Rattle.type_intern.proofs.Meaning.{IsTop}
use Rattle.type_intern.proofs.Arenas.{top_seen}
use Rattle.type_intern.proofs.arena.Arena.head.Goals as goal

top : (c : goal.After-index-as_slice-c)
    → IsTop c.args.self.now.types c.args.self.now.coords c.args.c c.index-as_slice-c.result
top c = top_seen c.self.inside.tables.types c.self.inside.tables.nodes.entries c.self.inside.tables.keys.keys
    c.self.invariant c.args.self.now c.self.view_is c.args.c c.requires.within c.as_slice.result.now
    (c.as_slice.ensures ∙ c.keys.ensures.rest) c.index-as_slice-c.result c.index-as_slice-c.is

pub returns-clause-value : goal.returns-clause-value
returns-clause-value c = sym (ap (λ (n : CoordNode). type_at c.args.self.now.types n.head) c.index-as_slice-c.is) ∙
    (top c).head

pub returns-clause-within : goal.returns-clause-within
returns-clause-within c = subst (λ (n : CoordNode). n.head.0 < length c.args.self.now.types) c.index-as_slice-c.is
    (top c).within
