use Rattle.std.proofs.Common.{◌≡◌, List, ap, sym, subst, ◌∙◌}
use Rattle.type_intern.specs.declared.node.CoordId.{CoordId}
use Rattle.type_intern.specs.declared.node.CoordNode.{CoordNode}
use Rattle.type_intern.specs.Numbering.{AllBelow}
use Rattle.type_intern.specs.Tops.{coords_at, numbers_of}
use Rattle.type_intern.proofs.Meaning.{IsTop}
use Rattle.type_intern.proofs.Arenas.{top_seen}
use Rattle.type_intern.proofs.arena.Arena.args.Goals as goal

top : (c : goal.After-as_slice-2)
    → IsTop c.args.self.now.types c.args.self.now.coords c.args.c c.index-as_slice-c.result
top c = top_seen c.self.inside.tables.types c.self.inside.tables.nodes.entries c.self.inside.tables.keys.keys
    c.self.invariant c.args.self.now c.self.view_is c.args.c c.requires.within c.as_slice.result.now
    (c.as_slice.ensures ∙ c.keys.ensures.rest) c.index-as_slice-c.result c.index-as_slice-c.is

args : (c : goal.After-as_slice-2) → c.as_slice-2.result.now ≡ c.index-as_slice-c.result.args
args c = c.as_slice-2.ensures.value ∙ sym (ap (λ (n : CoordNode). n.args) c.index-as_slice-c.is)

pub returns-clause-value : goal.returns-clause-value
returns-clause-value c = ap (coords_at c.args.self.now.coords) (args c) ∙ (top c).arguments

pub returns-clause-parts : goal.returns-clause-parts
returns-clause-parts c = subst (λ (ids : List CoordId). AllBelow c.args.c.0 (numbers_of ids)) (sym (args c))
    (top c).parts
