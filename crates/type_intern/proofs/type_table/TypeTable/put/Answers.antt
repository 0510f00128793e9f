use Rattle.type_intern.proofs.Entries.{Added, added}
use Rattle.type_intern.proofs.NodeEquality.{node_eq, node_eq_itself}
use Rattle.type_intern.proofs.Erasing.{put_found, put_grows, put_reads, put_table}
use Rattle.type_intern.proofs.type_table.TypeTable.put.Goals as goal

new : (c : goal.In_ok-place-in-None) → Added node_eq c.self.inside.nodes.entries c.args.node c.args.erased
new c = added node_eq node_eq_itself c.self.inside.nodes c.args.node c.args.erased c.in-None.ensures.index

pub invariant_of-self-in-None : goal.invariant_of-self-in-None
invariant_of-self-in-None c = put_table c.self.inside.nodes.entries c.insert_full.new.self.entries c.args.node
    c.args.erased (added node_eq node_eq_itself c.self.inside.nodes c.args.node c.args.erased c.in-None.ensures.index)
    c.in_ok-place-in-None.ensures.entries c.args.self.now c.self.view_is c.self.invariant c.requires.parts
    c.requires.erased

pub returns-in-Some-clause-value : goal.returns-in-Some-clause-value
returns-in-Some-clause-value c = put_found c.self.inside.nodes.entries c.args.node c.in-Some.place c.args.self.now
    c.self.view_is c.self.invariant c.in-Some.ensures.index

pub returns-in_ok-place-in-None-clause-value : goal.returns-in_ok-place-in-None-clause-value
returns-in_ok-place-in-None-clause-value c = put_reads c.self.inside.nodes.entries c.insert_full.new.self.entries
    c.args.node c.args.erased (new c) c.in_ok-place-in-None.ensures.entries c.args.self.now c.self.view_is
    c.self.invariant c.in_ok-place-in-None.place c.in_ok-place-in-None.ensures.index

pub returns-in_ok-place-in-None-clause-keeps : goal.returns-in_ok-place-in-None-clause-keeps
returns-in_ok-place-in-None-clause-keeps c = put_grows c.self.inside.nodes.entries c.insert_full.new.self.entries
    c.args.node c.args.erased (new c) c.in_ok-place-in-None.ensures.entries c.args.self.now c.self.view_is
    c.self.invariant
