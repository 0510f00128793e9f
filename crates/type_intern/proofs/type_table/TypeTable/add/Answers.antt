use Rattle.type_intern.proofs.Erasing.{put_found}
use Rattle.type_intern.proofs.type_table.TypeTable.add.Goals as goal

pub returns-in-Some-clause-value : goal.returns-in-Some-clause-value
returns-in-Some-clause-value c = put_found c.self.inside.nodes.entries c.args.node c.in-Some.place c.args.self.now
    c.self.view_is c.self.invariant c.in-Some.ensures.index
