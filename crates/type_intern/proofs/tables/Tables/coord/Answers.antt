use Rattle.type_intern.proofs.CoordEquality.{coord_eq, coord_eq_same}
use Rattle.type_intern.proofs.Entries.{found_at}
use Rattle.std.specs.Map.{keys_of}
use Rattle.type_intern.proofs.tables.Tables.coord.Goals as goal

pub returns-in-Some-clause-value : goal.returns-in-Some-clause-value
returns-in-Some-clause-value c = found_at coord_eq coord_eq_same (keys_of c.args.self.now.nodes.entries) c.args.node
    c.in-Some.place c.in-Some.ensures.index
