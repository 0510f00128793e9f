use Rattle.std.proofs.Common.{◌≡◌, map, take}
use Rattle.type_intern.specs.Tops.{numbers_of}
use Rattle.type_intern.specs.CoordTables.{canons_in, number_at}
use Rattle.type_intern.proofs.tables.Tables.canons_of.Given as goal

abbrev pub invariant-loop-id : goal.invariant-loop-id
invariant-loop-id l = numbers_of l.canons.items ≡ map (number_at (canons_in l.self.nodes.entries))
    (take l.id-index l.ids)
