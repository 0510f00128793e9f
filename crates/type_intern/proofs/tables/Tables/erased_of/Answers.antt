use Rattle.std.proofs.Common.{length, refl}
use Rattle.type_intern.specs.declared.node.CoordId.{CoordId}
use Rattle.type_intern.specs.declared.node.Numbers.{Numbers}
use Rattle.type_intern.specs.CoordTables.{erased_in}
use Rattle.type_intern.proofs.Places.{below_at}
use Rattle.type_intern.proofs.Reducing.{beside_more, value_beside}
use Rattle.type_intern.proofs.tables.Tables.erased_of.Goals as goal

pub index-requires : goal.index-requires
index-requires c = below_at (λ (id : CoordId). id.0) (length c.args.self.now.nodes.entries) c.args.ids.now
    c.loop-id.id-index (record { 0 = 0 }) _ c.requires.within c.loop-id-test.true refl

pub loop-id-preserved : goal.loop-id-preserved
loop-id-preserved c = beside_more (erased_in c.args.self.now.nodes.entries) c.args.ids.now c.loop-id.id-index
    (record { 0 = 0 }) c.loop-id.erased.items c.push.new.self.items c.index.result.now.erased c.loop-id.invariant
    c.loop-id-test.true
    (value_beside (λ (v : Numbers). v.erased.0) c.args.self.now.nodes.entries _ c.index.result.now c.index.ensures)
    c.in_ok-push.ensures.items
