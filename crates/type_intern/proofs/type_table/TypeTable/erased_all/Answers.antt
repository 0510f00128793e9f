use Rattle.std.proofs.Common.{length, refl}
use Rattle.type_intern.proofs.Places.{below_at}
use Rattle.type_intern.specs.declared.node.TyId.{TyId}
use Rattle.type_intern.proofs.type_table.TypeTable.erased_all.Goals as goal

pub erased-requires : goal.erased-requires
erased-requires c = record {
  within = below_at (λ (id : TyId). id.0) (length c.args.self.now) c.args.ids.now
      c.loop-id.id-index (record { 0 = 0 }) _ c.requires.within c.loop-id-test.true refl;
}
