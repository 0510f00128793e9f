use Rattle.std.proofs.Common.{length}
use Rattle.type_intern.proofs.Places.{below_at}
use Rattle.type_intern.specs.declared.node.FieldId.{FieldId}
use Rattle.type_intern.proofs.type_table.TypeTable.erased_fields.Goals as goal

pub erased-ty-requires : goal.erased-ty-requires
erased-ty-requires c = record {
  within = below_at (λ (f : FieldId). f.ty.0) (length c.args.self.now) c.args.fields.now
      c.loop-field.field-index c.field-item.result c.field-item.result c.requires.within c.loop-field-test.true
      c.field-item.is;
}
