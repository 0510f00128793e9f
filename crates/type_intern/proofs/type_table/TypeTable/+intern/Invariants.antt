use Rattle.std.proofs.Common.{take}
use Rattle.type_intern.specs.Numbering.{Grows}
use Rattle.type_intern.specs.TypeTables.{AreStored, AreFieldsStored}
use Rattle.type_intern.proofs.type_table.TypeTable.+intern.Given as goal

abbrev pub invariant-intern_all-loop-part : goal.invariant-intern_all-loop-part
invariant-intern_all-loop-part l = record {
  keeps : Grows l.fn.self l.self;
  stored : AreStored l.self l.ids (take l.part-index l.parts);
}

abbrev pub invariant-intern_fields-loop-field : goal.invariant-intern_fields-loop-field
invariant-intern_fields-loop-field l = record {
  keeps : Grows l.fn.self l.self;
  stored : AreFieldsStored l.self l.ids (take l.field-index l.fields);
}
