use Rattle.std.proofs.Common.{◌≡◌, map, drop}
use Rattle.elab_rules.specs.Equality.{admits, field_admits}
use Rattle.type_core.specs.Lists.{all_true}
use Rattle.elab_phrases.proofs.equality.+admits.Given as goal

abbrev pub invariant-all_admit-loop-part : goal.invariant-all_admit-loop-part
invariant-all_admit-loop-part l = all_true (map (admits l.table.names) (drop l.part-index l.parts)) ≡ all_true (map (admits l.table.names) l.parts)

abbrev pub invariant-fields_admit-loop-field : goal.invariant-fields_admit-loop-field
invariant-fields_admit-loop-field l = all_true (map (field_admits l.table.names) (drop l.field-index l.fields)) ≡ all_true (map (field_admits l.table.names) l.fields)
