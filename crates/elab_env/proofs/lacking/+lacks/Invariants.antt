use Rattle.std.proofs.Common.{◌≡◌, map, drop}
use Rattle.type_core.specs.Lists.{all_true}
use Rattle.elab_env.specs.Lacks.{field_lacks, lacks}
use Rattle.elab_env.proofs.lacking.+lacks.Given as goal

abbrev pub invariant-all_lack-loop-part : goal.invariant-all_lack-loop-part
invariant-all_lack-loop-part l = all_true (map (lacks l.n) (drop l.part-index l.parts)) ≡ all_true (map (lacks l.n) l.parts)

abbrev pub invariant-fields_lack-loop-field : goal.invariant-fields_lack-loop-field
invariant-fields_lack-loop-field l = all_true (map (field_lacks l.n) (drop l.field-index l.fields)) ≡ all_true (map (field_lacks l.n) l.fields)
