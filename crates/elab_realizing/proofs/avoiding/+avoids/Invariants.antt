use Rattle.std.proofs.Common.{◌≡◌, map, drop}
use Rattle.type_core.specs.Lists.{all_true}
use Rattle.elab_env.specs.Avoids.{avoids}
use Rattle.elab_rules.specs.Avoiding.{field_avoids}
use Rattle.elab_realizing.proofs.avoiding.+avoids.Given as goal

abbrev pub invariant-all_avoid-loop-part : goal.invariant-all_avoid-loop-part
invariant-all_avoid-loop-part l = all_true (map (avoids l.name.0) (drop l.part-index l.parts)) ≡ all_true (map (avoids l.name.0) l.parts)

abbrev pub invariant-fields_avoid-loop-field : goal.invariant-fields_avoid-loop-field
invariant-fields_avoid-loop-field l = all_true (map (field_avoids l.name.0) (drop l.field-index l.fields)) ≡ all_true (map (field_avoids l.name.0) l.fields)
