use Rattle.std.proofs.Common.{◌≡◌, ◌≤◌, ◌+◌, ◌*◌, min, map, drop, take, slice_get}
use Rattle.type_core.specs.Lists.{sum_of}
use Rattle.elab_env.specs.Meaning.{body_of, name_weight, weighed}
use Rattle.elab_env.specs.Sized.{listed, saturated_size}
use Rattle.elab_env.proofs.sizes.+size.Given as goal

abbrev pub decreases-size_from : goal.decreases-size_from
decreases-size_from l = 2 * weighed (name_weight (drop l.from l.table.now.realizations)) l.t.now

abbrev pub decreases-applied_size : goal.decreases-applied_size
decreases-applied_size l = 2 * (sum_of (map (weighed (name_weight (drop l.from l.table.now.realizations))) (take l.count l.arguments.now)) + weighed (name_weight (drop (l.place + 1) l.table.now.realizations)) (body_of (slice_get l.table.now.realizations l.place))) + 1

abbrev pub decreases-total_size : goal.decreases-total_size
decreases-total_size l = 2 * sum_of (map (weighed (name_weight (drop l.from l.table.now.realizations))) l.parts.now) + 1

abbrev pub decreases-total_field_size : goal.decreases-total_field_size
decreases-total_field_size l = 2 * sum_of (map (λ field. weighed (name_weight (drop l.from l.table.now.realizations)) field.ty) l.fields.now) + 1

abbrev pub invariant-total_size-loop-part : goal.invariant-total_size-loop-part
invariant-total_size-loop-part l = (l.total ≤ 0xffff_ffff_ffff_ffff) × (min (l.total + sum_of (map (saturated_size (listed l.sizes) (drop l.from l.table.realizations)) (drop l.part-index l.parts))) 0xffff_ffff_ffff_ffff
    ≡ min (sum_of (map (saturated_size (listed l.sizes) (drop l.from l.table.realizations)) l.parts)) 0xffff_ffff_ffff_ffff)

abbrev pub invariant-total_field_size-loop-field : goal.invariant-total_field_size-loop-field
invariant-total_field_size-loop-field l = (l.total ≤ 0xffff_ffff_ffff_ffff) × (min (l.total + sum_of (map (λ field. saturated_size (listed l.sizes) (drop l.from l.table.realizations) field.ty) (drop l.field-index l.fields))) 0xffff_ffff_ffff_ffff
    ≡ min (sum_of (map (λ field. saturated_size (listed l.sizes) (drop l.from l.table.realizations) field.ty) l.fields)) 0xffff_ffff_ffff_ffff)
