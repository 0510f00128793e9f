use Rattle.std.proofs.Common.{◌≡◌, ◌+◌, ◌*◌, ◌++◌, length, map, drop}
use Rattle.type_core.specs.Lists.{sum_of}
use Rattle.type_core.specs.Substitution.{substituted}
use Rattle.elab_env.specs.Meaning.{name_weight, weighed}
use Rattle.elab_env.specs.Realizations.{field_resolved, resolved}
use Rattle.elab_env.proofs.resolving.+resolve.Given as goal

abbrev pub decreases-resolve_from : goal.decreases-resolve_from
decreases-resolve_from l = 2 * weighed (name_weight (drop l.from l.table.now.realizations)) l.t.now

abbrev pub decreases-resolve_all : goal.decreases-resolve_all
decreases-resolve_all l = 2 * sum_of (map (weighed (name_weight (drop l.from l.table.now.realizations))) l.parts.now) + 1

abbrev pub decreases-resolve_used : goal.decreases-resolve_used
decreases-resolve_used l = 2 * sum_of (map (weighed (name_weight (drop l.from l.table.now.realizations))) l.arguments.now) + 1

abbrev pub decreases-resolve_fields : goal.decreases-resolve_fields
decreases-resolve_fields l = 2 * sum_of (map (λ field. weighed (name_weight (drop l.from l.table.now.realizations)) field.ty) l.fields.now) + 1

abbrev pub invariant-resolve_all-loop-part : goal.invariant-resolve_all-loop-part
invariant-resolve_all-loop-part l = l.done ++ map (resolved (drop l.from l.table.realizations)) (drop l.part-index l.parts) ≡ map (resolved (drop l.from l.table.realizations)) l.parts

abbrev pub invariant-resolve_used-loop-n : goal.invariant-resolve_used-loop-n
invariant-resolve_used-loop-n l =
    (length l.done ≡ l.n)
    × (substituted (l.done ++ map (resolved (drop l.from l.table.realizations)) (drop l.n l.arguments)) l.body ≡ substituted (map (resolved (drop l.from l.table.realizations)) l.arguments) l.body)

abbrev pub invariant-resolve_fields-loop-field : goal.invariant-resolve_fields-loop-field
invariant-resolve_fields-loop-field l = l.done ++ map (field_resolved (drop l.from l.table.realizations)) (drop l.field-index l.fields) ≡ map (field_resolved (drop l.from l.table.realizations)) l.fields
