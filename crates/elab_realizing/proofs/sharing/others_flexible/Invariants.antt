use Rattle.std.proofs.Common.{◌≡◌, ◌≤◌, ◌++◌, IsTrue, Ok, drop, slice_get}
use Rattle.std.specs.List.{All}
use Rattle.type_core.specs.declared.ty.NameId.{NameId}
use Rattle.elab_env.specs.Names.{arity_of}
use Rattle.elab_env.specs.Table.{is_free}
use Rattle.elab_types.specs.Outcome.{and_then}
use Rattle.elab_rules.specs.Sharing.{others_flexible}
use Rattle.elab_rules.specs.Views.{body_at, numbers, site_at, state_of}
use Rattle.elab_realizing.proofs.sharing.others_flexible.Given as goal

abbrev pub invariant-loop-token : goal.invariant-loop-token
invariant-loop-token l = record {
  turns :
      and_then (others_flexible (arity_of (slice_get l.progress.table.names l.first.0)) (drop l.token-index l.tokens) (site_at l.progress l.site) (body_at l.progress l.own.entries.now) (state_of l.progress)) (λ ns. Ok (numbers l.names ++ ns))
      ≡ others_flexible (arity_of (slice_get l.progress.table.names l.first.0)) l.tokens (site_at l.progress l.site) (body_at l.progress l.own.entries.now) (state_of l.progress);
  free : All (λ (n : NameId). IsTrue (is_free l.progress.table n.0) × (l.site.base ≤ n.0)) l.names;
  arity : All (λ (n : NameId). arity_of (slice_get l.progress.table.names n.0) ≡ arity_of (slice_get l.progress.table.names l.first.0)) l.names;
}
