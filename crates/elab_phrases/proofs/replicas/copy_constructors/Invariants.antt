use Rattle.std.proofs.Common.{◌≡◌, drop}
use Rattle.std.specs.List.{All}
use Rattle.elab_rules.specs.declared.entry.ValueEntry.{ValueEntry}
use Rattle.elab_rules.specs.Bodies.{in_turn}
use Rattle.elab_rules.specs.Replications.{value_copied}
use Rattle.elab_rules.specs.Standing.{IsSettledScheme, Mentions, Stands}
use Rattle.elab_rules.specs.Views.{body_at, site_at, state_of}
use Rattle.elab_phrases.proofs.replicas.copy_constructors.Given as goal

abbrev pub invariant-loop-value : goal.invariant-loop-value
invariant-loop-value l = record {
  turns :
      in_turn (value_copied l.token) (drop l.value-index l.values) (site_at l.progress l.site) (body_at l.progress l.body.entries.items) (state_of l.progress)
      ≡ in_turn (value_copied l.token) l.values (site_at l.fn.progress l.site) (body_at l.fn.progress l.fn.own.entries.items) (state_of l.fn.progress);
  stands : Stands l.progress l.site l.body.entries.items;
  mentions : Mentions l.fn.progress l.progress;
  settled : All (λ (value : ValueEntry). IsSettledScheme l.progress.table value.scheme) l.values;
}
