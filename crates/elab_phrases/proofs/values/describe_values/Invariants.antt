use Rattle.std.proofs.Common.{◌≡◌, drop}
use Rattle.elab_rules.specs.Bodies.{in_turn}
use Rattle.elab_rules.specs.Values.{value_described}
use Rattle.elab_rules.specs.Standing.{Mentions, Stands}
use Rattle.elab_rules.specs.Views.{body_at, site_at, state_of}
use Rattle.elab_phrases.proofs.values.describe_values.Given as goal

abbrev pub invariant-loop-value : goal.invariant-loop-value
invariant-loop-value l = record {
  turns :
      in_turn value_described (drop l.value-index l.values) (site_at l.progress l.site) (body_at l.progress l.body.entries.items) (state_of l.progress)
      ≡ in_turn value_described l.values (site_at l.fn.progress l.site) (body_at l.fn.progress l.fn.own.entries.items) (state_of l.fn.progress);
  stands : Stands l.progress l.site l.body.entries.items;
  mentions : Mentions l.fn.progress l.progress;
}
