use Rattle.std.proofs.Common.{◌≡◌, ◌≤◌, length, take, drop}
use Rattle.elab_rules.specs.Bodies.{in_turn}
use Rattle.elab_rules.specs.Standing.{Mentions, Stands}
use Rattle.elab_rules.specs.TypeDescriptions.{type_described}
use Rattle.elab_rules.specs.Views.{body_at, site_at, state_of}
use Rattle.elab_phrases.proofs.type_descriptions.describe_types.Given as goal

abbrev pub invariant-loop-desc : goal.invariant-loop-desc
invariant-loop-desc l = record {
  turns :
      in_turn (λ d. type_described l.equality d (body_at l.fn.progress l.fn.own.entries.items)) (drop l.desc-index l.descs) (site_at l.progress l.site) (body_at l.progress l.body.entries.items) (state_of l.progress)
      ≡ in_turn (λ d. type_described l.equality d (body_at l.fn.progress l.fn.own.entries.items)) l.descs (site_at l.fn.progress l.site) (body_at l.fn.progress l.fn.own.entries.items) (state_of l.fn.progress);
  stands : Stands l.progress l.site l.body.entries.items;
  mentions : Mentions l.fn.progress l.progress;
  front : take l.before l.body.entries.items ≡ l.fn.own.entries.items;
  within : l.before ≤ length l.body.entries.items;
}
