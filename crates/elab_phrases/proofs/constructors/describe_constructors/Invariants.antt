use Rattle.std.proofs.Common.{◌≡◌, drop}
use Rattle.elab_rules.specs.Bodies.{in_turn}
use Rattle.elab_rules.specs.Constructors.{constructor_described}
use Rattle.elab_rules.specs.Extended.{IsExtended}
use Rattle.elab_rules.specs.Standing.{IsSettledType, Mentions, Stands}
use Rattle.elab_rules.specs.Views.{body_at, family_of, site_at, state_of}
use Rattle.elab_phrases.proofs.constructors.describe_constructors.Given as goal

abbrev pub invariant-loop-constructor : goal.invariant-loop-constructor
invariant-loop-constructor l = record {
  turns :
      in_turn (λ c. constructor_described c (family_of l.family)) (drop l.constructor-index l.constructors) (site_at l.progress l.site) (body_at l.progress l.body.entries.items) (state_of l.progress)
      ≡ in_turn (λ c. constructor_described c (family_of l.family)) l.constructors (site_at l.fn.progress l.site) (body_at l.fn.progress l.fn.own.entries.items) (state_of l.fn.progress);
  stands : Stands l.progress l.site l.body.entries.items;
  mentions : Mentions l.fn.progress l.progress;
  extended : IsExtended l.progress l.fn.own.entries.items l.body.entries.items;
  made : IsSettledType l.progress.table l.family.made.now;
}
