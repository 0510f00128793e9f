use Rattle.std.proofs.Common.{◌≡◌, ◌+◌, drop}
use Rattle.elab_rules.specs.Datatypes.{group_constructed}
use Rattle.elab_rules.specs.Extended.{IsExtended}
use Rattle.elab_rules.specs.Standing.{AreMade, Mentions, Stands}
use Rattle.elab_rules.specs.Views.{body_at, site_at, state_of}
use Rattle.elab_types.specs.Views.{texts}
use Rattle.elab_phrases.proofs.datatypes.construct_group.Given as goal

abbrev pub invariant-loop-desc : goal.invariant-loop-desc
invariant-loop-desc l = record {
  turns :
      group_constructed (drop l.desc-index l.descs) l.name (site_at l.progress l.site) (body_at l.progress l.body.entries.items) (state_of l.progress)
      ≡ group_constructed l.descs l.first (site_at l.fn.progress l.site) (body_at l.fn.progress l.fn.own.entries.items) (state_of l.fn.progress);
  stands : Stands l.progress l.site l.body.entries.items;
  mentions : Mentions l.fn.progress l.progress;
  extended : IsExtended l.progress l.fn.own.entries.items l.body.entries.items;
  made : AreMade l.progress.table l.first (texts l.site.source) l.descs;
  number : l.name ≡ l.first + l.desc-index;
}
