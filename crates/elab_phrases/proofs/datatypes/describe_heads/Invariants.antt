use Rattle.std.proofs.Common.{◌≡◌, ◌+◌, length, take, drop}
use Rattle.elab_rules.specs.Bodies.{in_turn}
use Rattle.elab_rules.specs.Datatypes.{datatype_head}
use Rattle.elab_rules.specs.Extended.{IsExtended}
use Rattle.elab_rules.specs.Standing.{AreMade, Mentions, Stands}
use Rattle.elab_rules.specs.Views.{body_at, site_at, state_of}
use Rattle.elab_types.specs.Views.{texts}
use Rattle.elab_phrases.proofs.datatypes.describe_heads.Given as goal

abbrev pub invariant-loop-desc : goal.invariant-loop-desc
invariant-loop-desc l = record {
  turns :
      in_turn datatype_head (drop l.desc-index l.descs) (site_at l.progress l.site) (body_at l.progress l.body.entries.items) (state_of l.progress)
      ≡ in_turn datatype_head l.descs (site_at l.fn.progress l.site) (body_at l.fn.progress l.fn.own.entries.items) (state_of l.fn.progress);
  stands : Stands l.progress l.site l.body.entries.items;
  mentions : Mentions l.fn.progress l.progress;
  extended : IsExtended l.progress l.fn.own.entries.items l.body.entries.items;
  count : length l.progress.table.names ≡ length l.fn.progress.table.names + l.desc-index;
  made : AreMade l.progress.table (length l.fn.progress.table.names) (texts l.site.source) (take l.desc-index l.descs);
}
