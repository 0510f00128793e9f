use Rattle.std.proofs.Common.{◌≡◌, drop}
use Rattle.elab_rules.specs.Standing.{Grew, StandsFrom}
use Rattle.elab_rules.specs.Views.{body_at, site_at, state_of}
use Rattle.elab_rules.specs.Wheres.{parts_applied}
use Rattle.elab_realizing.proofs.wheres.apply_parts.Given as goal

abbrev pub invariant-loop-part : goal.invariant-loop-part
invariant-loop-part l = record {
  turns :
      parts_applied (drop l.part-index l.parts) l.base (site_at l.progress l.site) (body_at l.progress l.body.entries.items) (state_of l.progress)
      ≡ parts_applied l.parts l.base (site_at l.fn.progress l.site) (body_at l.fn.progress l.fn.env.entries.items) (state_of l.fn.progress);
  stands : StandsFrom l.base l.progress l.site l.body.entries.items;
  grew : Grew l.base l.fn.progress l.progress;
}
