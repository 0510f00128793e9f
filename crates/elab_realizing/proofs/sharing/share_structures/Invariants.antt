use Rattle.std.proofs.Common.{◌≡◌, drop}
use Rattle.std.specs.List.{All}
use Rattle.elab_rules.specs.Sharing.{pairs_shared}
use Rattle.elab_rules.specs.Standing.{Grew}
use Rattle.elab_rules.specs.Views.{body_at, site_at, state_of}
use Rattle.elab_realizing.proofs.LeftOut.{IsSharedWith}
use Rattle.elab_realizing.proofs.sharing.share_structures.Given as goal

abbrev pub invariant-loop-i : goal.invariant-loop-i
invariant-loop-i l = record {
  turns :
      pairs_shared (drop l.i l.tokens) (site_at l.fn.progress l.site) (body_at l.progress l.own.entries.now) (state_of l.progress)
      ≡ pairs_shared l.tokens (site_at l.fn.progress l.site) (body_at l.fn.progress l.own.entries.now) (state_of l.fn.progress);
  shared : All (IsSharedWith l.progress.table.realizations (drop l.i l.found)) l.shared;
  grew : Grew l.site.base l.fn.progress l.progress;
}
