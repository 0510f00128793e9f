use Rattle.std.proofs.Common.{◌≡◌, ℕ, List, [], ◌∷◌, ◌++◌, Some, drop, take}
use Rattle.std.specs.List.{All}
use Rattle.elab_rules.specs.Bodies.{Site}
use Rattle.elab_rules.specs.Distinct.{AreDistinct}
use Rattle.elab_rules.specs.Environments.{Environment}
use Rattle.elab_rules.specs.LongIdentifiers.{structure_along}
use Rattle.elab_rules.specs.Sharing.{paths_from, paths_shared}
use Rattle.elab_rules.specs.Standing.{AreOver, Grew}
use Rattle.elab_rules.specs.Views.{body_at, state_of}
use Rattle.elab_realizing.specs.SharedStructures.{AreShared}
use Rattle.elab_realizing.proofs.sharing.+sharing.Given as goal

abbrev pub invariant-share_all-loop-entry : goal.invariant-share_all-loop-entry
invariant-share_all-loop-entry l = record {
  turns : (whole : Environment) (a b path : List (List ℕ)) (site : Site) → site.base ≡ l.base → AreDistinct whole → AreOver l.fn.progress.table.names whole
      → structure_along (a ++ path) whole ≡ Some l.entries → structure_along (b ++ path) whole ≡ Some l.other.entries.now
      → paths_shared a b l.token (paths_from path (drop l.entry-index l.entries)) site (body_at l.progress whole) (state_of l.progress)
      ≡ paths_shared a b l.token (paths_from path l.entries) site (body_at l.fn.progress whole) (state_of l.fn.progress);
  same : All (λ e. AreShared l.progress.table.realizations (e ∷ []) l.other.entries.now) (take l.entry-index l.entries);
  grew : Grew l.base l.fn.progress l.progress;
}
