use Rattle.std.proofs.Common.{◌≡◌, ℕ, ◌∷◌, drop, take}
use Rattle.std.specs.List.{All}
use Rattle.elab_rules.specs.declared.scope.Scope.{Scope}
use Rattle.elab_rules.specs.Bodies.{Site}
use Rattle.elab_rules.specs.Distinct.{AreDistinct}
use Rattle.elab_rules.specs.Environments.{Environment}
use Rattle.elab_rules.specs.Joining.{ArePlacedAt}
use Rattle.elab_rules.specs.Sharing.{first_shared}
use Rattle.elab_rules.specs.Standing.{AreOver, Grew}
use Rattle.elab_rules.specs.Views.{body_at, state_of}
use Rattle.elab_realizing.specs.SharedStructures.{AreShared}
use Rattle.elab_realizing.proofs.sharing.share_first.Given as goal

abbrev pub invariant-loop-j : goal.invariant-loop-j
invariant-loop-j l = record {
  turns : (whole : Environment) (i : ℕ) (site : Site) → site.base ≡ l.base → AreDistinct whole → AreOver l.fn.progress.table.names whole → ArePlacedAt site whole (i ∷ l.tokens) (l.first ∷ l.others)
      → first_shared i (drop l.j l.tokens) site (body_at l.progress whole) (state_of l.progress) ≡ first_shared i l.tokens site (body_at l.fn.progress whole) (state_of l.fn.progress);
  same : All (λ (scope : Scope). AreShared l.progress.table.realizations l.first.entries.now scope.entries.now) (take l.j l.others);
  grew : Grew l.base l.fn.progress l.progress;
}
