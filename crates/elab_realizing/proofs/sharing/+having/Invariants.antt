use Rattle.std.proofs.Common.{[], ◌∷◌, take}
use Rattle.std.specs.List.{All}
use Rattle.elab_realizing.specs.SharedStructures.{AreThere}
use Rattle.elab_realizing.proofs.sharing.+having.Given as goal

abbrev pub invariant-has_all-loop-entry : goal.invariant-has_all-loop-entry
invariant-has_all-loop-entry l = record { there : All (λ e. AreThere (e ∷ []) l.other.entries.now) (take l.entry-index l.entries) }
