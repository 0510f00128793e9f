use Rattle.std.proofs.Common.{◌≡◌, ◌≤◌, ◌+◌, ℕ, List, length, min, drop}
use Rattle.elab_rules.specs.Copies.{environment_weight}
use Rattle.sig_elab.proofs.copies.+weighing.Given as goal

abbrev pub invariant-weight_of_all-loop-entry : goal.invariant-weight_of_all-loop-entry
invariant-weight_of_all-loop-entry l =
    (text : List ℕ) → l.path ≡ min (length text) 0xffff_ffff_ffff_ffff
    → (l.total ≤ 0xffff_ffff_ffff_ffff) × (min (l.total + environment_weight text (drop l.entry-index l.entries)) 0xffff_ffff_ffff_ffff ≡ min (environment_weight text l.entries) 0xffff_ffff_ffff_ffff)
