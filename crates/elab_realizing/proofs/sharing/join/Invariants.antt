use Rattle.std.proofs.Common.{◌≡◌, ◌≤◌, ℕ, true, ◌∷◌, drop, slice_get}
use Rattle.std.specs.List.{All}
use Rattle.type_core.specs.declared.ty.NameId.{NameId}
use Rattle.elab_env.specs.Names.{arity_of}
use Rattle.elab_env.specs.Table.{is_free}
use Rattle.elab_rules.specs.Standing.{Grew}
use Rattle.elab_rules.specs.Views.{numbers}
use Rattle.elab_realizing.specs.InTurn.{joined_in_turn}
use Rattle.elab_realizing.proofs.sharing.join.Given as goal

abbrev pub invariant-loop-n : goal.invariant-loop-n
invariant-loop-n l = record {
  turns : joined_in_turn l.kept.0 (numbers (drop l.n-index l.others)) l.progress.table ≡ joined_in_turn l.kept.0 (l.fn.first.0 ∷ numbers l.others) l.fn.progress.table;
  free : is_free l.progress.table l.kept.0 ≡ true;
  arities : (m : ℕ) → arity_of (slice_get l.progress.table.names m) ≡ arity_of (slice_get l.fn.progress.table.names m);
  weight : l.progress.weight ≡ l.fn.progress.weight;
  grew : (base : ℕ) → All (λ (n : NameId). base ≤ n.0) (l.fn.first ∷ l.others) → Grew base l.fn.progress l.progress;
}
