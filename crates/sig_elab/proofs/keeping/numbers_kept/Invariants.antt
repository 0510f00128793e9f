use Rattle.std.proofs.Common.{◌≡◌, ◌<◌, ℕ, Some, slice_get, vec_len}
use Rattle.elab_rules.specs.Library.{number_kept}
use Rattle.elab_rules.specs.Views.{gone_of}
use Rattle.sig_elab.proofs.keeping.numbers_kept.Given as goal

abbrev pub invariant-loop-n : goal.invariant-loop-n
invariant-loop-n l = record {
  count : vec_len l.numbers ≡ l.n;
  kept : l.kept ≡ number_kept (gone_of l.table) l.n;
  each : (m : ℕ) → m < l.n → slice_get l.numbers.items m ≡ Some (number_kept (gone_of l.table) m);
}
