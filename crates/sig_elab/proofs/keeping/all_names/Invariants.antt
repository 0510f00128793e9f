use Rattle.std.proofs.Common.{◌≡◌, ◌++◌, drop}
use Rattle.elab_rules.specs.Library.{kept_names}
use Rattle.elab_rules.specs.Views.{gone_of}
use Rattle.sig_elab.proofs.keeping.all_names.Given as goal

abbrev pub invariant-loop-n : goal.invariant-loop-n
invariant-loop-n l = l.names ++ kept_names (drop l.n l.table.names) (drop l.n (gone_of l.table)) ≡ kept_names l.table.names (gone_of l.table)
