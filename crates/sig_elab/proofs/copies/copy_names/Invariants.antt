use Rattle.std.proofs.Common.{◌≡◌, drop}
use Rattle.elab_rules.specs.Copies.{with_copies}
use Rattle.elab_rules.specs.Standing.{Mentions}
use Rattle.elab_rules.specs.Views.{state_of}
use Rattle.sig_elab.proofs.copies.copy_names.Given as goal

abbrev pub invariant-loop-n : goal.invariant-loop-n
invariant-loop-n l = record {
  turns : with_copies l.path l.count (drop l.n-index l.own.numbers.items) (state_of l.progress) ≡ with_copies l.path l.count l.own.numbers.items (state_of l.fn.progress);
  mentions : Mentions l.fn.progress l.progress;
}
