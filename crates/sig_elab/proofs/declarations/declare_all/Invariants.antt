use Rattle.std.proofs.Common.{◌≡◌, drop}
use Rattle.sig_elab.specs.Elaborators.{basis_of}
use Rattle.elab_rules.specs.Files.{all_declared}
use Rattle.elab_types.specs.Views.{texts}
use Rattle.sig_elab.proofs.declarations.declare_all.Given as goal

abbrev pub invariant-loop-dec : goal.invariant-loop-dec
invariant-loop-dec l = record {
  turns : all_declared (texts l.source) (drop l.dec-index l.decs) (basis_of l.draft) ≡ all_declared (texts l.source) l.decs (basis_of l.fn.draft);
  before : l.draft.before.now ≡ l.fn.draft.before.now;
}
