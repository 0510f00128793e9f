use Rattle.std.proofs.Common.{◌≡◌, ℕ, List, [], map, not, is_some, take, drop, bytes_eq}
use Rattle.sig_elab.specs.Elaborators.{basis_of}
use Rattle.elab_rules.specs.Files.{identifiers_checked}
use Rattle.elab_types.specs.Finding.{none_of}
use Rattle.elab_types.specs.Places.{place_at}
use Rattle.elab_rules.specs.Specifications.{binding_of}
use Rattle.elab_types.specs.Views.{texts}
use Rattle.sig_elab.proofs.BasisTurns.{bound_text}
use Rattle.sig_elab.proofs.declarations.check_identifiers.Given as goal

abbrev pub invariant-loop-bind : goal.invariant-loop-bind
invariant-loop-bind l = record {
  checked :
      identifiers_checked (texts l.source) (basis_of l.draft) (map (bound_text (texts l.source)) (take l.bind-index l.binds)) (map binding_of (drop l.bind-index l.binds))
      ≡ identifiers_checked (texts l.source) (basis_of l.draft) [] (map binding_of l.binds);
  seen : (text : List ℕ) → is_some (place_at l.seen text) ≡ not (none_of (bytes_eq text) (map (bound_text (texts l.source)) (take l.bind-index l.binds)));
}
