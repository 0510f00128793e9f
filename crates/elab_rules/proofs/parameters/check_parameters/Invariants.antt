use Rattle.std.proofs.Common.{◌≡◌, ℕ, List, [], map, not, is_some, take, drop, bytes_eq}
use Rattle.elab_types.specs.Finding.{none_of}
use Rattle.elab_rules.specs.Parameters.{parameters_checked}
use Rattle.elab_types.specs.Places.{place_at}
use Rattle.elab_types.specs.Sources.{text_at}
use Rattle.elab_types.specs.Views.{texts}
use Rattle.elab_rules.proofs.parameters.check_parameters.Given as goal

abbrev pub invariant-loop-token : goal.invariant-loop-token
invariant-loop-token l = record {
  checked : parameters_checked (texts l.source) (map (text_at (texts l.source)) (take l.token-index l.tokens)) (drop l.token-index l.tokens) ≡ parameters_checked (texts l.source) [] l.tokens;
  seen : (text : List ℕ) → is_some (place_at l.seen text) ≡ not (none_of (bytes_eq text) (map (text_at (texts l.source)) (take l.token-index l.tokens)));
}
