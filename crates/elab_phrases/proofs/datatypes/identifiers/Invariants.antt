use Rattle.std.proofs.Common.{◌≡◌, ◌++◌, map, drop}
use Rattle.sig_parser.specs.declared.tree.ConDesc.{ConDesc}
use Rattle.elab_types.specs.Sources.{text_at}
use Rattle.elab_types.specs.Views.{texts}
use Rattle.elab_phrases.proofs.datatypes.identifiers.Given as goal

abbrev pub invariant-loop-constructor : goal.invariant-loop-constructor
invariant-loop-constructor l =
    l.ids ++ map (λ (c : ConDesc). text_at (texts l.source) c.id) (drop l.constructor-index l.constructors) ≡ map (λ (c : ConDesc). text_at (texts l.source) c.id) l.constructors
