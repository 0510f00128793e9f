use Rattle.std.proofs.Common.{◌≡◌, drop, length, map}
use Rattle.elab_rules.specs.Bodies.{in_turn}
use Rattle.elab_rules.specs.Specifications.{binding_of, included, signature_of, specified, structure_described}
use Rattle.elab_rules.specs.Standing.{Grew, Stands}
use Rattle.elab_rules.specs.Views.{body_at, site_at, state_of}
use Rattle.sig_elab.proofs.StructureTurns.{BeginsWith}
use Rattle.sig_elab.proofs.specifications.+signatures.Given as goal

abbrev pub invariant-describe_structures-loop-bind : goal.invariant-describe_structures-loop-bind
invariant-describe_structures-loop-bind l = record {
  turns :
      in_turn (λ bind. structure_described (body_at l.fn.progress l.fn.own.entries.items) (binding_of bind)) (drop l.bind-index l.binds) (site_at l.fn.progress l.site) (body_at l.progress l.body.entries.items) (state_of l.progress)
      ≡ in_turn (structure_described (body_at l.fn.progress l.fn.own.entries.items)) (map binding_of l.binds) (site_at l.fn.progress l.site) (body_at l.fn.progress l.fn.own.entries.items) (state_of l.fn.progress);
  stands : Stands l.progress l.site l.body.entries.items;
  grew : Grew (length l.fn.progress.table.names) l.fn.progress l.progress;
  begins : BeginsWith l.fn.own.entries.items l.body.entries.items;
}

abbrev pub invariant-include_all-loop-signature : goal.invariant-include_all-loop-signature
invariant-include_all-loop-signature l = record {
  turns :
      in_turn (λ e. included (signature_of e)) (drop l.signature-index l.signatures) (site_at l.progress l.site) (body_at l.progress l.body.entries.items) (state_of l.progress)
      ≡ in_turn included (map signature_of l.signatures) (site_at l.fn.progress l.site) (body_at l.fn.progress l.fn.own.entries.items) (state_of l.fn.progress);
  stands : Stands l.progress l.site l.body.entries.items;
  grew : Grew l.site.base l.fn.progress l.progress;
}

abbrev pub invariant-describe_all-loop-spec : goal.invariant-describe_all-loop-spec
invariant-describe_all-loop-spec l = record {
  turns :
      in_turn specified (drop l.spec-index l.specs) (site_at l.progress l.site) (body_at l.progress l.body.entries.items) (state_of l.progress)
      ≡ in_turn specified l.specs (site_at l.fn.progress l.site) (body_at l.fn.progress l.fn.own.entries.items) (state_of l.fn.progress);
  stands : Stands l.progress l.site l.body.entries.items;
  grew : Grew l.site.base l.fn.progress l.progress;
}
