use Rattle.std.proofs.Common.{◌∙◌, subst, sym}
use Rattle.sig_elab.specs.Elaborators.{GivesBasis, basis_of}
use Rattle.elab_rules.specs.Files.{all_declared}
use Rattle.elab_rules.specs.Indexes.{IsSeen}
use Rattle.elab_types.specs.Sources.{texts_of}
use Rattle.sig_elab.proofs.AcceptedFiles.{accepted_sound}
use Rattle.elab_rules.proofs.SeenEntries.{seen_whole}
use Rattle.sig_elab.proofs.elab.elaborate_file.Goals as goal

pub returns-clause-sound : goal.returns-clause-sound
returns-clause-sound c =
    let texts = texts_of c.args.bytes.now c.args.tokens.now in
    let basis = basis_of c.args.draft in
    accepted_sound _ c.declare_all.result
    (λ now. c.libraries_of_accepted_files_are_valid.ensures.next c.args.bytes.now c.args.tokens.now c.args.file.now basis now c.requires.tokens c.requires.phrase c.requires.sound)
    (subst (λ decs. GivesBasis (all_declared texts decs basis) c.declare_all.result) c.as_slice-4.ensures.value c.declare_all.ensures.outcome)

pub invariant_of-declare_all : goal.invariant_of-declare_all
invariant_of-declare_all c =
    let index = c.in_ok-index.index in
    record { seen = subst (IsSeen index) (c.as_slice.ensures.value ∙ sym c.as_slice-3.ensures.value) (seen_whole index c.as_slice.result.now c.in_ok-index.ensures.value) }
