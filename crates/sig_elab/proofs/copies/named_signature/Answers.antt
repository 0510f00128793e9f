use Rattle.elab_rules.specs.declared.entry.UnitEntry.{UnitEntry}
use Rattle.elab_rules.specs.Standing.{IsSettled}
use Rattle.elab_rules.specs.Views.{units_seen}
use Rattle.sig_elab.proofs.SignaturesFound.{signature_holds}
use Rattle.sig_elab.proofs.copies.named_signature.Goals as goal

pub copy_signature-requires-clause-settled : goal.copy_signature-requires-clause-settled
copy_signature-requires-clause-settled c =
    signature_holds (λ (unit : UnitEntry). IsSettled c.args.progress.now.table unit.entries) _ (units_seen c.args.site.now.tops) c.in-Some.top.unit.now c.requires.begins.sees.units c.in-Some.ensures.value
