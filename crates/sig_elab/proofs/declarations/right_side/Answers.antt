use Rattle.std.proofs.lemmas.Result.{on_ok_weaker}
use Rattle.sig_elab.proofs.TopSites.{begins_on_top}
use Rattle.sig_elab.proofs.UnitsStay.{kept_grew}
use Rattle.sig_elab.proofs.declarations.right_side.Goals as goal

pub elaborate-requires : goal.elaborate-requires
elaborate-requires c = record { begins = begins_on_top c.args.progress.now _ c.nothing_around.ensures.empty c.is_sound.ensures.sound c.requires.before_kept c.requires.added_kept }

pub returns-clause-before_kept : goal.returns-clause-before_kept
returns-clause-before_kept c = on_ok_weaker c.elaborate.result (λ grew. kept_grew c.args.tops.before.now c.args.progress.now _ grew c.requires.before_kept) c.elaborate.ensures.grew

pub returns-clause-added_kept : goal.returns-clause-added_kept
returns-clause-added_kept c = on_ok_weaker c.elaborate.result (λ grew. kept_grew c.args.tops.added.now c.args.progress.now _ grew c.requires.added_kept) c.elaborate.ensures.grew
