use Rattle.std.proofs.Common.{sym, subst}
use Rattle.type_core.specs.ValidLibrary.{IsValidLibrary}
use Rattle.sig_elab.proofs.elab.Elab.finish.Goals as goal

pub returns-clause-valid : goal.returns-clause-valid
returns-clause-valid c = subst IsValidLibrary (sym c.in_ok-library.ensures.library) (c.libraries_of_accepted_files_are_valid.ensures.valid _ c.is_sound.ensures.sound)
