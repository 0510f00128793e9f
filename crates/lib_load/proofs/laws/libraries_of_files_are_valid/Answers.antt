use Rattle.lib_load.proofs.ValidLibraries.{valid_loading}
use Rattle.lib_load.proofs.laws.libraries_of_files_are_valid.Goals as goal

pub returns : goal.returns
returns c =
    let sound = c.libraries_of_accepted_files_are_valid.ensures in
    record { law = valid_loading sound.first sound.next sound.valid }
