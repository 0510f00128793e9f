use Rattle.isosearch.proofs.Unchanged.{no_byte_changes}
use Rattle.isosearch.proofs.laws.indexes_change_no_byte.Goals as goal

pub returns : goal.returns
returns c = record { law = no_byte_changes c.one_outcome.ensures.law c.indexes_have_one_outcome.ensures.law c.libraries_of_files_are_valid.ensures.law }
