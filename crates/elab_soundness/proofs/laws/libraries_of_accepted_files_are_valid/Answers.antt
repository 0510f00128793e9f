use Rattle.elab_types.specs.Sources.{texts_of}
use Rattle.elab_soundness.proofs.spelling.Files.{spelled}
use Rattle.elab_soundness.proofs.valid.Files.{sound_after, sound_at_first}
use Rattle.elab_soundness.proofs.valid.Libraries.{valid_library}
use Rattle.elab_soundness.proofs.laws.libraries_of_accepted_files_are_valid.Goals as goal

pub returns : goal.returns
returns c = record {
  first = sound_at_first;
  next = λ bytes tokens file before now are is sound e. sound_after (texts_of bytes tokens) file before now (spelled bytes tokens file are is) sound e;
  valid = valid_library;
}
