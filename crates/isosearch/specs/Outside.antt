-- What a run touches: files, the output and standard error.
use Rattle.std.specs.Prelude.{ℕ, List, Option}
use Rattle.sig_base.specs.FileMap.{FileMap}
use Rattle.sig_base.specs.declared.files.Files.{Ghosts as AreFiles}
use Rattle.sig_base.specs.declared.sink.Sink.{Ghosts as IsSink}

-- a stream at one moment: the bytes written so far, where they are told, and how many writes have failed
pub record Stream : Type 0 where
  pub bytes : Option (List ℕ)
  pub faults : ℕ

-- what a run touches, at one moment: the files, the bytes that they tell, how many calls that read and how many that
-- write have failed at each path, the output and standard error
pub record Outside (F : Type 0) : Type 0 where
  pub files : F
  pub told : Option FileMap
  pub read_faults : List ℕ → ℕ
  pub write_faults : List ℕ → ℕ
  pub out : Stream
  pub err : Stream

-- a sink, as it is now
abbrev pub stream : {S : Type 0} → IsSink S → S → Stream
stream sink s = record { bytes = sink.written s; faults = sink.faults s }

-- files and two sinks, as they are now
abbrev pub outside : {F O E : Type 0} → AreFiles F → IsSink O → IsSink E → F → O → E → Outside F
outside are_files out_sink err_sink files out err = record {
  files = files;
  told = are_files.files files;
  read_faults = are_files.read_faults files;
  write_faults = are_files.write_faults files;
  out = stream out_sink out;
  err = stream err_sink err;
}
