-- How a run ends.
use Rattle.std.specs.Prelude.{◌≡◌, ◌⊎◌, ℕ, ◌<◌, List, take, length, Option, Some, None, Err, IfSome, MatchOption}
use Rattle.std.specs.FinMap.{insert}
use Rattle.std.specs.Io.KnownBytes.{Appends}
use Rattle.std.specs.List.{All}
use Rattle.sig_base.specs.Faults.{Rose}
use Rattle.sig_base.specs.FileMap.{FileMap}
use Rattle.sig_base.specs.FileWrites.{Changes}
use Rattle.sig_base.specs.Writing.{AppendsPart}
use Rattle.sig_base.specs.declared.files.Files.{Ghosts as AreFiles}
use Rattle.query_cli.specs.Commands.{command_of}
use Rattle.query_cli.specs.declared.command.Command.{Command}
use Rattle.query_cli.specs.declared.command.Command.TheVariants as command
use Rattle.lib_load.specs.declared.refusals.LoadRefusal.TheVariants as load
use Rattle.lib_load.specs.Given.{FromGiven, Given}
use Rattle.lib_load.specs.Loading.{FailsAt, most_files}
use Rattle.isosearch.specs.Asked.{LoadsFor, OfHeld, limit_of, paths_of}
use Rattle.isosearch.specs.Indexed.{ChangesNoByte}
use Rattle.isosearch.specs.Lines.{Says, not_read_line, not_written_line, output_name}
use Rattle.isosearch.specs.Outcome.{Due, Outcome, Write, path_at}
use Rattle.isosearch.specs.Outside.{Outside}

-- what was read and the query decided the run: neither wrong words nor a fault of writing nor want of memory ended it
abbrev pub IsDecided : ℕ → Type 0
IsDecided status = (status ≡ 0) ⊎ ((status ≡ 1) ⊎ ((status ≡ 3) ⊎ ((status ≡ 4) ⊎ ((status ≡ 5) ⊎ (status ≡ 8)))))

-- a fault or want of memory ended the run
abbrev pub IsCutShort : ℕ → Type 0
IsCutShort status = (status ≡ 5) ⊎ ((status ≡ 6) ⊎ (status ≡ 7))

-- the command was done
abbrev pub IsAnswered : ℕ → Type 0
IsAnswered status = (status ≡ 0) ⊎ (status ≡ 1)

-- there was nothing for the output
abbrev pub IsRefused : ℕ → Type 0
IsRefused status = (status ≡ 2) ⊎ ((status ≡ 3) ⊎ ((status ≡ 4) ⊎ ((status ≡ 5) ⊎ ((status ≡ 7) ⊎ (status ≡ 8)))))

-- the run may have written a file: it was one in mode `index`, and nothing was refused
abbrev pub MayWrite : Command → ℕ → Type 0
MayWrite (command.Index path files) status = (status ≡ 0) ⊎ ((status ≡ 6) ⊎ (status ≡ 7))
MayWrite other status = ⊥

-- of no path of these the count of failed reads rose
abbrev pub NoneRose : {F : Type 0} → List (List ℕ) → Outside F → Outside F → Type 0
NoneRose paths before now = All (λ path. Rose (before.read_faults path) (now.read_faults path) → ⊥) paths

-- the write was done, where there was one, and no other file changed
abbrev pub Writes : Option Write → FileMap → FileMap → Type 0
Writes None before now = now ≡ before
Writes (Some write) before now = now ≡ insert before write.path write.bytes

-- the write wasn't begun, or the file has some bytes at the front of those that are due, and no other file changed
abbrev pub WritesPart : Option Write → FileMap → FileMap → Type 0
WritesPart None before now = now ≡ before
WritesPart (Some write) before now = (now ≡ before) ⊎ ((n : ℕ) × (now ≡ insert before write.path (take n write.bytes)))

-- reading for the command gave something of which this holds; afterwards no file was read, nor touched but where one may be written
pub record OfGiven {F : Type 0} (files : AreFiles F) (asked : Command) (status : ℕ) (before now : Outside F) (holds : List Given → Type 0) : Type 0 where
  pub read : F
  pub given : FromGiven (limit_of asked) files.gives files.read_faults (paths_of asked) before.files read holds
  pub no_read : now.read_faults ≡ files.read_faults read
  pub kept : (MayWrite asked status → ⊥) → now.files ≡ read

-- the outcome: its status, its bytes added to the output, its line said, and its file written
pub record EndsWith {F : Type 0} (outcome : Outcome) (status : ℕ) (before now : Outside F) : Type 0 where
  pub status_is : status ≡ outcome.status
  pub printed : Appends before.out.bytes now.out.bytes outcome.out
  pub said : Says before.err now.err outcome.err
  pub wrote : Changes before.told now.told (Writes outcome.write)

-- the one outcome that is due where this was read, with which the run ended; an index file changes no byte of it
pub record EndsAsDue {F : Type 0} (asked : Command) (status : ℕ) (before now : Outside F) (givens : List Given) : Type 0 where
  pub outcome : Outcome
  pub due : Due asked givens outcome
  pub only : (other : Outcome) → Due asked givens other → other ≡ outcome
  pub ends : EndsWith outcome status before now
  pub index : ChangesNoByte asked givens outcome

-- where what was read lets the command be done, and no call failed that writes to the file that is due, the run ended as is due, or memory was wanted
abbrev pub Completes : {F : Type 0} → Command → ℕ → Outside F → Outside F → List Given → Type 0
Completes asked status before now givens =
    (outcome : Outcome) → Due asked givens outcome → IsAnswered outcome.status
    → IfSome outcome.write (λ write. Rose (before.write_faults write.path) (now.write_faults write.path) → ⊥)
    → EndsWith outcome status before now ⊎ (status ≡ 7)

-- the count of failed reads rose of a file that the line names, and those before it are accepted
pub record EndsUnread {F : Type 0} (files : AreFiles F) (asked : Command) (status : ℕ) (before now : Outside F) : Type 0 where
  pub place : ℕ
  pub failed : FailsAt (paths_of asked) before.read_faults now.read_faults place
  pub stopped : OfGiven files asked status before now (LoadsFor asked (Err (load.ReadFault place)))
  pub said : Says before.err now.err (not_read_line (path_at (paths_of asked) place))

-- the count of failed writes to the output rose, and a proper part of these bytes was added to it
pub record OutputFailed {F : Type 0} (bytes : List ℕ) (before now : Outside F) : Type 0 where
  pub rose : Rose before.out.faults now.out.faults
  pub part : AppendsPart before.out.bytes now.out.bytes bytes
  pub said : Says before.err now.err (not_written_line output_name)

-- the count of failed calls that write to the file rose, and nothing was added to the output
pub record FileFailed {F : Type 0} (path : List ℕ) (before now : Outside F) : Type 0 where
  pub rose : Rose (before.write_faults path) (now.write_faults path)
  pub nothing : now.out.bytes ≡ before.out.bytes
  pub said : Says before.err now.err (not_written_line path)

-- where this was read the command can be done; its output failed, or the file that it writes, which is written in part
pub record EndsShort {F : Type 0} (asked : Command) (before now : Outside F) (givens : List Given) : Type 0 where
  pub outcome : Outcome
  pub due : Due asked givens outcome
  pub answered : IsAnswered outcome.status
  pub failed : OutputFailed outcome.out before now ⊎ MatchOption outcome.write ⊥ (λ write. FileFailed write.path before now)
  pub wrote : Changes before.told now.told (WritesPart outcome.write)

-- no file changed, or where this was read a file is due to be written, and it is written in part
abbrev pub LeavesPart : {F : Type 0} → Command → Outside F → Outside F → List Given → Type 0
LeavesPart asked before now givens =
    (now.told ≡ before.told) ⊎ ((outcome : Outcome) × Due asked givens outcome × Changes before.told now.told (WritesPart outcome.write))

-- how a run of a command ends
pub record Ends {F : Type 0} (files : AreFiles F) (asked : Command) (status : ℕ) (before now : Outside F) : Type 0 where
  -- where what was read decides the status, the run did what is due of it
  pub decided : IsDecided status → OfGiven files asked status before now (EndsAsDue asked status before now)
  -- so it did of what the files hold, unless it was cut short
  pub told : (IsCutShort status → ⊥) → OfHeld before.told asked (EndsAsDue asked status before now)
  -- where nothing failed, what is due was done, or memory was wanted
  pub complete : NoneRose (paths_of asked) before now → (Rose before.out.faults now.out.faults → ⊥) → OfHeld before.told asked (Completes asked status before now)
  -- 5 is for a file that couldn't be read
  pub read_fault : status ≡ 5 → EndsUnread files asked status before now
  -- 6 is for an output or a file that couldn't be written
  pub short : status ≡ 6 → OfGiven files asked status before now (EndsShort asked before now)
  pub short_told : status ≡ 6 → OfHeld before.told asked (EndsShort asked before now)
  -- 7 is for want of memory, which may come while the file is written
  pub wanting : status ≡ 7 → OfHeld before.told asked (LeavesPart asked before now)
  -- too many files aren't read
  pub too_many : most_files < length (paths_of asked) → now.files ≡ before.files
  -- no file changes or fails to be written but in mode `index`, where nothing is refused
  pub kept : (MayWrite asked status → ⊥) → now.told ≡ before.told
  pub no_write : (MayWrite asked status → ⊥) → now.write_faults ≡ before.write_faults

-- where words are a command, how a run of it ends
abbrev pub EndsAsAsked : {F : Type 0} → AreFiles F → List (List ℕ) → ℕ → Outside F → Outside F → Type 0
EndsAsAsked files words status before now = IfSome (command_of words) (λ asked. Ends files asked status before now)
