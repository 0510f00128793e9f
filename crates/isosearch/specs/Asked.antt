-- What a command reads, and what words can ask for.
use Rattle.std.specs.Prelude.{◌≡◌, ℕ, ◌≤◌, Bool, true, false, if◌then◌else◌, IsTrue, List, [], ⊤, length, Option, Result, IfSome}
use Rattle.sig_base.specs.FileMap.{FileMap}
use Rattle.type_core.specs.declared.library.Library.{Library}
use Rattle.query_cli.specs.declared.command.Command.{Command}
use Rattle.query_cli.specs.declared.command.Command.TheVariants as command
use Rattle.query_cli.specs.declared.command.FindMode.{FindMode}
use Rattle.query_cli.specs.declared.command.FindMode.TheVariants as find
use Rattle.lib_load.specs.declared.refusals.LoadRefusal.{LoadRefusal}
use Rattle.lib_load.specs.Given.{Given, file_limit, held, index_limit}
use Rattle.lib_load.specs.Indexes.{LoadsIndex}
use Rattle.lib_load.specs.Loading.{Loads}
use Rattle.search_core.specs.declared.answer.Mode.{Mode}
use Rattle.search_core.specs.declared.answer.Mode.TheVariants as mode

-- the mode of a search
abbrev pub mode_of : FindMode → Mode
mode_of find.Same = mode.Same
mode_of find.Iso = mode.Iso
mode_of find.General = mode.General

-- the paths of the files that a command reads
abbrev pub paths_of : Command → List (List ℕ)
paths_of (command.Listing files from_index) = files
paths_of (command.Find mode query files names from_index) = files
paths_of (command.Index out files) = files
paths_of (command.Gen n) = []

-- whether a command reads an index
abbrev pub reads_index : Command → Bool
reads_index (command.Listing files from_index) = from_index
reads_index (command.Find mode query files names from_index) = from_index
reads_index (command.Index out files) = false
reads_index (command.Gen n) = false

-- the greatest number of bytes in a file that is read: in an index, or in a signature file
abbrev pub limit_for : Bool → ℕ
limit_for from_index = if from_index then index_limit else file_limit

-- the greatest number of bytes in a file that the command reads
abbrev pub limit_of : Command → ℕ
limit_of asked = limit_for (reads_index asked)

-- what comes of what was read: of an index, or of so many signature files
abbrev pub LoadsFrom : Bool → ℕ → Result Library LoadRefusal → List Given → Type 0
LoadsFrom true count = LoadsIndex
LoadsFrom false count = Loads count

-- what comes of what was read for the command
abbrev pub LoadsFor : Command → Result Library LoadRefusal → List Given → Type 0
LoadsFor asked = LoadsFrom (reads_index asked) (length (paths_of asked))

-- where the files are told, this holds of what those hold that the command reads
abbrev pub OfHeld : Option FileMap → Command → (List Given → Type 0) → Type 0
OfHeld told asked holds = IfSome told (λ files. holds (held (limit_of asked) files (paths_of asked)))

-- words can ask for the command: an index is the one file that it reads, and a library is made for a number from 1 to 20,000
abbrev pub CanBeAsked : Command → Type 0
CanBeAsked (command.Listing files from_index) = IsTrue from_index → length files ≡ 1
CanBeAsked (command.Find mode query files names from_index) = IsTrue from_index → length files ≡ 1
CanBeAsked (command.Index out files) = ⊤
CanBeAsked (command.Gen n) = (1 ≤ n) × (n ≤ 20000)
