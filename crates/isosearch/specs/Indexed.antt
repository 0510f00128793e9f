-- An index file changes no byte.
use Rattle.std.specs.Prelude.{◌≡◌, ◌↔◌, ℕ, false, IsTrue, List, [], ◌∷◌, length, Ok}
use Rattle.type_core.specs.declared.library.Library.{Library}
use Rattle.query_cli.specs.declared.command.Command.{Command}
use Rattle.query_cli.specs.declared.command.Command.TheVariants as command
use Rattle.lib_index.specs.IndexText.{index_text}
use Rattle.lib_load.specs.Given.{Given, text}
use Rattle.lib_load.specs.Loading.{Loads}
use Rattle.isosearch.specs.Asked.{reads_index}
use Rattle.isosearch.specs.Outcome.{Due, Outcome}

-- the command over signature files in place of an index
abbrev pub over_files : List (List ℕ) → Command → Command
over_files files (command.Listing index from_index) = command.Listing files false
over_files files (command.Find mode query index names from_index) = command.Find mode query files names false
over_files files other = other

-- what was read is the index text of the library of so many files, of which these texts were read
pub record IsIndexOfFiles (count : ℕ) (texts givens : List Given) : Type 0 where
  pub library : Library
  pub loaded : Loads count (Ok library) texts
  pub held : givens ≡ text (index_text library) ∷ []

-- where a command reads the index of some files, this very outcome is due for it over the files
abbrev pub ChangesNoByte : Command → List Given → Outcome → Type 0
ChangesNoByte asked givens outcome =
    IsTrue (reads_index asked) → (files : List (List ℕ)) (texts : List Given) → IsIndexOfFiles (length files) texts givens
    → (other : Outcome) → Due (over_files files asked) texts other ↔ (other ≡ outcome)
