-- What is due for a command: it comes of what was read of its files.
use Rattle.std.specs.Prelude.{◌≡◌, ℕ, Bool, List, [], ◌∷◌, Option, Some, None, Ok, Err, slice_index_or}
use Rattle.type_core.specs.declared.library.Library.{Library}
use Rattle.type_core.specs.declared.ty.Scheme.{Scheme}
use Rattle.elab_types.specs.Stages as stages
use Rattle.query_parser.specs.declared.refusal.QueryWhy.{QueryWhy}
use Rattle.query_parser.specs.Queries.{Asks}
use Rattle.query_cli.specs.declared.command.Command.{Command}
use Rattle.query_cli.specs.declared.command.Command.TheVariants as command
use Rattle.lib_gen.specs.Summary.{IsSummary}
use Rattle.lib_index.specs.IndexText.{index_text}
use Rattle.lib_load.specs.declared.refusals.LoadRefusal.{LoadRefusal}
use Rattle.lib_load.specs.declared.refusals.LoadRefusal.TheVariants as load
use Rattle.lib_load.specs.Given.{Given}
use Rattle.lib_load.specs.Loading.{most_files}
use Rattle.search_core.specs.declared.answer.Hit.{Hit}
use Rattle.search_core.specs.declared.answer.Mode.{Mode}
use Rattle.search_core.specs.Report.{list_text, report_text}
use Rattle.search_core.specs.Search.{AreHits}
use Rattle.isosearch.specs.Asked.{LoadsFor, mode_of, paths_of}
use Rattle.isosearch.specs.Lines.{fault_text, no_index_line, no_memory_line, not_read_line, query_name, query_text, refusal_at, refusal_line, too_long_line, too_many_line}

-- the file at a path is to have these bytes
pub record Write : Type 0 where
  pub path : List ℕ
  pub bytes : List ℕ

-- a status, the bytes for the output, the line for standard error, and the file that is to be written, if any
pub record Outcome : Type 0 where
  pub status : ℕ
  pub out : List ℕ
  pub err : List ℕ
  pub write : Option Write

-- a status and a line, with nothing for the output and no file to be written
abbrev pub refused : ℕ → List ℕ → Outcome
refused status line = record { status = status; out = []; err = line; write = None }

-- a status and the bytes for the output
abbrev pub printed : ℕ → List ℕ → Outcome
printed status bytes = record { status = status; out = bytes; err = []; write = None }

-- the file at a path is to have these bytes, and nothing is printed
abbrev pub written : List ℕ → List ℕ → Outcome
written path bytes = record { status = 0; out = []; err = []; write = Some (record { path = path; bytes = bytes }) }

-- the path of this number
abbrev pub path_at : List (List ℕ) → ℕ → List ℕ
path_at paths place = slice_index_or paths place []

-- the outcome of a refusal of the files at these paths, whose line names the file that is refused; of too many it names the first that is one too many
abbrev pub refused_files : List (List ℕ) → LoadRefusal → Outcome
refused_files paths load.TooManyFiles = refused 3 (too_many_line (path_at paths most_files))
refused_files paths (load.ReadFault file) = refused 5 (not_read_line (path_at paths file))
refused_files paths (load.TooLong file) = refused 3 (too_long_line (path_at paths file))
refused_files paths (load.Bad file line column fault) = refused 3 (refusal_at (path_at paths file) line column (fault_text fault))
refused_files paths load.NotAnIndex = refused 8 (no_index_line (path_at paths 0))
refused_files paths load.NoMemory = refused 7 no_memory_line

-- 0 with a hit, 1 without
abbrev pub status_of : List Hit → ℕ
status_of [] = 1
status_of (hit ∷ hits) = 0

-- the outcome of `list`: the report of the whole library
abbrev pub listed : Library → Outcome
listed library = printed 0 (list_text library)

-- the outcome of a search: the report of its hits, with no more than names or whole
abbrev pub searched : Library → List Hit → Bool → Outcome
searched library hits names_only = printed (status_of hits) (report_text library hits names_only)

-- what is due of a search in a library: the refusal of the query, or the report of its hits in the mode
pub data Finding (library : Library) (mode : Mode) (query : List ℕ) (names : Bool) : Outcome → Type 0 where
  bad_query : {why : QueryWhy} {place : ℕ} → Asks library query (stages.refused why place)
      → Finding library mode query names (refused 4 (refusal_line query_name query place (query_text why)))
  found : {scheme : Scheme} {hits : List Hit} → Asks library query (Ok scheme) → AreHits library mode scheme hits
      → Finding library mode query names (searched library hits names)

-- what is due of `gen`: the summary for the number
abbrev pub Summing : ℕ → Outcome → Type 0
Summing n outcome = (text : List ℕ) × IsSummary n text × (outcome ≡ printed 0 text)

-- what is due of a command over a library: a list of it, what is due of the search, its index text in a file, or a
-- summary, for which no file is read
abbrev pub Answers : Library → Command → Outcome → Type 0
Answers library (command.Listing files from_index) outcome = outcome ≡ listed library
Answers library (command.Find find query files names from_index) outcome = Finding library (mode_of find) query names outcome
Answers library (command.Index path files) outcome = outcome ≡ written path (index_text library)
Answers library (command.Gen n) outcome = Summing n outcome

-- the outcome that is due where this was read of the command's files: the refusal of one, or what is due over their library
pub data Due (asked : Command) (givens : List Given) : Outcome → Type 0 where
  refusal : (r : LoadRefusal) → LoadsFor asked (Err r) givens → Due asked givens (refused_files (paths_of asked) r)
  answer : (library : Library) {outcome : Outcome} → LoadsFor asked (Ok library) givens
      → Answers library asked outcome → Due asked givens outcome
