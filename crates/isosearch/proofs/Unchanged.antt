-- An index file changes no byte of what is due.
use Rattle.std.proofs.Common.{◌≡◌, ℕ, Bool, true, false, List, length, refl, sym, subst}
use Rattle.std.specs.Prelude.{IsTrue, Result, Ok, Err}
use Rattle.std.proofs.lemmas.Bool.{false≢true}
use Rattle.type_core.specs.declared.library.Library.{Library}
use Rattle.type_core.specs.ValidLibrary.{IsValidLibrary}
use Rattle.query_cli.specs.declared.command.Command.{Command}
use Rattle.query_cli.specs.declared.command.Command.TheVariants as command
use Rattle.lib_load.specs.declared.refusals.LoadRefusal.{LoadRefusal}
use Rattle.lib_load.specs.Given.{Given}
use Rattle.lib_load.specs.Indexes.{LoadsIndex, found}
use Rattle.lib_load.specs.Loading.{Loads}
use Rattle.isosearch.specs.Asked.{LoadsFrom, paths_of, reads_index}
use Rattle.isosearch.specs.Indexed.{ChangesNoByte, IsIndexOfFiles, over_files}
use Rattle.isosearch.specs.Outcome.{Answers, Due, Outcome, answer, refusal}
use Rattle.isosearch.proofs.DueEnds.{OneOutcome}
use Rattle.isosearch.proofs.DueOne.{OneIndexing, ok_err_not, same_ok}

-- what is read for a command that reads an index comes of an index
of_index : (from_index : Bool) (count : ℕ) (outcome : Result Library LoadRefusal) (givens : List Given) → IsTrue from_index → LoadsFrom from_index count outcome givens → LoadsIndex outcome givens
of_index true count outcome givens is loads = loads
of_index false count outcome givens is loads = absurd (false≢true is)

-- what is due over a library is due of the command over the files of this library
over_library : (asked : Command) (files : List (List ℕ)) (library : Library) (texts : List Given) (outcome : Outcome) → IsTrue (reads_index asked) → Loads (length files) (Ok library) texts
    → Answers library asked outcome → Due (over_files files asked) texts outcome
over_library (command.Listing index from_index) files library texts outcome is loads answers = answer library loads answers
over_library (command.Find mode query index names from_index) files library texts outcome is loads answers = answer library loads answers
over_library (command.Index path index) files library texts outcome is loads answers = absurd (false≢true is)
over_library (command.Gen n) files library texts outcome is loads answers = absurd (false≢true is)

-- the library of so many files, of which this was read, is valid
abbrev pub AreValid : Type 0
AreValid = (count : ℕ) (texts : List Given) (library : Library) → Loads count (Ok library) texts → IsValidLibrary library

module _ (one : OneOutcome) (one_index : OneIndexing) (valid : AreValid) where
  over : (asked : Command) (givens : List Given) (outcome : Outcome) → Due asked givens outcome → IsTrue (reads_index asked) → (files : List (List ℕ)) (texts : List Given) → IsIndexOfFiles (length files) texts givens
      → Due (over_files files asked) texts outcome
  over asked givens outcome (refusal r loads) is files texts index =
      let held : LoadsIndex (Ok index.library) givens = subst (λ g. LoadsIndex (Ok index.library) g) (sym index.held) (found (valid (length files) texts index.library index.loaded, refl)) in
      absurd (ok_err_not index.library r _ _ refl refl (one_index givens _ _ held (of_index (reads_index asked) (length (paths_of asked)) (Err r) givens is loads)))
  over asked givens outcome (answer library loads answers) is files texts index =
      let held : LoadsIndex (Ok index.library) givens = subst (λ g. LoadsIndex (Ok index.library) g) (sym index.held) (found (valid (length files) texts index.library index.loaded, refl)) in
      let same : library ≡ index.library = same_ok library index.library _ _ refl refl (one_index givens _ _ (of_index (reads_index asked) (length (paths_of asked)) (Ok library) givens is loads) held) in
      over_library asked files index.library texts outcome is index.loaded (subst (λ l. Answers l asked outcome) same answers)

  pub no_byte_changes : (asked : Command) (givens : List Given) (outcome : Outcome) → Due asked givens outcome → ChangesNoByte asked givens outcome
  no_byte_changes asked givens outcome due is files texts index other =
      let here : Due (over_files files asked) texts outcome = over asked givens outcome due is files texts index in
      (λ also. one (over_files files asked) texts other outcome also here, λ same. subst (λ o. Due (over_files files asked) texts o) (sym same) here)
