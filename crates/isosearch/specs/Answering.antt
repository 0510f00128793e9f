-- What the parts of a run answer.
use Rattle.std.specs.Prelude.{◌≡◌, ◌⊎◌, ℕ, Bool, List, [], ⊤, Option, Result, Ok, Err, if◌then◌else◌}
use Rattle.sig_base.specs.FileMap.{FileMap}
use Rattle.type_core.specs.declared.library.Library.{Library}
use Rattle.query_cli.specs.declared.command.Command.{Command}
use Rattle.query_cli.specs.declared.command.Command.TheVariants as command
use Rattle.lib_load.specs.declared.refusals.LoadRefusal.TheVariants as load
use Rattle.lib_load.specs.Given.{FromGiven, Gives}
use Rattle.lib_load.specs.Loading as loading
use Rattle.search_core.specs.declared.answer.Mode.{Mode}
use Rattle.isosearch.specs.Asked.{LoadsFor, OfHeld, limit_of, paths_of}
use Rattle.isosearch.specs.Lines.{no_memory_line, query_name, query_text, refusal_at}
use Rattle.isosearch.specs.Outcome.{Answers, Due, Finding, Outcome, printed, refused, refused_files, written}
use Rattle.isosearch.specs.declared.answering.Answer.{Answer}
use Rattle.isosearch.specs.declared.answering.Answer.TheVariants as answer
use Rattle.isosearch.specs.declared.answering.Refusal.{Refusal}
use Rattle.isosearch.specs.declared.answering.Refusal.TheVariants as refusal

-- the path of the file that a command writes
abbrev pub out_of : Command → List ℕ
out_of (command.Index path files) = path
out_of other = []

-- the command writes an index
abbrev pub WritesIndex : Command → Type 0
WritesIndex (command.Index path files) = ⊤
WritesIndex other = ⊥

-- an index is the answer only to a command that writes one
abbrev pub Fits : Command → Answer → Type 0
Fits asked (answer.Report text found_none) = ⊤
Fits asked (answer.Index text) = WritesIndex asked

-- the outcome of an answer to a command
abbrev pub answered : Command → Answer → Outcome
answered asked (answer.Report text found_none) = printed (if found_none then 1 else 0) text
answered asked (answer.Index text) = written (out_of asked) text

-- the outcome of a refusal, where the files are at these paths
abbrev pub refusal_of : List (List ℕ) → Refusal → Outcome
refusal_of paths (refusal.Files r) = refused_files paths r
refusal_of paths (refusal.Query why at) = refused 4 (refusal_at query_name at.line at.col (query_text why))
refusal_of paths refusal.NoMemory = refused 7 no_memory_line

-- the outcome of what came of a command
abbrev pub outcome_of : Command → Result Answer Refusal → Outcome
outcome_of asked (Ok a) = answered asked a
outcome_of asked (Err r) = refusal_of (paths_of asked) r

-- memory was wanted
abbrev pub WantsMemory : Outcome → Type 0
WantsMemory outcome = outcome.status ≡ 7

-- a file couldn't be read, or memory was wanted
abbrev pub Fails : Outcome → Type 0
Fails outcome = (outcome.status ≡ 5) ⊎ (outcome.status ≡ 7)

-- the outcome of the report, for any command, is due of the search, want of memory aside
abbrev pub IsFinding : Library → Mode → List ℕ → Bool → Result Answer Refusal → Type 0
IsFinding library mode query names found =
    (asked : Command) → (WantsMemory (outcome_of asked found) → ⊥) → Finding library mode query names (outcome_of asked found)

-- the outcome of the answer is due over the library, want of memory aside
abbrev pub IsAnswerTo : Library → Command → Result Answer Refusal → Type 0
IsAnswerTo library asked a = (WantsMemory (outcome_of asked a) → ⊥) → Answers library asked (outcome_of asked a)

-- reading gave something of which the outcome of the answer is due, want of memory aside
abbrev pub IsDueGiven : {S : Type 0} → Gives S → (S → List ℕ → ℕ) → S → S → Command → Result Answer Refusal → Type 0
IsDueGiven gives faults first last asked a =
    (WantsMemory (outcome_of asked a) → ⊥)
    → FromGiven (limit_of asked) gives faults (paths_of asked) first last (λ givens. Due asked givens (outcome_of asked a))

-- where the files are told, the outcome of the answer is due of what they hold, unless reading failed or memory was wanted
abbrev pub IsDueTold : Option FileMap → Command → Result Answer Refusal → Type 0
IsDueTold told asked a =
    (Fails (outcome_of asked a) → ⊥) → OfHeld told asked (λ givens. Due asked givens (outcome_of asked a))

-- where the refusal is a fault of reading, this holds of the file's place
abbrev pub IfUnread : Result Answer Refusal → (ℕ → Type 0) → Type 0
IfUnread (Err (refusal.Files r)) holds = loading.IfReadFault {A = Library} (Err r) holds
IfUnread other holds = ⊤

-- reading gave something of which comes that the file of this place couldn't be read: those before it are accepted
abbrev pub StopsAt : {S : Type 0} → Gives S → (S → List ℕ → ℕ) → Command → S → S → ℕ → Type 0
StopsAt gives faults asked first last place =
    FromGiven (limit_of asked) gives faults (paths_of asked) first last (LoadsFor asked (Err (load.ReadFault place)))
