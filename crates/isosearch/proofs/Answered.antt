-- What files, a query and a command come to is due.
use Rattle.std.proofs.Common.{◌≡◌, inl, inr, ℕ, Bool, List, refl, sym, subst}
use Rattle.std.specs.Prelude.{Option, Some, None, Result, Ok, Err}
use Rattle.sig_base.specs.FileMap.{FileMap}
use Rattle.sml_lexer.specs.declared.line_col.LineCol.{LineCol}
use Rattle.sml_lexer.specs.Places.{column_at, line_at}
use Rattle.type_core.specs.declared.library.Library.{Library}
use Rattle.type_core.specs.declared.ty.Scheme.{Scheme}
use Rattle.elab_types.specs.Stages as stages
use Rattle.query_parser.specs.declared.refusal.QueryWhy.{QueryWhy}
use Rattle.query_parser.specs.Queries.{Asks}
use Rattle.query_cli.specs.declared.command.Command.{Command}
use Rattle.lib_load.specs.declared.refusals.LoadRefusal.{LoadRefusal}
use Rattle.lib_load.specs.declared.refusals.LoadRefusal.TheVariants as load
use Rattle.lib_load.specs.Given.{FromGiven, Gives}
use Rattle.lib_load.specs.Loading as loading
use Rattle.search_core.specs.declared.answer.Hit.{Hit}
use Rattle.search_core.specs.declared.answer.Mode.{Mode}
use Rattle.search_core.specs.Search.{AreHits}
use Rattle.isosearch.specs.Answering.{Fails, IsAnswerTo, IsDueGiven, IsDueTold, IsFinding, WantsMemory, answered}
use Rattle.isosearch.specs.Asked.{LoadsFor, OfHeld, limit_of, paths_of}
use Rattle.isosearch.specs.Outcome.{Finding, answer, bad_query, found, refusal, refused_files, searched}
use Rattle.isosearch.specs.declared.answering.Answer.{Answer}
use Rattle.isosearch.specs.declared.answering.Refusal.{Refusal}
use Rattle.isosearch.specs.declared.answering.Refusal.TheVariants as refused

-- the refusal of a query is due
pub query_refused : (library : Library) (mode : Mode) (query : List ℕ) (names : Bool) (why : QueryWhy) (place : ℕ) (at : LineCol) → Asks library query (stages.refused why place) → at.line ≡ line_at query place → at.col ≡ column_at query place
    → IsFinding library mode query names (Err (refused.Query why at))
query_refused library mode query names why place at asks line column = λ asked kept. rw (line, column) (bad_query asks)

-- the report of the hits is due
pub query_found : (library : Library) (mode : Mode) (query : List ℕ) (names : Bool) (scheme : Scheme) (a : Answer) → Asks library query (Ok scheme)
    → (hits : List Hit) × AreHits library mode scheme hits × ((asked : Command) → answered asked a ≡ searched library hits names) → IsFinding library mode query names (Ok a)
query_found library mode query names scheme a asks (hits, are, is) = λ asked kept. let A = Finding library mode query names in subst A (sym (is asked)) (found asks are)

-- what is due over the library of the files is due
module _ (asked : Command) (library : Library) (result : Result Answer Refusal) (answers : IsAnswerTo library asked result) where
  pub answer_given : {S : Type 0} (gives : Gives S) (faults : S → List ℕ → ℕ) (first last : S)
      → FromGiven (limit_of asked) gives faults (paths_of asked) first last (LoadsFor asked (Ok library)) → IsDueGiven gives faults first last asked result
  answer_given gives faults first last read = λ kept. record { givens = read.givens; gave = read.gave; follows = answer library read.follows (answers kept) }

  pub answer_told : (told : Option FileMap) → OfHeld told asked (LoadsFor asked (Ok library)) → IsDueTold told asked result
  answer_told None loaded = λ sound. tt
  answer_told (Some files) loaded = λ sound. answer library loaded (answers (λ seven. sound (inr seven)))

-- what the status says of a refusal of files
read_answers : (paths : List (List ℕ)) (r : LoadRefusal) → (WantsMemory (refused_files paths r) → ⊥) → loading.IsAnswer {A = Library} (Err r)
read_answers paths load.TooManyFiles kept = tt
read_answers paths (load.ReadFault file) kept = tt
read_answers paths (load.TooLong file) kept = tt
read_answers paths (load.Bad file line column fault) kept = tt
read_answers paths load.NotAnIndex kept = tt
read_answers paths load.NoMemory kept = kept refl

held_decides : (paths : List (List ℕ)) (r : LoadRefusal) → (Fails (refused_files paths r) → ⊥) → loading.IsDecided {A = Library} (Err r)
held_decides paths load.TooManyFiles sound = tt
held_decides paths (load.ReadFault file) sound = sound (inl refl)
held_decides paths (load.TooLong file) sound = tt
held_decides paths (load.Bad file line column fault) sound = tt
held_decides paths load.NotAnIndex sound = tt
held_decides paths load.NoMemory sound = sound (inr refl)

-- the refusal of the files is due
module _ (asked : Command) (r : LoadRefusal) where
  pub refusal_given : {S : Type 0} (gives : Gives S) (faults : S → List ℕ → ℕ) (first last : S)
      → (loading.IsAnswer {A = Library} (Err r) → FromGiven (limit_of asked) gives faults (paths_of asked) first last (LoadsFor asked (Err r))) → IsDueGiven gives faults first last asked (Err (refused.Files r))
  refusal_given gives faults first last fails = λ kept.
      let loaded = fails (read_answers (paths_of asked) r kept) in
      record { givens = loaded.givens; gave = loaded.gave; follows = refusal r loaded.follows }

  pub refusal_told : (told : Option FileMap) → (loading.IsDecided {A = Library} (Err r) → OfHeld told asked (LoadsFor asked (Err r))) → IsDueTold told asked (Err (refused.Files r))
  refusal_told None fails = λ sound. tt
  refusal_told (Some files) fails = λ sound. refusal r (fails (held_decides (paths_of asked) r sound))
