-- What comes of what was read of signature files: their library, or the refusal of the first that is refused.
use Rattle.std.specs.Prelude.{◌≡◌, ℕ, suc, ◌+◌, ◌<◌, ◌≤◌, ⊤, List, [], ◌∷◌, length, slice_get, Option, Some, Result, Ok, Err, IfSome}
use Rattle.sig_base.specs.Faults.{Rose}
use Rattle.sig_base.specs.FileMap.{FileMap}
use Rattle.sml_lexer.specs.Places.{line_at, column_at}
use Rattle.type_core.specs.declared.library.Library.{Library}
use Rattle.elab_types.specs.Stages.{Flaw, Reads}
use Rattle.elab_rules.specs.Library.{Basis, empty_basis, library}
use Rattle.lib_load.specs.declared.refusals.Fault.{Fault}
use Rattle.lib_load.specs.declared.refusals.LoadRefusal.{LoadRefusal}
use Rattle.lib_load.specs.declared.refusals.LoadRefusal.TheVariants as refusal
use Rattle.lib_load.specs.Files.{files_over}
use Rattle.lib_load.specs.Given.{Given, file_limit, held, text, too_much, unread}

-- the greatest number of files
abbrev pub most_files : ℕ
most_files = 512

-- what comes of the bytes of the file before which there are so many: the basis with it, or what is wrong with it at a line and a column
abbrev pub lined : ℕ → List ℕ → Result Basis (Flaw Fault) → Result Basis LoadRefusal
lined before bytes (Ok basis) = Ok basis
lined before bytes (Err flaw) = Err (refusal.Bad before (line_at bytes flaw.place) (column_at bytes flaw.place) flaw.why)

-- what comes of what was read of a file, before which there are so many, over the basis of these
pub data TakesFile (before : ℕ) (basis : Basis) : Given → Result Basis LoadRefusal → Type 0 where
  failed : TakesFile before basis unread (Err (refusal.ReadFault before))
  long : TakesFile before basis too_much (Err (refusal.TooLong before))
  whole : {bytes : List ℕ} {result : Result Basis (Flaw Fault)} → Reads (files_over basis) bytes result
      → TakesFile before basis (text bytes) (lined before bytes result)

-- what comes of so many files in turn, each over the basis of those before it, where this was read of them; the first that is refused decides
pub data TakesFiles : ℕ → Basis → ℕ → Result Basis LoadRefusal → List Given → Type 0 where
  none : {before : ℕ} {basis : Basis} → TakesFiles before basis 0 (Ok basis) []
  refused : {before left : ℕ} {basis : Basis} {given : Given} {givens : List Given} {r : LoadRefusal}
      → TakesFile before basis given (Err r) → TakesFiles before basis (suc left) (Err r) (given ∷ givens)
  accepted : {before left : ℕ} {basis after : Basis} {given : Given} {givens : List Given} {outcome : Result Basis LoadRefusal}
      → TakesFile before basis given (Ok after) → TakesFiles (before + 1) after left outcome givens
      → TakesFiles before basis (suc left) outcome (given ∷ givens)

-- the library of the basis after all files, or the refusal of one
abbrev pub library_of : Result Basis LoadRefusal → Result Library LoadRefusal
library_of (Ok basis) = Ok (library basis)
library_of (Err r) = Err r

-- what comes of so many files, where this was read of them: they are too many, or they are taken in turn, before which nothing is declared
pub data Loads (count : ℕ) : Result Library LoadRefusal → List Given → Type 0 where
  too_many : {givens : List Given} → most_files < count → Loads count (Err refusal.TooManyFiles) givens
  in_turn : {outcome : Result Basis LoadRefusal} {givens : List Given} → count ≤ most_files
      → TakesFiles 0 empty_basis count outcome givens → Loads count (library_of outcome) givens

-- it is no want of memory
abbrev pub IsAnswer : {A : Type 0} → Result A LoadRefusal → Type 0
IsAnswer (Ok a) = ⊤
IsAnswer (Err refusal.NoMemory) = ⊥
IsAnswer (Err other) = ⊤

-- what the files hold decides the refusal: it is neither a fault of reading nor want of memory
abbrev pub Decides : LoadRefusal → Type 0
Decides (refusal.ReadFault place) = ⊥
Decides refusal.NoMemory = ⊥
Decides other = ⊤

-- what the files hold decides the answer
abbrev pub IsDecided : {A : Type 0} → Result A LoadRefusal → Type 0
IsDecided (Ok a) = ⊤
IsDecided (Err r) = Decides r

-- where the files are told, this comes of what they hold
abbrev pub LoadsTold : Option FileMap → List (List ℕ) → Result Library LoadRefusal → Type 0
LoadsTold told paths outcome = IfSome told (λ files. Loads (length paths) outcome (held file_limit files paths))

-- where the answer is a fault of reading, this holds of the file's place
abbrev pub IfReadFault : {A : Type 0} → Result A LoadRefusal → (ℕ → Type 0) → Type 0
IfReadFault (Ok a) holds = ⊤
IfReadFault (Err (refusal.ReadFault place)) holds = holds place
IfReadFault (Err other) holds = ⊤

-- the count of faults rose of the path of this place
pub record FailsAt (paths : List (List ℕ)) (before now : List ℕ → ℕ) (place : ℕ) : Type 0 where
  pub path : List ℕ
  pub there : slice_get paths place ≡ Some path
  pub rose : Rose (before path) (now path)
