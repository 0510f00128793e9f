-- What reading gave of files at some paths, and what files that are told hold.
use Rattle.std.specs.Prelude.{◌≡◌, ◌⊎◌, ℕ, ◌≤◌, nat_le, List, [], ◌∷◌, ⊤, length, map, Option, Some, None, if◌then◌else◌}
use Rattle.std.specs.FinMap.{get}
use Rattle.sig_base.specs.FileMap.{FileMap}
use Rattle.sig_base.specs.Reading.{FailedWithin, GaveAll, GaveMore}

-- the greatest number of bytes in a signature file
abbrev pub file_limit : ℕ
file_limit = 4194304

-- the greatest number of bytes in an index file
abbrev pub index_limit : ℕ
index_limit = 67108864

-- which reads files answer: the files before, the path, the place, the room, the bytes given, and the files after
abbrev pub Gives : Type 0 → Type 1
Gives S = S → List ℕ → ℕ → ℕ → List ℕ → S → Type 0

-- what was read of a file: nothing, since reading failed; more bytes than a file may have; or its text
pub data Given : Type 0 where
  unread : Given
  too_much : Given
  text : List ℕ → Given

-- reading at a path gave this, where a file may have so many bytes: more than these, or a text to its end
pub data GaveThis {S : Type 0} (limit : ℕ) (gives : Gives S) (path : List ℕ) (first last : S) : Given → Type 0 where
  long : GaveMore gives path first limit last → GaveThis limit gives path first last too_much
  whole : {bytes : List ℕ} → GaveAll gives path first bytes last → length bytes ≤ limit → GaveThis limit gives path first last (text bytes)

-- reading at the first of these paths in turn gave these; where a read failed, no more than a file may have was read of that file, and nothing after it
pub data GaveThese {S : Type 0} (limit : ℕ) (gives : Gives S) (faults : S → List ℕ → ℕ) : S → List (List ℕ) → List Given → S → Type 0 where
  none : {first : S} {paths : List (List ℕ)} → GaveThese limit gives faults first paths [] first
  failed : {first last : S} {path : List ℕ} {paths : List (List ℕ)} → FailedWithin gives faults path first limit last
      → GaveThese limit gives faults first (path ∷ paths) (unread ∷ []) last
  next : {first between last : S} {path : List ℕ} {paths : List (List ℕ)} {given : Given} {givens : List Given}
      → GaveThis limit gives path first between given → GaveThese limit gives faults between paths givens last
      → GaveThese limit gives faults first (path ∷ paths) (given ∷ givens) last

-- reading at the first of these paths in turn gave something of which this holds
pub record FromGiven {S : Type 0} (limit : ℕ) (gives : Gives S) (faults : S → List ℕ → ℕ) (paths : List (List ℕ)) (first last : S)
    (holds : List Given → Type 0) : Type 0 where
  pub givens : List Given
  pub gave : GaveThese limit gives faults first paths givens last
  pub follows : holds givens

-- what reading gives of a file of these bytes; there is nothing to read where there is no file
abbrev pub given_of : ℕ → Option (List ℕ) → Given
given_of limit None = unread
given_of limit (Some bytes) = if nat_le (length bytes) limit then text bytes else too_much

-- what reading gives of the files at these paths
abbrev pub held : ℕ → FileMap → List (List ℕ) → List Given
held limit files paths = map (λ path. given_of limit (get files path)) paths

-- what was read is what the files at the first of these paths hold, but where reading failed
abbrev pub AreHeld : ℕ → FileMap → List (List ℕ) → List Given → Type 0
AreHeld limit files paths [] = ⊤
AreHeld limit files [] (given ∷ givens) = ⊥
AreHeld limit files (path ∷ paths) (given ∷ givens) = ((given ≡ unread) ⊎ (given ≡ given_of limit (get files path))) × AreHeld limit files paths givens
