-- What reads give one after another, and what that says of the file where the files are told.
use Rattle.std.specs.Prelude.{◌≡◌, ℕ, ◌<◌, ◌≤◌, List, [], ◌++◌, length, take, drop, Option, Some, None, ⊤}
use Rattle.std.specs.FinMap.{get}
use Rattle.sig_base.specs.Faults.{Rose}
use Rattle.sig_base.specs.FileMap.{FileMap}

-- where the files are told, there is one at the path, and these are its bytes
abbrev pub Holds : Option FileMap → List ℕ → List ℕ → Type 0
Holds None path bytes = ⊤
Holds (Some files) path bytes = get files path ≡ Some bytes

-- where the files are told, there is one at the path, and it has more than so many bytes
abbrev pub HoldsMore : Option FileMap → List ℕ → ℕ → Type 0
HoldsMore None path limit = ⊤
HoldsMore (Some files) path limit = (bytes : List ℕ) × (get files path ≡ Some bytes) × (limit < length bytes)

-- bytes of a file from this place on; there are none only where there was no room or the file has no byte there
abbrev pub PieceOf : Option (List ℕ) → ℕ → ℕ → List ℕ → Type 0
PieceOf None place room bytes = ⊥
PieceOf (Some whole) place room bytes = (bytes ≡ take (length bytes) (drop place whole)) × (length bytes ≡ 0 → 0 < room → length whole ≤ place)

-- where the files are told, these are bytes of the one at the path
abbrev pub IsPiece : Option FileMap → List ℕ → ℕ → ℕ → List ℕ → Type 0
IsPiece None path place room bytes = ⊤
IsPiece (Some files) path place room bytes = PieceOf (get files path) place room bytes

-- a read tells of the files: what it gave is theirs, and they stay as they were
pub record Tells (before after : Option FileMap) (path : List ℕ) (place room : ℕ) (bytes : List ℕ) : Type 0 where
  pub kept : after ≡ before
  pub piece : IsPiece before path place room bytes

-- reads from the start of a file on, each at the end of what those before it gave, gave these bytes, and each at least one
pub data Gave {S : Type 0} (gives : S → List ℕ → ℕ → ℕ → List ℕ → S → Type 0) (path : List ℕ) (first : S) : List ℕ → S → Type 0 where
  nothing : Gave gives path first [] first
  more : {bytes piece : List ℕ} {room : ℕ} {before after : S} → Gave gives path first bytes before → gives before path (length bytes) room piece after → 0 < length piece → Gave gives path first (bytes ++ piece) after

-- reads gave these bytes, and one more that had room gave none
pub record GaveAll {S : Type 0} (gives : S → List ℕ → ℕ → ℕ → List ℕ → S → Type 0) (path : List ℕ) (first : S) (bytes : List ℕ) (last : S) : Type 0 where
  pub before : S
  pub room : ℕ
  pub gave : Gave gives path first bytes before
  pub some_room : 0 < room
  pub ends : gives before path (length bytes) room [] last

-- reads gave more bytes than this, and those before the last of them didn't
pub record GaveMore {S : Type 0} (gives : S → List ℕ → ℕ → ℕ → List ℕ → S → Type 0) (path : List ℕ) (first : S) (limit : ℕ) (last : S) : Type 0 where
  pub before : S
  pub bytes : List ℕ
  pub room : ℕ
  pub piece : List ℕ
  pub gave : Gave gives path first bytes before
  pub within : length bytes ≤ limit
  pub ends : gives before path (length bytes) room piece last
  pub long : limit < length (bytes ++ piece)

-- reads gave no more bytes than this, and the next one failed: in it the path's count of faults rose
pub record FailedWithin {S : Type 0} (gives : S → List ℕ → ℕ → ℕ → List ℕ → S → Type 0) (faults : S → List ℕ → ℕ) (path : List ℕ) (first : S) (limit : ℕ) (last : S) : Type 0 where
  pub before : S
  pub bytes : List ℕ
  pub gave : Gave gives path first bytes before
  pub within : length bytes ≤ limit
  pub rose : Rose (faults before path) (faults last path)
