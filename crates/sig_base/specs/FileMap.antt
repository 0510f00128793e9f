-- Files by their paths.
use Rattle.std.specs.Prelude.{ℕ, List, [], ◌++◌, unwrap_or}
use Rattle.std.specs.Ordering.{nat_cmp}
use Rattle.std.specs.Cmp.Lexicographic.{slice_cmp}
use Rattle.std.specs.FinMap.{FinMap, get, insert}

-- a finite map from the bytes of a path to the bytes of the file there
abbrev pub FileMap : Type 0
FileMap = FinMap (slice_cmp nat_cmp) (List ℕ)

-- the bytes of the file at a path, and none where there is no file
abbrev pub bytes_at : FileMap → List ℕ → List ℕ
bytes_at files path = unwrap_or (get files path) []

-- the files, and at this path one of no bytes
abbrev pub emptied : FileMap → List ℕ → FileMap
emptied files path = insert files path []

-- the files, with a piece added at the end of the one at this path, which is made where there is none
abbrev pub appended : FileMap → List ℕ → List ℕ → FileMap
appended files path piece = insert files path (bytes_at files path ++ piece)
