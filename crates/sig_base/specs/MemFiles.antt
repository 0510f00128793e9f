-- Files in memory: what they hold, which reads fail, and what a failure counts.
use Rattle.std.specs.Prelude.{◌≡◌, ◌⊎◌, ℕ, zero, suc, ◌+◌, ◌-◌, ◌^◌, min, List, [], ◌∷◌, map, Option, None, ⊤, bytes_eq}
use Rattle.std.specs.List.{AllByRecursion, position_from}
use Rattle.std.specs.FinMap.{from_entries, get}
use Rattle.sig_base.specs.FaultCounts.{count_at}
use Rattle.sig_base.specs.FileMap.{FileMap}
use Rattle.sig_base.specs.Script.{FailsCall}
use Rattle.sig_base.specs.declared.fault_counts.FaultCounts.{FaultCounts}
use Rattle.sig_base.specs.declared.mem_file.MemFile.{MemFile}
use Rattle.sig_base.specs.declared.mem_files.MemFiles.{MemFiles}

-- no two of the files have one path
abbrev pub DistinctPaths : List MemFile → Type 0
DistinctPaths [] = ⊤
DistinctPaths (file ∷ files) = AllByRecursion (λ other. ¬ (other.path ≡ file.path)) files × DistinctPaths files

-- a path and the bytes there
abbrev pub entry : MemFile → List ℕ × List ℕ
entry file = (file.path, file.bytes)

-- the map from paths to bytes
abbrev pub map_of : List MemFile → FileMap
map_of files = from_entries (map entry files)

-- the files, where the one of a place has these bytes
abbrev pub with_bytes : List MemFile → ℕ → List ℕ → List MemFile
with_bytes [] place bytes = []
with_bytes (file ∷ files) zero bytes = record file { bytes = bytes } ∷ files
with_bytes (file ∷ files) (suc place) bytes = file ∷ with_bytes files place bytes

-- the place of the first file at this path
abbrev pub place_in : List MemFile → List ℕ → Option ℕ
place_in files path = position_from (λ file. bytes_eq path file.path) 0 files

-- the count of a path: that of its file, or the one of all paths of no file
abbrev pub counts_in : List MemFile → FaultCounts → List ℕ → ℕ
counts_in files counts path = count_at counts (place_in files path)

-- the files, by their paths
abbrev pub files_of : MemFiles → FileMap
files_of memory = map_of memory.files.items

-- for each path how many reads have failed
abbrev pub read_counts_of : MemFiles → List ℕ → ℕ
read_counts_of memory = counts_in memory.files.items memory.read_faults

-- for each path how many calls that write have failed
abbrev pub write_counts_of : MemFiles → List ℕ → ℕ
write_counts_of memory = counts_in memory.files.items memory.write_faults

-- the numbers of the calls that are to fail
abbrev pub script_of : MemFiles → List ℕ
script_of memory = memory.script.fails

-- the number of the next call
abbrev pub call_of : MemFiles → Option ℕ
call_of memory = memory.script.next

-- the next call fails, since its number is in the script
abbrev pub IsScripted : MemFiles → Type 0
IsScripted memory = FailsCall (call_of memory) (script_of memory)

-- a read of this path fails now: its number is in the script, or there is no file
abbrev pub FailsAt : MemFiles → List ℕ → Type 0
FailsAt memory path = IsScripted memory ⊎ (get (files_of memory) path ≡ None)

-- two paths have one count: they are the same, or both are outside the map
abbrev pub SharesCount : FileMap → List ℕ → List ℕ → Type 0
SharesCount files path other = (path ≡ other) ⊎ ((get files path ≡ None) × (get files other ≡ None))

-- a failure at a path raised its count by one, as far as `u64` goes, and no other
pub record RaisedAt (files : FileMap) (path : List ℕ) (before now : List ℕ → ℕ) : Type 0 where
  pub own : (other : List ℕ) → SharesCount files path other → now other ≡ min (before other + 1) (2 ^ 64 - 1)
  pub others : (other : List ℕ) → ¬ (SharesCount files path other) → now other ≡ before other
