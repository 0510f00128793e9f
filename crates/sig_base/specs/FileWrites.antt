-- What creating a file and appending to one do to the files, where they are told.
use Rattle.std.specs.Prelude.{◌≡◌, ◌⊎◌, ℕ, List, take, Option, Some, None, Result, Ok, Err, ⊤}
use Rattle.sig_base.specs.FileMap.{FileMap, appended, emptied}
use Rattle.sig_base.specs.declared.files.Trouble.{Trouble}
use Rattle.sig_base.specs.declared.files.Trouble.TheVariants.{Failed, NoMemory}

-- files that are told before are told afterwards, and this stands between them
abbrev pub Changes : Option FileMap → Option FileMap → (FileMap → FileMap → Type 0) → Type 0
Changes None now step = ⊤
Changes (Some before) None step = ⊥
Changes (Some before) (Some now) step = step before now

-- the file at the path has no bytes afterwards; where that was refused it may be as before
abbrev pub Creates : List ℕ → Result Unit Trouble → FileMap → FileMap → Type 0
Creates path (Ok done) before now = now ≡ emptied before path
Creates path (Err trouble) before now = (now ≡ before) ⊎ (now ≡ emptied before path)

-- after a failure the file may be as before, or made, with a prefix of the piece; after want of memory it is as before
abbrev pub AppendsPartTo : List ℕ → List ℕ → Trouble → FileMap → FileMap → Type 0
AppendsPartTo path piece Failed before now = (now ≡ before) ⊎ ((n : ℕ) × (now ≡ appended before path (take n piece)))
AppendsPartTo path piece NoMemory before now = now ≡ before

-- the piece is added at the end of the file at the path, or in trouble a part of it
abbrev pub AppendsTo : List ℕ → List ℕ → Result Unit Trouble → FileMap → FileMap → Type 0
AppendsTo path piece (Ok done) before now = now ≡ appended before path piece
AppendsTo path piece (Err trouble) before now = AppendsPartTo path piece trouble before now
