-- Where a path's file stands among files in memory, and what the map is when its bytes change or a file is added.
use Rattle.std.proofs.Common.{◌≡◌, ℕ, zero, suc, ◌+◌, ◌-◌, ◌<◌, ◌≤◌, Bool, true, false, cond, List, [], ◌∷◌, ◌++◌, length, get_or, set, refl, sym, ap, ◌∙◌, arith}
use Rattle.std.specs.Prelude.{Option, Some, None, map, bytes_eq}
use Rattle.std.specs.List.{position_from}
use Rattle.std.specs.Ordering.{nat_cmp}
use Rattle.std.specs.Cmp.Lexicographic.{slice_cmp}
use Rattle.std.specs.FinMap.{find, from_entries_push, get, get-from_entries, get-insert, insert, nat_cmp-IsAntisymmetric, same_map, slice_cmp-IsAntisymmetric, IsAntisymmetric}
use Rattle.std.proofs.lemmas.Cmp.{nat_list_cmp_total}
use Rattle.std.proofs.lemmas.List.{map-append}
use Rattle.std.proofs.lemmas.Map.Text.{is_eq-slice_cmp}
use Rattle.std.proofs.lemmas.Slice.Eq.{bytes_eq-Decides}
use Rattle.sig_base.specs.MemFiles.{entry, map_of, place_in, with_bytes}
use Rattle.sig_base.specs.declared.mem_file.MemFile.{MemFile}

-- the file at this place is the first of this path
abbrev pub IsFirst : List MemFile → ℕ → List ℕ → Type 0
IsFirst [] place path = ⊥
IsFirst (file ∷ files) zero path = path ≡ file.path
IsFirst (file ∷ files) (suc place) path = (bytes_eq path file.path ≡ false) × IsFirst files place path

-- the place of the first file of a path, where the files begin at a number
abbrev place_from : ℕ → List MemFile → List ℕ → Option ℕ
place_from start files path = position_from (λ file. bytes_eq path file.path) start files

same_text : (text other : List ℕ) → bytes_eq text other ≡ true → text ≡ other
same_text text other same = (bytes_eq-Decides text other).0 same

not_before : (path : List ℕ) (start place : ℕ) (files : List MemFile) → place_from start files path ≡ Some place → start ≤ place
not_before path start place [] found = cc
not_before path start place (file ∷ files) found =
    elim (bytes_eq path file.path) as (λ here. cond here (Some start) (place_from (start + 1) files path) ≡ Some place → start ≤ place) [
      | true ↦ λ found. let same : start ≡ place = cc in omega arith
      | false ↦ λ found. let later = not_before path (start + 1) place files found in omega (arith, later)
    ] found

first_from : (path : List ℕ) (start place : ℕ) (files : List MemFile) → place_from start files path ≡ Some place → IsFirst files (place - start) path
first_from path start place [] found = cc
first_from path start place (file ∷ files) found =
    elim (bytes_eq path file.path) as (λ here. bytes_eq path file.path ≡ here → cond here (Some start) (place_from (start + 1) files path) ≡ Some place → IsFirst (file ∷ files) (place - start) path) [
      | true ↦ λ here found. let same : start ≡ place = cc in let is : place - start ≡ zero = omega arith in rw is (same_text path file.path here)
      | false ↦ λ apart found.
          let later = not_before path (start + 1) place files found in
          let is : place - start ≡ suc (place - (start + 1)) = omega (arith, later) in
          rw is (apart, first_from path (start + 1) place files found)
    ] refl found

-- a place that is found is that of the first file
pub first_found : (path : List ℕ) (place : ℕ) (files : List MemFile) → place_in files path ≡ Some place → IsFirst files place path
first_found path place files found = let is : place - 0 ≡ place = omega arith in rw is at (first_from path 0 place files found)

pub first_within : (files : List MemFile) (place : ℕ) (path : List ℕ) → IsFirst files place path → place < length files
first_within [] place path is = absurd is
first_within (file ∷ files) zero path is = omega arith
first_within (file ∷ files) (suc place) path is = omega (arith, first_within files place path is.1)

-- of one place there is one path
pub first_path : (files : List MemFile) (place : ℕ) (path other : List ℕ) → IsFirst files place path → IsFirst files place other → path ≡ other
first_path [] place path other is too = absurd is
first_path (file ∷ files) zero path other is too = is ∙ sym too
first_path (file ∷ files) (suc place) path other is too = first_path files place path other is.1 too.1

find-first : (files : List MemFile) (place : ℕ) (path : List ℕ) (default : MemFile) → IsFirst files place path
    → find (slice_cmp nat_cmp) path (map entry files) ≡ Some (get_or files place default).bytes
find-first [] place path default is = absurd is
find-first (file ∷ files) zero path default is = rw (is_eq-slice_cmp path file.path, (bytes_eq-Decides path file.path).1 is) refl
find-first (file ∷ files) (suc place) path default is = rw (is_eq-slice_cmp path file.path, is.0) (find-first files place path default is.1)

find-none : (path : List ℕ) (start : ℕ) (files : List MemFile) → place_from start files path ≡ None → find (slice_cmp nat_cmp) path (map entry files) ≡ None
find-none path start [] none = refl
find-none path start (file ∷ files) none =
    rw (is_eq-slice_cmp path file.path)
    (elim (bytes_eq path file.path) as (λ here. cond here (Some start) (place_from (start + 1) files path) ≡ None → cond here (Some file.bytes) (find (slice_cmp nat_cmp) path (map entry files)) ≡ None) [
      | true ↦ λ none. cc
      | false ↦ λ none. find-none path (start + 1) files none
    ] none)

-- the map has the bytes of the file at the path's place
pub get-found : (files : List MemFile) (place : ℕ) (path : List ℕ) (default : MemFile) → place_in files path ≡ Some place → get (map_of files) path ≡ Some (get_or files place default).bytes
get-found files place path default found = get-from_entries nat_list_cmp_total (map entry files) path ∙ find-first files place path default (first_found path place files found)

pub get-none : (files : List MemFile) (path : List ℕ) → place_in files path ≡ None → get (map_of files) path ≡ None
get-none files path none = get-from_entries nat_list_cmp_total (map entry files) path ∙ find-none path 0 files none

found_not_none : (files : List MemFile) (path : List ℕ) (place : ℕ) → place_in files path ≡ Some place → get (map_of files) path ≡ None → ⊥
found_not_none [] path place found none = cc
found_not_none (file ∷ files) path place found none = let there = get-found (file ∷ files) place path file found in cc

-- a path that the map hasn't has no place
pub place-none : (files : List MemFile) (path : List ℕ) → get (map_of files) path ≡ None → place_in files path ≡ None
place-none files path none =
    elim (place_in files path) as (λ place. place_in files path ≡ place → place ≡ None) [
      | None ↦ λ _. refl
      | Some place ↦ λ found. absurd (found_not_none files path place found none)
    ] refl

-- other bytes leave every path at its place
pub place-with_bytes : (path bytes : List ℕ) (start place : ℕ) (files : List MemFile) → place_from start (with_bytes files place bytes) path ≡ place_from start files path
place-with_bytes path bytes start place [] = refl
place-with_bytes path bytes start zero (file ∷ files) = refl
place-with_bytes path bytes start (suc place) (file ∷ files) = ap (cond (bytes_eq path file.path) (Some start)) (place-with_bytes path bytes (start + 1) place files)

-- to set the file of a place to itself with other bytes is that
pub set-with_bytes : (files : List MemFile) (place : ℕ) (file : MemFile) (bytes : List ℕ) → place < length files → file ≡ get_or files place file
    → set files place (record { path = file.path; bytes = bytes }) ≡ with_bytes files place bytes
set-with_bytes [] place file bytes within is = absurd (omega (arith, within))
set-with_bytes (first ∷ files) zero file bytes within is = ap (λ path. record { path = path; bytes = bytes } ∷ files) (ap (λ f. f.path) is)
set-with_bytes (first ∷ files) (suc place) file bytes within is = ap (λ rest. first ∷ rest) (set-with_bytes files place file bytes (omega (arith, within)) is)

-- the first of two equal keys wins
shadowed : (here : Bool) (x y z : Option (List ℕ)) → cond here x z ≡ cond here x (cond here y z)
shadowed true x y z = refl
shadowed false x y z = refl

-- two keys that differ don't both fit
swapped : (here there : Bool) (x y z : Option (List ℕ)) → (here ≡ true → there ≡ true → ⊥) → cond here x (cond there y z) ≡ cond there y (cond here x z)
swapped true true x y z apart = absurd (apart refl refl)
swapped true false x y z apart = refl
swapped false there x y z apart = refl

not_both : (path other key : List ℕ) → bytes_eq path other ≡ false → bytes_eq key other ≡ true → bytes_eq key path ≡ true → ⊥
not_both path other key apart there here =
    let same : path ≡ other = sym (same_text key path here) ∙ same_text key other there in
    let is = (bytes_eq-Decides path other).1 same in
    cc

find-with_bytes : (files : List MemFile) (place : ℕ) (path bytes key : List ℕ) → IsFirst files place path
    → find (slice_cmp nat_cmp) key (map entry (with_bytes files place bytes)) ≡ cond (bytes_eq key path) (Some bytes) (find (slice_cmp nat_cmp) key (map entry files))
find-with_bytes [] place path bytes key is = absurd is
find-with_bytes (file ∷ files) zero path bytes key is =
    rw (is_eq-slice_cmp key file.path, is) (shadowed (bytes_eq key file.path) (Some bytes) (Some file.bytes) (find (slice_cmp nat_cmp) key (map entry files)))
find-with_bytes (file ∷ files) (suc place) path bytes key is =
    rw (is_eq-slice_cmp key file.path, find-with_bytes files place path bytes key is.1)
    (swapped (bytes_eq key file.path) (bytes_eq key path) (Some file.bytes) (Some bytes) (find (slice_cmp nat_cmp) key (map entry files)) (not_both path file.path key is.0))

antisymmetric : IsAntisymmetric (slice_cmp nat_cmp)
antisymmetric = slice_cmp-IsAntisymmetric nat_cmp-IsAntisymmetric

-- other bytes for the file of a path
pub map-with_bytes : (files : List MemFile) (place : ℕ) (path bytes : List ℕ) → place_in files path ≡ Some place → map_of (with_bytes files place bytes) ≡ insert (map_of files) path bytes
map-with_bytes files place path bytes found =
    same_map nat_list_cmp_total antisymmetric _ _ (λ key.
    get-from_entries nat_list_cmp_total (map entry (with_bytes files place bytes)) key
    ∙ find-with_bytes files place path bytes key (first_found path place files found)
    ∙ sym (get-insert nat_list_cmp_total (map_of files) path bytes key
    ∙ ap (λ here. cond here (Some bytes) (get (map_of files) key)) (is_eq-slice_cmp key path)
    ∙ ap (cond (bytes_eq key path) (Some bytes)) (get-from_entries nat_list_cmp_total (map entry files) key)))

-- one more file, of a path that had none
pub map-pushed : (files : List MemFile) (made : MemFile) (path : List ℕ) → place_in files path ≡ None → made.path ≡ path → map_of (files ++ made ∷ []) ≡ insert (map_of files) path made.bytes
map-pushed files made path none is =
    rw (map-append, is) (from_entries_push nat_list_cmp_total antisymmetric (map entry files) path made.bytes (find-none path 0 files none))

-- one more file leaves the paths of the others at their places
pub place-pushed-found : (path : List ℕ) (start place : ℕ) (files : List MemFile) (made : MemFile) → place_from start files path ≡ Some place → place_from start (files ++ made ∷ []) path ≡ Some place
place-pushed-found path start place [] made found = cc
place-pushed-found path start place (file ∷ files) made found =
    elim (bytes_eq path file.path) as (λ here. cond here (Some start) (place_from (start + 1) files path) ≡ Some place → cond here (Some start) (place_from (start + 1) (files ++ made ∷ []) path) ≡ Some place) [
      | true ↦ λ found. found
      | false ↦ λ found. place-pushed-found path (start + 1) place files made found
    ] found

pub place-pushed-none : (path : List ℕ) (start : ℕ) (files : List MemFile) (made : MemFile) → place_from start files path ≡ None
    → place_from start (files ++ made ∷ []) path ≡ cond (bytes_eq path made.path) (Some (start + length files)) None
place-pushed-none path start [] made none = let is : start + 0 ≡ start = omega arith in rw is refl
place-pushed-none path start (file ∷ files) made none =
    elim (bytes_eq path file.path) as (λ here. cond here (Some start) (place_from (start + 1) files path) ≡ None → cond here (Some start) (place_from (start + 1) (files ++ made ∷ []) path) ≡ cond (bytes_eq path made.path) (Some (start + length (file ∷ files))) None) [
      | true ↦ λ none. cc
      | false ↦ λ none. let is : start + 1 + length files ≡ start + length (file ∷ files) = omega arith in rw (← is) (place-pushed-none path (start + 1) files made none)
    ] none
