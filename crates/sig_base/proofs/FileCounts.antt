-- What a failure counts among files in memory, and that no count changes where a file is changed or made.
use Rattle.std.proofs.Common.{◌≡◌, ℕ, ◌+◌, ◌-◌, ◌^◌, ◌≤◌, ◌<◌, Bool, true, false, cond, List, [], ◌∷◌, ◌++◌, length, refl, sym, ap, ◌∙◌, inl, inr, arith}
use Rattle.std.specs.Prelude.{◌⊎◌, ◌==◌, Option, Some, None, Result, Ok, Err, OnOk, OnErr, min, bytes_eq}
use Rattle.std.specs.FinMap.{get}
use Rattle.std.proofs.Math.Path.{fun_ext}
use Rattle.std.proofs.lemmas.Bool.Decides.{nat_tests}
use Rattle.sig_base.proofs.Places.{first_found, first_path, first_within, get-none, place-none, place-pushed-found, place-pushed-none, place-with_bytes}
use Rattle.sig_base.specs.Faults.{NoneFell}
use Rattle.sig_base.specs.FaultCounts.{SetAt, count_at}
use Rattle.sig_base.specs.MemFiles.{RaisedAt, SharesCount, counts_in, map_of, place_in, with_bytes}
use Rattle.sig_base.specs.declared.fault_counts.FaultCounts.{FaultCounts}
use Rattle.sig_base.specs.declared.mem_file.MemFile.{MemFile}

same_place : (place other : Option ℕ) → (other ≡ place) ⊎ (¬ (other ≡ place))
same_place None None = inl refl
same_place None (Some n) = inr (λ same. cc)
same_place (Some m) None = inr (λ same. cc)
same_place (Some m) (Some n) =
    elim (n == m) as (λ test. (n == m) ≡ test → (Some n ≡ Some m) ⊎ (¬ (Some n ≡ Some m))) [
      | true ↦ λ is. inl (ap (λ k. Some k) (grind (arith, nat_tests)))
      | false ↦ λ is. inr (λ same. let equal : n ≡ m = cc in grind (arith, nat_tests))
    ] refl

none_fell : (place : Option ℕ) (count : ℕ) (before now : FaultCounts) → SetAt place count before now → count_at before place ≤ count → (other : Option ℕ) → count_at before other ≤ count_at now other
none_fell place count before now set more other =
    elim (same_place place other) [
      | inl same ↦ rw same (omega (arith, set.own, more))
      | inr apart ↦ omega (arith, set.others other apart)
    ]

-- a count that isn't set lower leaves none lower, and a refusal leaves all
pub none_fell-set : {E : Type 0} (place : Option ℕ) (count : ℕ) (before now : FaultCounts) (result : Result Unit E) → OnOk result (SetAt place count before now) → OnErr result (count_at now ≡ count_at before)
    → count_at before place ≤ count → (other : Option ℕ) → count_at before other ≤ count_at now other
none_fell-set place count before now (Ok done) set kept more other = none_fell place count before now set more other
none_fell-set place count before now (Err refused) set kept more other = omega (arith, ap (λ counts. counts other) kept)

-- paths that share a count have one place, or none
place_of_shared : (files : List MemFile) (path other : List ℕ) → SharesCount (map_of files) path other → place_in files other ≡ place_in files path
place_of_shared files path other (inl same) = ap (place_in files) (sym same)
place_of_shared files path other (inr none) = place-none files other none.1 ∙ sym (place-none files path none.0)

-- and the other way round
shared_of_place : (files : List MemFile) (path other : List ℕ) → place_in files other ≡ place_in files path → SharesCount (map_of files) path other
shared_of_place files path other same =
    elim (place_in files path) as (λ place. place_in files path ≡ place → SharesCount (map_of files) path other) [
      | None ↦ λ none. inr (get-none files path none, get-none files other (same ∙ none))
      | Some place ↦ λ found. inl (first_path files place path other (first_found path place files found) (first_found other place files (same ∙ found)))
    ] refl

-- the count of a path's place is raised, and so that of each path that shares it
pub raised : (files : List MemFile) (path : List ℕ) (place : Option ℕ) (before now : FaultCounts) → place ≡ place_in files path → SetAt place (min (count_at before place + 1) (2 ^ 64 - 1)) before now
    → RaisedAt (map_of files) path (counts_in files before) (counts_in files now)
raised files path place before now is set = record {
  own = λ other shares. let at : place_in files other ≡ place = place_of_shared files path other shares ∙ sym is in rw at set.own;
  others = λ other apart. set.others (place_in files other) (λ same. apart (shared_of_place files path other (same ∙ is)));
}

pub same_counts : (files : List MemFile) (before now : FaultCounts) → count_at now ≡ count_at before → counts_in files now ≡ counts_in files before
same_counts files before now same = ap (λ counts. λ path. counts (place_in files path)) same

-- other bytes leave all counts
pub counts-with_bytes : (files : List MemFile) (place : ℕ) (bytes : List ℕ) (counts : FaultCounts) → counts_in (with_bytes files place bytes) counts ≡ counts_in files counts
counts-with_bytes files place bytes counts = fun_ext (λ path. ap (count_at counts) (place-with_bytes path bytes 0 place files))

not_last : (files : List MemFile) (path : List ℕ) (place last : ℕ) → last ≡ length files → place_in files path ≡ Some place → ¬ (Some place ≡ Some last)
not_last files path place last is found same =
    let within = first_within files place path (first_found path place files found) in
    let equal : place ≡ last = cc in
    omega (arith, within, equal, is)

-- a count at the place behind the last is no path's
pub counts_behind : (files : List MemFile) (place count : ℕ) (before now : FaultCounts) → place ≡ length files → SetAt (Some place) count before now → counts_in files now ≡ counts_in files before
counts_behind files last count before now is set = fun_ext (λ path.
    elim (place_in files path) as (λ place. place_in files path ≡ place → count_at now place ≡ count_at before place) [
      | None ↦ λ none. set.others None (λ same. cc)
      | Some place ↦ λ found. set.others (Some place) (not_last files path place last is found)
    ] refl)

made_or_outside : (here : Bool) (place last : ℕ) (before now : FaultCounts) → last ≡ place → SetAt (Some last) (count_at before None) before now → count_at now (cond here (Some place) None) ≡ count_at before None
made_or_outside true place last before now is set = ap (λ n. count_at now (Some n)) (sym is) ∙ set.own
made_or_outside false place last before now is set = set.others None (λ same. cc)

-- a file that is made takes the count that its path had among the paths outside, and all counts stay
pub counts-pushed : (files : List MemFile) (made : MemFile) (last : ℕ) (before now : FaultCounts) → last ≡ length files → SetAt (Some last) (count_at before None) before now
    → counts_in (files ++ made ∷ []) now ≡ counts_in files before
counts-pushed files made last before now is set = fun_ext (λ path.
    elim (place_in files path) as (λ place. place_in files path ≡ place → count_at now (place_in (files ++ made ∷ []) path) ≡ count_at before place) [
      | None ↦ λ outside. rw (place-pushed-none path 0 files made outside) (made_or_outside (bytes_eq path made.path) (0 + length files) last before now (is ∙ omega arith) set)
      | Some place ↦ λ found. rw (place-pushed-found path 0 place files made found) (set.others (Some place) (not_last files path place last is found))
    ] refl)
