-- A file that is emptied and then added to has what was added.
use Rattle.std.proofs.Common.{◌≡◌, inl, inr, ℕ, Bool, true, false, cond, List, [], ◌++◌, take, refl, sym, ap, ◌∙◌}
use Rattle.std.specs.Prelude.{Option, Some, None, Result, Ok, Err, OnOk, OnErr, unwrap_or}
use Rattle.std.specs.FinMap.{get, get-insert, insert, nat_cmp-IsAntisymmetric, same_map, slice_cmp-IsAntisymmetric}
use Rattle.std.proofs.lemmas.Cmp.{nat_list_cmp_total}
use Rattle.std.proofs.lemmas.Map.Text.{is_eq-slice_cmp}
use Rattle.std.proofs.lemmas.Slice.Eq.{bytes_eq-Decides}
use Rattle.sig_base.specs.FileMap.{FileMap, appended, bytes_at, emptied}
use Rattle.sig_base.specs.FileWrites.{AppendsPartTo, AppendsTo, Changes}
use Rattle.sig_base.specs.declared.files.Trouble.{Trouble}
use Rattle.sig_base.specs.declared.files.Trouble.TheVariants.{Failed, NoMemory}
use Rattle.isosearch.specs.Ending.{Writes, WritesPart}
use Rattle.isosearch.specs.Outcome.{written}

shadowed : (here : Bool) (x y z : Option (List ℕ)) → cond here x (cond here y z) ≡ cond here x z
shadowed true x y z = refl
shadowed false x y z = refl

-- the later of two texts of one file counts
insert-twice : (files : FileMap) (path early late : List ℕ) → insert (insert files path early) path late ≡ insert files path late
insert-twice files path early late =
    same_map nat_list_cmp_total (slice_cmp-IsAntisymmetric nat_cmp-IsAntisymmetric) _ _ (λ key.
    get-insert nat_list_cmp_total (insert files path early) path late key
    ∙ ap (cond _ (Some late)) (get-insert nat_list_cmp_total files path early key)
    ∙ shadowed _ (Some late) (Some early) (get files key)
    ∙ sym (get-insert nat_list_cmp_total files path late key))

empty_bytes : (files : FileMap) (path : List ℕ) → bytes_at (emptied files path) path ≡ []
empty_bytes files path =
    ap (λ o. unwrap_or o []) (get-insert nat_list_cmp_total files path [] path
    ∙ ap (λ here. cond here (Some []) (get files path)) (is_eq-slice_cmp path path ∙ (bytes_eq-Decides path path).1 refl))

-- what is added to an emptied file is what it has
appended-emptied : (files : FileMap) (path piece : List ℕ) → appended (emptied files path) path piece ≡ insert files path piece
appended-emptied files path piece =
    ap (λ bytes. insert (emptied files path) path (bytes ++ piece)) (empty_bytes files path) ∙ insert-twice files path [] piece

whole : (before mid now : FileMap) (path bytes : List ℕ) → mid ≡ emptied before path → now ≡ appended mid path bytes → now ≡ insert before path bytes
whole before mid now path bytes empty added = added ∙ ap (λ files. appended files path bytes) empty ∙ appended-emptied before path bytes

part : (before mid now : FileMap) (path bytes : List ℕ) (trouble : Trouble) → mid ≡ emptied before path → AppendsPartTo path bytes trouble mid now → WritesPart (written path bytes).write before now
part before mid now path bytes Failed empty (inl same) = inr (0, same ∙ empty)
part before mid now path bytes Failed empty (inr (n, added)) = inr (n, whole before mid now path (take n bytes) empty added)
part before mid now path bytes NoMemory empty same = inr (0, same ∙ empty)

-- files that are told, emptied at a path and added to
pub replaced : (path bytes : List ℕ) (result : Result Unit Trouble) (before mid now : Option FileMap) → Changes before mid (λ b m. m ≡ emptied b path) → Changes mid now (AppendsTo path bytes result)
    → OnOk result (Changes before now (Writes (written path bytes).write))
replaced path bytes (Err trouble) before mid now empty added = tt
replaced path bytes (Ok done) None mid now empty added = tt
replaced path bytes (Ok done) (Some b) None now empty added = absurd empty
replaced path bytes (Ok done) (Some b) (Some m) None empty added = absurd added
replaced path bytes (Ok done) (Some b) (Some m) (Some n) empty added = whole b m n path bytes empty added

pub replaced_part : (path bytes : List ℕ) (result : Result Unit Trouble) (before mid now : Option FileMap) → Changes before mid (λ b m. m ≡ emptied b path) → Changes mid now (AppendsTo path bytes result)
    → OnErr result (Changes before now (WritesPart (written path bytes).write))
replaced_part path bytes (Ok done) before mid now empty added = tt
replaced_part path bytes (Err trouble) None mid now empty added = tt
replaced_part path bytes (Err trouble) (Some b) None now empty added = absurd empty
replaced_part path bytes (Err trouble) (Some b) (Some m) None empty added = absurd added
replaced_part path bytes (Err trouble) (Some b) (Some m) (Some n) empty added = part b m n path bytes trouble empty added
