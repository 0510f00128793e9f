-- How a word splits a list of factors along a pattern.
use Rattle.std.specs.Prelude.{◌≡◌, ℕ, zero, suc, ◌+◌, ◌%◌, ◌<◌, List, [], ◌∷◌, ◌++◌, length, replicate}
use Rattle.type_core.specs.declared.ty.NameId.{NameId}
use Rattle.type_core.specs.declared.ty.VarId.{VarId}
use Rattle.type_core.specs.declared.ty.Ty.{Ty}
use Rattle.type_core.specs.declared.ty.Field.{Field}
use Rattle.type_core.specs.declared.ty.Ty.TheOpen.{Ty-F, Var, Con, Rec, Tup, Arrow}
use Rattle.type_core.specs.declared.ty.Ty.TheViews.{out-Ty}
use Rattle.iso_normal.specs.declared.factor.Factor.{Factor}
use Rattle.iso_normal.specs.declared.factor.Factor.TheOpen.{Atom, Arr}
use Rattle.iso_normal.specs.declared.factor.Factor.TheViews.{out-Factor}
use Rattle.iso_normal.specs.Factors.{IsNotOneArrow, factors_of_arrow}
use Rattle.linear_match.specs.Meetings.{Meeting, Meets, loosely}

-- the lists with f at the front of list number k
abbrev pub put_at : ℕ → Factor → List (List Factor) → List (List Factor)
put_at k f [] = []
put_at zero f (piece ∷ pieces) = (f ∷ piece) ∷ pieces
put_at (suc k) f (piece ∷ pieces) = piece ∷ put_at k f pieces

-- the letters, one for each factor and each below n, deal the factors to n pieces in order: letter l of factor number
-- j gives it to piece number (j + l) % n; the factors are numbered from j
pub data Dealt (n : ℕ) : ℕ → List ℕ → List Factor → List (List Factor) → Type 0 where
  dealt_none : (j : ℕ) → Dealt n j [] [] (replicate n [])
  dealt_more : {j : ℕ} {letters : List ℕ} {fs : List Factor} {pieces : List (List Factor)} (l : ℕ) (f : Factor) → l < n
      → Dealt n (suc j) letters fs pieces → Dealt n j (l ∷ letters) (f ∷ fs) (put_at ((j + l) % n) f pieces)

-- the letters, one for each factor, tell which are sent and which are kept, in order: 0 sends a factor, 1 keeps it
pub data Sorted : List ℕ → List Factor → List Factor → List Factor → Type 0 where
  sorted_none : Sorted [] [] [] []
  send : {letters : List ℕ} {fs sent kept : List Factor} (f : Factor) → Sorted letters fs sent kept
      → Sorted (0 ∷ letters) (f ∷ fs) (f ∷ sent) kept
  keep : {letters : List ℕ} {fs sent kept : List Factor} (f : Factor) → Sorted letters fs sent kept
      → Sorted (1 ∷ letters) (f ∷ fs) sent (f ∷ kept)

mutual
  -- the word splits the factors along the pattern, and these are the meetings of its variables, from left to right:
  -- a variable takes the list; an application or a record needs one atom that it meets; a tuple's letters deal the
  -- factors to its components; over one single arrow, an arrow's letters send arguments to its left side, and its right
  -- side gets the arrow from those that are kept to the results; over any other list an arrow's left side gets no
  -- factors, and its right side all
  pub data Splits : Ty-F Ty Field → List Factor → List ℕ → List Meeting → Type 0 where
    split_variable : (v : VarId) (fs : List Factor) → Splits (Var v) fs [] (loosely v fs ∷ [])
    split_application : {ps : List Ty} {f : Factor} {t : Ty} {ms : List Meeting} (name : NameId)
        → out-Factor f ≡ Atom t → Meets (Con name ps) t ms → Splits (Con name ps) (f ∷ []) [] ms
    split_record : {ps : List Field} {f : Factor} {t : Ty} {ms : List Meeting}
        → out-Factor f ≡ Atom t → Meets (Rec ps) t ms → Splits (Rec ps) (f ∷ []) [] ms
    split_tuple : {ps : List Ty} {fs : List Factor} {letters word : List ℕ} {pieces : List (List Factor)}
        {ms : List Meeting}
        → Dealt (length ps) 0 letters fs pieces → SplitEach ps pieces word ms → Splits (Tup ps) fs (letters ++ word) ms
    split_arrow : {p q : Ty} {f : Factor} {arguments results sent kept : List Factor} {letters word last : List ℕ}
        {ms ns : List Meeting}
        → out-Factor f ≡ Arr arguments results → Sorted letters arguments sent kept
        → Splits (out-Ty p) sent word ms → Splits (out-Ty q) (factors_of_arrow kept results) last ns
        → Splits (Arrow p q) (f ∷ []) (letters ++ (word ++ last)) (ms ++ ns)
    split_other : {p q : Ty} {fs : List Factor} {word last : List ℕ} {ms ns : List Meeting}
        → IsNotOneArrow fs → Splits (out-Ty p) [] word ms → Splits (out-Ty q) fs last ns
        → Splits (Arrow p q) fs (word ++ last) (ms ++ ns)

  -- the word splits each piece along the pattern at its place, one after the other
  pub data SplitEach : List Ty → List (List Factor) → List ℕ → List Meeting → Type 0 where
    split_none : SplitEach [] [] [] []
    split_more : {p : Ty} {ps : List Ty} {fs : List Factor} {pieces : List (List Factor)} {word last : List ℕ}
        {ms ns : List Meeting}
        → Splits (out-Ty p) fs word ms → SplitEach ps pieces last ns
        → SplitEach (p ∷ ps) (fs ∷ pieces) (word ++ last) (ms ++ ns)
