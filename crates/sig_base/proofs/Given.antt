-- What reads gave, and that it is the file's where files are told.
use Rattle.std.proofs.Common.{◌≡◌, ℕ, ◌<◌, ◌≤◌, List, [], ◌++◌, length, take, sym, ap, ◌∙◌, refl, arith, length-append, subst}
use Rattle.std.specs.Prelude.{Option, Some, None, ⊤}
use Rattle.std.specs.FinMap.{get}
use Rattle.std.proofs.Math.Seq.{take-add}
use Rattle.std.proofs.lemmas.List.{take_all, length-take, length-take-le}
use Rattle.sig_base.specs.FileMap.{FileMap}
use Rattle.sig_base.specs.Reading.{Gave, GaveAll, GaveMore, Holds, HoldsMore, IsPiece, PieceOf, Tells, nothing, more}

module _ {S : Type 0} (gives : S → List ℕ → ℕ → ℕ → List ℕ → S → Type 0) (path : List ℕ) (first before after : S) (bytes buffer : List ℕ) (place n room : ℕ) (so_far : Gave gives path first bytes before) (at : place ≡ length bytes) (given : gives before path place room (take n buffer) after) where
  here : gives before path (length bytes) room (take n buffer) after
  here = subst (λ p. gives before path p room (take n buffer) after) at given

  -- a read adds to what was given
  pub gave_more : (m : ℕ) → n ≡ m → n ≤ length buffer → 0 < n → Gave gives path first (bytes ++ take m buffer) after
  gave_more m same fits some =
      subst (λ k. Gave gives path first (bytes ++ take k buffer) after) same (more so_far here (omega (arith, some, length-take-le n buffer fits)))

  -- a read that brings it over a limit is the first to
  pub gave_over : (m limit : ℕ) → n ≡ m → length bytes ≤ limit → limit < length (bytes ++ take m buffer) → GaveMore gives path first limit after
  gave_over m limit same within long = record {
    before = before;
    bytes = bytes;
    room = room;
    piece = take m buffer;
    gave = so_far;
    within = within;
    ends = subst (λ k. gives before path (length bytes) room (take k buffer) after) same here;
    long = long;
  }

  -- a read of nothing ends it
  pub gave_all : 0 < room → n ≡ 0 → GaveAll gives path first bytes after
  gave_all some is = record {
    before = before;
    room = room;
    gave = so_far;
    some_room = some;
    ends = subst (λ k. gives before path (length bytes) room (take k buffer) after) is here;
  }

-- bytes at the front of a file, of which there is one or nothing was read
abbrev FrontOf : Option (List ℕ) → List ℕ → Type 0
FrontOf None front = front ≡ []
FrontOf (Some whole) front = front ≡ take (length front) whole

starts : (file : Option (List ℕ)) → FrontOf file []
starts None = refl
starts (Some whole) = refl

grows : (file : Option (List ℕ)) (front piece : List ℕ) (room : ℕ) → FrontOf file front → PieceOf file (length front) room piece → FrontOf file (front ++ piece)
grows None front piece room is next = absurd next
grows (Some whole) front piece room is next =
    rw (length-append front piece, take-add) (ap (λ xs. xs ++ piece) is ∙ ap (λ xs. take (length front) whole ++ xs) next.0)

ends_at : (file : Option (List ℕ)) (front : List ℕ) (room : ℕ) → FrontOf file front → 0 < room → PieceOf file (length front) room [] → file ≡ Some front
ends_at None front room is some next = absurd next
ends_at (Some whole) front room is some next = ap (λ xs. Some xs) (sym (is ∙ take_all (length front) whole (next.1 refl some)))

is_long : (file : Option (List ℕ)) (front : List ℕ) (limit : ℕ) → FrontOf file front → limit < length front → (whole : List ℕ) × (file ≡ Some whole) × (limit < length whole)
is_long None front limit is long = absurd (omega (arith, ap length is))
is_long (Some whole) front limit is long = (whole, refl, omega (arith, ap length is ∙ length-take (length front) whole))

abbrev FrontWhere : Option FileMap → List ℕ → List ℕ → Type 0
FrontWhere None path front = ⊤
FrontWhere (Some files) path front = FrontOf (get files path) front

starts_where : (told : Option FileMap) (path : List ℕ) → FrontWhere told path []
starts_where None path = tt
starts_where (Some files) path = starts (get files path)

grows_where : (told : Option FileMap) (path front piece : List ℕ) (room : ℕ) → FrontWhere told path front → IsPiece told path (length front) room piece → FrontWhere told path (front ++ piece)
grows_where None path front piece room is next = tt
grows_where (Some files) path front piece room is next = grows (get files path) front piece room is next

ends_where : (told : Option FileMap) (path front : List ℕ) (room : ℕ) → FrontWhere told path front → 0 < room → IsPiece told path (length front) room [] → Holds told path front
ends_where None path front room is some next = tt
ends_where (Some files) path front room is some next = ends_at (get files path) front room is some next

long_where : (told : Option FileMap) (path front : List ℕ) (limit : ℕ) → FrontWhere told path front → limit < length front → HoldsMore told path limit
long_where None path front limit is long = tt
long_where (Some files) path front limit is long = is_long (get files path) front limit is long

module _ {S : Type 0} (files : S → Option FileMap) (gives : S → List ℕ → ℕ → ℕ → List ℕ → S → Type 0) (path : List ℕ) (first : S)
    (tells : (before after : S) (path : List ℕ) (place room : ℕ) (bytes : List ℕ) → gives before path place room bytes after → Tells (files before) (files after) path place room bytes) where
  -- the files stay while they are read
  pub gave_kept : (bytes : List ℕ) (last : S) → Gave gives path first bytes last → files last ≡ files first
  gave_kept bytes last nothing = refl
  gave_kept bytes last (more {bytes = front} {piece = piece} {room = room} {before = before} {after = after} so_far next some) =
      (tells before after path (length front) room piece next).kept ∙ gave_kept front before so_far

  piece_of_first : (front piece : List ℕ) (room : ℕ) (before after : S) → Gave gives path first front before → gives before path (length front) room piece after → IsPiece (files first) path (length front) room piece
  piece_of_first front piece room before after so_far next =
      subst (λ told. IsPiece told path (length front) room piece) (gave_kept front before so_far) (tells before after path (length front) room piece next).piece

  gave_front : (bytes : List ℕ) (last : S) → Gave gives path first bytes last → FrontWhere (files first) path bytes
  gave_front bytes last nothing = starts_where (files first) path
  gave_front bytes last (more {bytes = front} {piece = piece} {room = room} {before = before} {after = after} so_far next some) =
      grows_where (files first) path front piece room (gave_front front before so_far) (piece_of_first front piece room before after so_far next)

  -- where files are told, what reads gave to the end is the file
  pub gave_all_held : (bytes : List ℕ) (last : S) → GaveAll gives path first bytes last → Holds (files first) path bytes
  gave_all_held bytes last all =
      ends_where (files first) path bytes all.room (gave_front bytes all.before all.gave) all.some_room (piece_of_first bytes [] all.room all.before last all.gave all.ends)

  -- where files are told and reads gave more than so many bytes, the file has more
  pub gave_more_held : (limit : ℕ) (last : S) → GaveMore gives path first limit last → HoldsMore (files first) path limit
  gave_more_held limit last m =
      long_where (files first) path (m.bytes ++ m.piece) limit
      (grows_where (files first) path m.bytes m.piece m.room (gave_front m.bytes m.before m.gave)
      (piece_of_first m.bytes m.piece m.room m.before last m.gave m.ends)) m.long
