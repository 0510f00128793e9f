-- Tables of coordinates, with the numbers of each coordinate's canonical form and erasure beside it, and of keys.
use Rattle.std.specs.Prelude.{◌≡◌, ◌<◌, ◌≤◌, ℕ, List, [], ◌∷◌, Some, map, length, slice_get, slice_index_or}
use Rattle.std.specs.Map.{keys_of}
use Rattle.type_core.specs.declared.ty.Ty.{Ty}
use Rattle.type_core.specs.declared.coordinate.Coordinate.{Coordinate}
use Rattle.type_core.specs.Coordinates.{coordinate}
use Rattle.type_intern.specs.Erasure.{as_is, erase}
use Rattle.type_intern.specs.Meanings.{Meanings}
use Rattle.type_intern.specs.Numbering.{AllBelow, Grows, StandsOnce}
use Rattle.type_intern.specs.Sorting.{sorted}
use Rattle.type_intern.specs.Tables.{IsTableOf, values_of}
use Rattle.type_intern.specs.Tops.{coords_at, numbers_of, type_at}
use Rattle.type_intern.specs.declared.node.CoordId.{CoordId}
use Rattle.type_intern.specs.declared.node.CoordNode.{CoordNode}
use Rattle.type_intern.specs.declared.node.Numbers.{Numbers}

-- the coordinate with this top
abbrev pub coord_of : List Ty → List Coordinate → CoordNode → Coordinate
coord_of types coords node = coordinate (coords_at coords node.args) (type_at types node.head)

-- the arguments are numbers below n, and the head is one of so many types
abbrev pub CoordFits : ℕ → ℕ → CoordNode → Type 0
CoordFits count n node = AllBelow n (numbers_of node.args) × (node.head.0 < count)

-- the coordinates with these tops
abbrev pub coords_of : List Ty → List CoordNode → List Coordinate
coords_of types nodes = values_of (coord_of types) nodes

-- the number beside a coordinate
abbrev pub number_at : List ℕ → CoordId → ℕ
number_at numbers id = slice_index_or numbers id.0 0

-- x has the numbers beside the arguments of n, in their order, and the head of n as it is seen
pub record IsReduced (seen : Ty → Ty) (types : List Ty) (numbers : List ℕ) (n x : CoordNode) : Type 0 where
  pub args : numbers_of x.args ≡ sorted (map (number_at numbers) n.args)
  pub head : slice_get types x.head.0 ≡ Some (seen (type_at types n.head))

-- beside each top stands the number of what it is reduced to, which stands no later and is reduced to itself
pub record AreReduced (seen : Ty → Ty) (types : List Ty) (nodes : List CoordNode) (numbers : List ℕ) : Type 0 where
  pub long : length numbers ≡ length nodes
  pub reduced : (i : ℕ) (n : CoordNode) (k : ℕ) → slice_get nodes i ≡ Some n → slice_get numbers i ≡ Some k
      → (x : CoordNode) × (slice_get nodes k ≡ Some x) × IsReduced seen types numbers n x
  pub no_later : (i k : ℕ) → slice_get numbers i ≡ Some k → k ≤ i
  pub own : (i k : ℕ) → slice_get numbers i ≡ Some k → slice_get numbers k ≡ Some k

-- the numbers of canonical forms, of erasures, and of keys
abbrev pub canons_in : List (CoordNode × Numbers) → List ℕ
canons_in es = map (λ e. e.1.canon.0) es

abbrev pub erased_in : List (CoordNode × Numbers) → List ℕ
erased_in es = map (λ e. e.1.erased.0) es

abbrev pub singles_in : List (CoordNode × Numbers) → List ℕ
singles_in es = map (λ e. e.1.key.0) es

-- the numbers in the list are those of erasures, in their order
pub record IsKeyList (erased : List ℕ) (ids : List CoordId) : Type 0 where
  pub below : AllBelow (length erased) (numbers_of ids)
  pub is : numbers_of ids ≡ sorted (map (number_at erased) ids)

-- each key is a list of erasures and stands once, and beside each coordinate stands the key of its erasure alone
pub record AreKeys (erased singles : List ℕ) (keys : List (List CoordId)) : Type 0 where
  pub once : StandsOnce keys
  pub lists : (i : ℕ) (ids : List CoordId) → slice_get keys i ≡ Some ids → IsKeyList erased ids
  pub long : length singles ≡ length erased
  pub single : (i e k : ℕ) → slice_get erased i ≡ Some e → slice_get singles i ≡ Some k
      → slice_get keys k ≡ Some (record { 0 = e } ∷ [])

-- no type stands twice; the tops make a table of coordinates, beside which stand canonical forms, erasures, which are
-- canonical, and keys
pub record IsArena (types : List Ty) (es : List (CoordNode × Numbers)) (keys : List (List CoordId)) : Type 0 where
  pub types_once : StandsOnce types
  pub table : IsTableOf (coord_of types) (CoordFits (length types)) (keys_of es) (coords_of types (keys_of es))
  pub canons : AreReduced as_is types (keys_of es) (canons_in es)
  pub erasures : AreReduced erase types (keys_of es) (erased_in es)
  pub canonical : (i k : ℕ) → slice_get (erased_in es) i ≡ Some k → slice_get (canons_in es) k ≡ Some k
  pub are_keys : AreKeys (erased_in es) (singles_in es) keys

-- after a call: the types stay as they are, and the entries and the keys stay, where more may follow
pub record GrowsTo (types now : List Ty) (es fs : List (CoordNode × Numbers)) (keys more : List (List CoordId))
    : Type 0 where
  pub same_types : now ≡ types
  pub arena : IsArena now fs more
  pub entries : Grows es fs
  pub lists : Grows keys more

-- k is the number of what n is reduced to, and beside it stands k itself
pub record IsReducedAt (seen : Ty → Ty) (types : List Ty) (nodes : List CoordNode) (numbers : List ℕ) (n : CoordNode)
    (k : ℕ) : Type 0 where
  pub to : CoordNode
  pub stands : slice_get nodes k ≡ Some to
  pub reduced : IsReduced seen types numbers n to
  pub own : slice_get numbers k ≡ Some k

-- k is the place of the list of the erasures of these coordinates, in their order
pub record IsKeyAt (erased : List ℕ) (keys : List (List CoordId)) (ids : List CoordId) (k : ℕ) : Type 0 where
  pub key : List CoordId
  pub stands : slice_get keys k ≡ Some key
  pub is : numbers_of key ≡ sorted (map (number_at erased) ids)

-- what the numbers mean
abbrev pub meanings : List Ty → List (CoordNode × Numbers) → List (List CoordId) → Meanings
meanings types es keys = record {
  types = types;
  coords = coords_of types (keys_of es);
  keys = map (coords_at (coords_of types (keys_of es))) keys;
}
