-- Types and coordinates by their tops, whose parts are numbers.
use Rattle.std.specs.Prelude.{ℕ, List, [], ◌∷◌, map, slice_index_or}
use Rattle.type_core.specs.declared.ty.Ty.{Ty}
use Rattle.type_core.specs.declared.ty.Field.{Field}
use Rattle.type_core.specs.declared.ty.Ty.TheVariants as ty
use Rattle.type_core.specs.declared.coordinate.Coordinate.{Coordinate}
use Rattle.type_core.specs.Coordinates.{coordinate}
use Rattle.type_intern.specs.Numbering.{AllBelow}
use Rattle.type_intern.specs.declared.node.TyId.{TyId}
use Rattle.type_intern.specs.declared.node.FieldId.{FieldId}
use Rattle.type_intern.specs.declared.node.Node.{Node}
use Rattle.type_intern.specs.declared.node.Node.TheVariants.{Var, Con, Rec, Tup, Arrow}
use Rattle.type_intern.specs.declared.node.CoordId.{CoordId}

-- the type under a number, and `unit` where there is none
abbrev pub type_at : List Ty → TyId → Ty
type_at types id = slice_index_or types id.0 (ty.Tup [])

-- the field whose type is under this number
abbrev pub field_at : List Ty → FieldId → Field
field_at types field = record { label = field.label; ty = type_at types field.ty }

-- the type with this top
abbrev pub tree_of : List Ty → Node → Ty
tree_of types (Var v) = ty.Var v
tree_of types (Con name ids) = ty.Con name (map (type_at types) ids)
tree_of types (Rec fields) = ty.Rec (map (field_at types) fields)
tree_of types (Tup ids) = ty.Tup (map (type_at types) ids)
tree_of types (Arrow a b) = ty.Arrow (type_at types a) (type_at types b)

-- the numbers of types
abbrev pub type_numbers : List TyId → List ℕ
type_numbers ids = map (λ id. id.0) ids

-- the numbers of the types of fields
abbrev pub field_numbers : List FieldId → List ℕ
field_numbers fields = map (λ field. field.ty.0) fields

-- the numbers in the top
abbrev pub parts_of : Node → List ℕ
parts_of (Var v) = []
parts_of (Con name ids) = type_numbers ids
parts_of (Rec fields) = field_numbers fields
parts_of (Tup ids) = type_numbers ids
parts_of (Arrow a b) = a.0 ∷ b.0 ∷ []

-- the parts of the top are numbers below n
abbrev pub FitsBelow : ℕ → Node → Type 0
FitsBelow n node = AllBelow n (parts_of node)

-- the numbers of coordinates
abbrev pub numbers_of : List CoordId → List ℕ
numbers_of ids = map (λ id. id.0) ids

-- the coordinate under a number, and `unit` where there is none
abbrev pub coord_at : List Coordinate → CoordId → Coordinate
coord_at coords id = slice_index_or coords id.0 (coordinate [] (ty.Tup []))

-- the coordinates under numbers
abbrev pub coords_at : List Coordinate → List CoordId → List Coordinate
coords_at coords ids = map (coord_at coords) ids
