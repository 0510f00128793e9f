-- The labels of a type, and weights.
use Rattle.std.specs.Prelude.{ℕ, ◌+◌, List, [], ◌∷◌, ◌++◌, if◌then◌else◌, length, map}
use Rattle.type_core.specs.declared.library.Library.{Library}
use Rattle.type_core.specs.declared.library.Tycon.{Tycon}
use Rattle.type_core.specs.declared.library.Unit.{Unit}
use Rattle.type_core.specs.declared.member.Member.{Member}
use Rattle.type_core.specs.declared.names.TypeName.{TypeName}
use Rattle.type_core.specs.declared.ty.Ty.{Ty}
use Rattle.type_core.specs.declared.ty.Ty.TheOpen.{Ty-F, Field-F, Var, Con, Rec, Tup, Arrow}
use Rattle.type_core.specs.declared.ty.Ty.TheFolds.{fold-Ty}
use Rattle.type_core.specs.Lists.{concatenated, sum_of}
use Rattle.type_core.specs.Size.{size_of}

abbrev pub labels_step : Ty-F (List (List ℕ)) (List (List ℕ)) → List (List ℕ)
labels_step (Var v) = []
labels_step (Con name arguments) = concatenated arguments
labels_step (Rec fields) = concatenated fields
labels_step (Tup components) = concatenated components
labels_step (Arrow from to) = from ++ to

abbrev pub labels_field_step : Field-F (List (List ℕ)) (List (List ℕ)) → List (List ℕ)
labels_field_step field = field.label ∷ field.ty

-- the labels of all records in the type, from left to right
unfoldable pub labels_of : Ty → List (List ℕ)
labels_of = fold-Ty (List (List ℕ)) (List (List ℕ)) labels_step labels_field_step

-- how many bytes the labels have together
abbrev pub label_bytes : Ty → ℕ
label_bytes t = sum_of (map length (labels_of t))

-- the weight of a type: its nodes, and the bytes of its labels
abbrev pub type_weight : Ty → ℕ
type_weight t = size_of t + label_bytes t

-- a type constructor weighs 1, the bytes of its path, and the body of its type function
abbrev pub tycon_weight : Tycon → ℕ
tycon_weight tycon = 1 + (length tycon.path + type_weight tycon.fun.body)

-- a member weighs 1, the bytes of its path, and its scheme
abbrev pub member_weight : Member → ℕ
member_weight member = 1 + (length member.path + type_weight member.scheme.body)

-- a unit weighs 1 and the bytes of its identifier
abbrev pub unit_weight : Unit → ℕ
unit_weight unit = 1 + length unit.id

-- an external name weighs 1 and the bytes of its path; other names have no weight of their own
abbrev pub name_weight : TypeName → ℕ
name_weight name = if name.external then 1 + length name.path else 0

-- the weight of a library: that of its units, its type constructors, its members and its external names
unfoldable pub library_weight : Library → ℕ
library_weight library =
    sum_of (map unit_weight library.units)
    + (sum_of (map tycon_weight library.tycons)
    + (sum_of (map member_weight library.members)
    + sum_of (map name_weight library.names)))
