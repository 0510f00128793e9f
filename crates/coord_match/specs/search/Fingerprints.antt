-- Numbers of coordinates that a pairing keeps, by which most that can't be paired are told apart.
use Rattle.std.specs.Prelude.{ℕ, ◌+◌, ◌*◌, ◌/◌, ◌%◌, Bool, true, false, List, [], ◌∷◌, map}
use Rattle.type_core.specs.declared.coordinate.Coordinate.{Coordinate}
use Rattle.type_core.specs.declared.coordinate.Coordinate.TheOpen.{Coordinate-F}
use Rattle.type_core.specs.declared.coordinate.Coordinate.TheFolds.{fold-Coordinate}
use Rattle.type_core.specs.declared.ty.Ty.{Ty}
use Rattle.type_core.specs.declared.ty.Field.{Field}
use Rattle.type_core.specs.declared.ty.Ty.TheOpen.{Ty-F, Var, Con, Rec, Tup, Arrow}
use Rattle.type_core.specs.declared.ty.Ty.TheFolds.{fold-Ty, fold-Field}
use Rattle.type_core.specs.Lists.{sum_of}

-- a number below 2 ^ 32 that two such numbers make, seldom the one that two others make
abbrev pub mixed : ℕ → ℕ → ℕ
mixed a b = ((a * 2654435761 + b) / 65536 + (a * 2654435761 + b)) % 4294967296

-- the first number mixed with each of the others in turn
abbrev pub all_mixed : ℕ → List ℕ → ℕ
all_mixed a [] = a
all_mixed a (b ∷ bs) = all_mixed (mixed a b) bs

-- 1 for a variable with the mark, and 0 for another
abbrev pub mark_number : Bool → ℕ
mark_number true = 1
mark_number false = 0

-- of a variable only the mark counts
abbrev pub type_fingerprint_step : Ty-F ℕ ℕ → ℕ
type_fingerprint_step (Var v) = mixed 1 (mark_number v.eq)
type_fingerprint_step (Con name arguments) = all_mixed (mixed 2 name.0) arguments
type_fingerprint_step (Rec fields) = all_mixed 3 fields
type_fingerprint_step (Tup components) = all_mixed 4 components
type_fingerprint_step (Arrow from to) = mixed (mixed 5 from) to

-- a number of the type, the same for all that differ in the numbers of variables alone
abbrev pub type_fingerprint : Ty → ℕ
type_fingerprint = fold-Ty ℕ ℕ type_fingerprint_step (λ field. field.ty)

abbrev pub field_fingerprint : Field → ℕ
field_fingerprint = fold-Field ℕ ℕ type_fingerprint_step (λ field. field.ty)

-- the head's mixed with the sum of the arguments'
abbrev pub fingerprint_step : Coordinate-F ℕ → ℕ
fingerprint_step c = mixed (type_fingerprint c.head) (sum_of c.arguments % 4294967296)

-- a number of the coordinate, the same for all that differ in the numbers of variables and the order of arguments alone
abbrev pub fingerprint_of : Coordinate → ℕ
fingerprint_of = fold-Coordinate ℕ fingerprint_step

-- the sum of the numbers of the coordinates
abbrev pub fingerprint_sum : List Coordinate → ℕ
fingerprint_sum cs = sum_of (map fingerprint_of cs)
