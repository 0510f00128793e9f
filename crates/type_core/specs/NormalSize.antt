-- The normal size of a type: the size of its normal form.
use Rattle.std.specs.Prelude.{ℕ, ◌+◌, ◌*◌, map}
use Rattle.type_core.specs.declared.ty.Ty.{Ty}
use Rattle.type_core.specs.declared.ty.Ty.TheVariants as ty
use Rattle.type_core.specs.declared.ty.Field.{Field}
use Rattle.type_core.specs.declared.ty.Ty.TheOpen.{Ty-F, Var, Con, Rec, Tup, Arrow}
use Rattle.type_core.specs.declared.ty.Ty.TheFolds.{para-Ty}
use Rattle.type_core.specs.Coordinates.{coordinate_count}
use Rattle.type_core.specs.Lists.{sum_of}
use Rattle.type_core.specs.Size.{size_of}

-- each part stands beside its normal size: an atom has its size, the components of a tuple add up, and an
-- arrow has its left side once for each coordinate of its right side, and its right side
abbrev pub normal_size_step : Ty-F (Ty × ℕ) (Field × Unit {0}) → ℕ
normal_size_step (Var v) = size_of (ty.Var v)
normal_size_step (Con name arguments) = size_of (ty.Con name (map (λ part. part.0) arguments))
normal_size_step (Rec fields) = size_of (ty.Rec (map (λ part. part.0) fields))
normal_size_step (Tup components) = sum_of (map (λ part. part.1) components)
normal_size_step (Arrow from to) = coordinate_count to.0 * from.1 + to.1

-- the normal size of the type
unfoldable pub normal_size_of : Ty → ℕ
normal_size_of = para-Ty ℕ (Unit {0}) normal_size_step (λ field. tt)
