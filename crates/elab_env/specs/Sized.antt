-- The size of a type with types of given sizes in place of its variables.
use Rattle.std.specs.Prelude.{ℕ, ◌+◌, min, List, [], ◌∷◌, Option, Some, None, slice_get}
use Rattle.type_core.specs.declared.ty.Ty.{Ty}
use Rattle.type_core.specs.declared.ty.Ty.TheOpen.{Ty-F, Var, Con, Rec, Tup, Arrow}
use Rattle.type_core.specs.declared.ty.Ty.TheFolds.{fold-Ty}
use Rattle.type_core.specs.Lists.{sum_of}
use Rattle.type_core.specs.Size.{size_field_step}
use Rattle.elab_env.specs.declared.realization.Realization.{Realization}
use Rattle.elab_env.specs.declared.sizes.Sizes.{Sizes}
use Rattle.elab_env.specs.declared.sizes.Sizes.TheOpen.{Sizes-F, Nothing, Then}
use Rattle.elab_env.specs.declared.sizes.Sizes.TheFolds.{fold-Sizes}
use Rattle.elab_env.specs.Realizations.{resolved}

abbrev pub listed_step : Sizes-F (List ℕ) → List ℕ
listed_step Nothing = []
listed_step (Then size rest) = size ∷ rest.now

-- the sizes that are held
abbrev pub listed : Sizes → List ℕ
listed = fold-Sizes (List ℕ) listed_step

-- the size that there is, and that of a variable where there is none
abbrev pub size_at : Option ℕ → ℕ
size_at None = 1
size_at (Some size) = size

abbrev pub sized_step : List ℕ → Ty-F ℕ ℕ → ℕ
sized_step sizes (Var v) = size_at (slice_get sizes v.n)
sized_step sizes (Con name arguments) = 1 + sum_of arguments
sized_step sizes (Rec fields) = 1 + sum_of fields
sized_step sizes (Tup components) = 1 + sum_of components
sized_step sizes (Arrow from to) = 1 + (from + to)

-- the size of the type with a type of the size of number n in place of each variable of number n
abbrev pub sized : List ℕ → Ty → ℕ
sized sizes = fold-Ty ℕ ℕ (sized_step sizes) size_field_step

-- that size after these realizations, or the greatest number of 64 bits where that is less
abbrev pub saturated_size : List ℕ → List Realization → Ty → ℕ
saturated_size sizes rs t = min (sized sizes (resolved rs t)) 0xffff_ffff_ffff_ffff
