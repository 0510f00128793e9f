-- Types in which a name doesn't stand.
use Rattle.std.specs.Prelude.{ℕ, ◌==◌, ◌&&◌, Bool, true, not, IsTrue}
use Rattle.type_core.specs.declared.ty.Ty.{Ty}
use Rattle.type_core.specs.declared.ty.Ty.TheOpen.{Ty-F, Field-F, Var, Con, Rec, Tup, Arrow}
use Rattle.type_core.specs.declared.ty.Ty.TheFolds.{fold-Ty}
use Rattle.type_core.specs.Lists.{all_true}

abbrev pub avoid_step : ℕ → Ty-F Bool Bool → Bool
avoid_step n (Var v) = true
avoid_step n (Con name arguments) = not (name.0 == n) && all_true arguments
avoid_step n (Rec fields) = all_true fields
avoid_step n (Tup components) = all_true components
avoid_step n (Arrow from to) = from && to

abbrev pub avoid_field_step : Field-F Bool Bool → Bool
avoid_field_step field = field.ty

-- whether the name with this number stands nowhere in the type
unfoldable pub avoids : ℕ → Ty → Bool
avoids n = fold-Ty Bool Bool (avoid_step n) avoid_field_step

-- the type doesn't mention the name with this number
abbrev pub Avoids : ℕ → Ty → Type 0
Avoids n t = IsTrue (avoids n t)
