-- Atoms by the names at their heads: how many a pattern needs, and how many factors hold.
use Rattle.std.specs.Prelude.{◌≡◌, ℕ, ◌==◌, ◌+◌, ◌<◌, if◌then◌else◌, List, map, drop, Some, slice_get}
use Rattle.type_core.specs.declared.ty.NameId.{NameId}
use Rattle.type_core.specs.declared.ty.Ty.{Ty}
use Rattle.type_core.specs.declared.ty.Field.{Field}
use Rattle.type_core.specs.declared.ty.Ty.TheOpen.{Ty-F, Var, Con, Rec, Tup, Arrow}
use Rattle.type_core.specs.declared.ty.Ty.TheFolds.{fold-Ty}
use Rattle.type_core.specs.declared.ty.Ty.TheViews.{out-Ty}
use Rattle.type_core.specs.Lists.{sum_of}
use Rattle.iso_normal.specs.declared.factor.Factor.{Factor}
use Rattle.iso_normal.specs.declared.factor.Factor.TheOpen.{Factor-F, Atom, Arr}
use Rattle.iso_normal.specs.declared.factor.Factor.TheFolds.{fold-Factor}
use Rattle.linear_match.specs.declared.search.Dealing.{Dealing}

-- one where the name has this number, and else none
abbrev pub one_of : ℕ → NameId → ℕ
one_of head name = if name.0 == head then 1 else 0

-- an application needs an atom with its name; a tuple and an arrow need what their parts need
abbrev pub needed_step : ℕ → Ty-F ℕ ℕ → ℕ
needed_step head (Var v) = 0
needed_step head (Con name arguments) = one_of head name
needed_step head (Rec fields) = 0
needed_step head (Tup components) = sum_of components
needed_step head (Arrow from to) = from + to

-- how many atoms with this name the pattern needs
abbrev pub needed : ℕ → Ty → ℕ
needed head = fold-Ty ℕ ℕ (needed_step head) (λ field. 0)

-- one where the type is an application of this name
abbrev pub headed : ℕ → Ty-F Ty Field → ℕ
headed head (Var v) = 0
headed head (Con name arguments) = one_of head name
headed head (Rec fields) = 0
headed head (Tup components) = 0
headed head (Arrow from to) = 0

-- an atom is counted where it is such an application; an arrow holds what its parts hold
abbrev pub held_step : ℕ → Factor-F ℕ → ℕ
held_step head (Atom t) = headed head (out-Ty t)
held_step head (Arr arguments results) = sum_of arguments + sum_of results

-- how many atoms with this name the factor holds
abbrev pub held_by : ℕ → Factor → ℕ
held_by head = fold-Factor ℕ (held_step head)

-- how many atoms with this name the factors hold
abbrev pub held : ℕ → List Factor → ℕ
held head fs = sum_of (map (held_by head) fs)

-- component number `there` needs more atoms with one name than it has and are left behind factor number `at`
pub record IsShort (dealing : Dealing) (at there : ℕ) : Type 0 where
  pub head : ℕ
  pub part : Ty
  pub stands : slice_get dealing.parts.now there ≡ Some part
  pub piece : List Factor
  pub has : slice_get dealing.pieces.items there ≡ Some piece
  pub more : held head piece + held head (drop (at + 1) dealing.factors.now) < needed head part
