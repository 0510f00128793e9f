-- In the coordinates of a scheme a number has one mark.
use Rattle.std.proofs.Common.{◌≡◌, true, [], arith}
use Rattle.type_core.specs.declared.ty.Scheme.{Scheme}
use Rattle.type_core.specs.declared.ty.VarId.{VarId}
use Rattle.type_core.specs.Coordinates.{coordinates}
use Rattle.type_core.specs.Schemes.{IsScheme}
use Rattle.type_core.specs.Variables.{by_first_occurrence, occurs, variables}
use Rattle.type_core.proofs.Places.{all_met, place_is_number, place_tells}
use Rattle.iso_normal.specs.Consistency.{variables_among}
use Rattle.iso_normal.proofs.CoordinateVariables.{variables_within}
use Rattle.coord_match.specs.Names.{HaveOneMark}

-- the variable is one of the scheme's
pub met : (s : Scheme) (v : VarId) → occurs v (variables_among (coordinates s.body)) ≡ true
    → occurs v (by_first_occurrence s.body) ≡ true
met s v o = all_met [] (variables s.body) v (variables_within s.body v o)

pub one_mark : (s : Scheme) → IsScheme s → HaveOneMark (variables_among (coordinates s.body))
one_mark s is v w o i e =
    let order = by_first_occurrence s.body in
    place_tells v w order (met s v o)
    (omega (arith, e, place_is_number 0 s.vars order is v (met s v o), place_is_number 0 s.vars order is w (met s w i)))
