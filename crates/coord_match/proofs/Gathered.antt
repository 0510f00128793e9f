-- The variables of types and coordinates, one after another.
use Rattle.std.proofs.Common.{◌≡◌, List, ◌++◌}
use Rattle.type_core.specs.declared.coordinate.Coordinate.{Coordinate}
use Rattle.type_core.specs.declared.coordinate.Coordinate.TheFolds.{fold_out-Coordinate}
use Rattle.type_core.specs.declared.ty.VarId.{VarId}
use Rattle.type_core.specs.Coordinates.{arguments_of, head_of}
use Rattle.type_core.specs.Variables.{variables}
use Rattle.type_core.proofs.Trees.{variables_var, variables_con, variables_rec, variables_tup, variables_arrow, variables_field}
use Rattle.iso_normal.specs.Consistency.{coordinate_variables, variables_among, variables_step}

pub variables_opened : (c : Coordinate) → coordinate_variables c ≡ variables (head_of c) ++ variables_among (arguments_of c)
variables_opened c = fold_out-Coordinate (List VarId) variables_step c

pub ruleset gathered = (variables_var, variables_con, variables_rec, variables_tup, variables_arrow, variables_field, variables_opened)
