-- Bindings of variables to variables, and what two types that are to be one add to them.
use Rattle.std.specs.Prelude.{◌≡◌, ◌==◌, Bool, true, false, List, [], ◌∷◌, ◌++◌, Option, Some, None, bytes_eq, length, take}
use Rattle.type_core.specs.declared.ty.VarId.{VarId}
use Rattle.type_core.specs.declared.ty.Ty.{Ty}
use Rattle.type_core.specs.declared.ty.Field.{Field}
use Rattle.type_core.specs.declared.ty.Ty.TheOpen.{Ty-F, Field-F, Var, Con, Rec, Tup, Arrow}
use Rattle.type_core.specs.declared.ty.Ty.TheViews.{out-Ty}
use Rattle.type_core.specs.declared.ty.Ty.TheFolds.{fold-Ty, fold-Field}
use Rattle.type_core.specs.Renaming.{Renaming}
use Rattle.type_core.specs.Variables.{same_mark, same_variable}
use Rattle.coord_match.specs.declared.bindings.Bound.{Bound}

abbrev pub Bindings : Type 0
Bindings = List Bound

-- the first of two results, where it is one, and then the second from there
abbrev pub and_then : Option Bindings → (Bindings → Option Bindings) → Option Bindings
and_then None next = None
and_then (Some s) next = next s

-- nothing, unless the test holds
abbrev pub when : Bool → Option Bindings → Option Bindings
when true result = result
when false result = None

-- where both sides are the same the bindings stay, and where one is they refuse; else the later ones decide
abbrev pub by_sides : Bool → Bool → Option Bindings → Option Bindings → Option Bindings
by_sides true true stay later = stay
by_sides true false stay later = None
by_sides false true stay later = None
by_sides false false stay later = later

-- all bindings with b, unless one of its sides is bound otherwise or the marks differ; those at the right are still to
-- be looked at
abbrev pub bind : Bound → Bindings → Bindings → Option Bindings
bind b all [] = when (same_mark b.from.eq b.to.eq) (Some (all ++ b ∷ []))
bind b all (c ∷ rest) = by_sides (same_variable c.from b.from) (same_variable c.to b.to) (Some all) (bind b all rest)

-- each value with the value at its place in the other list, in order
abbrev pub all_met : {A : Type 0} → List (A → Bindings → Option Bindings) → List A → Bindings → Option Bindings
all_met [] [] s = Some s
all_met [] (y ∷ ys) s = None
all_met (test ∷ tests) [] s = None
all_met (test ∷ tests) (y ∷ ys) s = and_then (test y s) (all_met tests ys)

-- for each part of one type stands what it makes of a part of the other
abbrev pub met_layer : Ty-F (Ty → Bindings → Option Bindings) (Field → Bindings → Option Bindings) → Ty-F Ty Field → Bindings → Option Bindings
met_layer (Var v) (Var w) s = bind (record { from = v; to = w }) s s
met_layer (Con name tests) (Con other arguments) s = when (name.0 == other.0) (all_met tests arguments s)
met_layer (Rec tests) (Rec fields) s = all_met tests fields s
met_layer (Tup tests) (Tup components) s = all_met tests components s
met_layer (Arrow from_test to_test) (Arrow from to) s = and_then (from_test from s) (to_test to)
met_layer _ _ s = None

abbrev pub met_step : Ty-F (Ty → Bindings → Option Bindings) (Field → Bindings → Option Bindings) → Ty → Bindings → Option Bindings
met_step tests t s = met_layer tests (out-Ty t) s

abbrev pub met_field_step : Field-F (Ty → Bindings → Option Bindings) (Field → Bindings → Option Bindings) → Field → Bindings → Option Bindings
met_field_step test field s = when (bytes_eq test.label field.label) (test.ty field.ty s)

-- the bindings with those by which the first type becomes the second, if there are such
abbrev pub met : Ty → Ty → Bindings → Option Bindings
met = fold-Ty (Ty → Bindings → Option Bindings) (Field → Bindings → Option Bindings) met_step met_field_step

abbrev pub met_field : Field → Field → Bindings → Option Bindings
met_field = fold-Field (Ty → Bindings → Option Bindings) (Field → Bindings → Option Bindings) met_step met_field_step

-- b stands among the bindings
pub data IsIn (b : Bound) : Bindings → Type 0 where
  at : (rest : Bindings) → IsIn b (b ∷ rest)
  past : {rest : Bindings} (c : Bound) → IsIn b rest → IsIn b (c ∷ rest)

-- the bindings are those of some variables to as many others, with the same marks
pub record AreMatching (s : Bindings) : Type 0 where
  pub one_partner : (b c : Bound) → IsIn b s → IsIn c s → b.from ≡ c.from → b.to ≡ c.to
  pub one_source : (b c : Bound) → IsIn b s → IsIn c s → b.to ≡ c.to → b.from ≡ c.from
  pub marks : (b : Bound) → IsIn b s → b.to.eq ≡ b.from.eq

-- a renaming of all variables, one to one and keeping marks, that does what the bindings say
pub record Allows (s : Bindings) (r : Renaming) : Type 0 where
  pub one_to_one : (v w : VarId) → r v ≡ r w → v ≡ w
  pub keeps_marks : (v : VarId) → (r v).eq ≡ v.eq
  pub obeys : (b : Bound) → IsIn b s → r b.from ≡ b.to

-- the bindings begin with the others
abbrev pub IsBefore : Bindings → Bindings → Type 0
IsBefore s now = take (length s) now ≡ s
