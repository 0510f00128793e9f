-- The state that the reading of a file is in.
use Rattle.std.specs.Prelude.{ℕ, List, [], ◌∷◌, Option, Some, None, reverse}
use Rattle.std.specs.Option.{option_map}
use Rattle.ty_parser.specs.declared.sort.Sort.{Sort}
use Rattle.ty_parser.specs.machine.Machine as types
use Rattle.sig_base.specs.Stacks.{last_of, before_last}
use Rattle.sig_parser.specs.declared.tree.SourceFile.{SourceFile}
use Rattle.sig_parser.specs.declared.tree.Bind.{Bind}
use Rattle.sig_parser.specs.declared.tree.SigBase.{SigBase}
use Rattle.sig_parser.specs.declared.tree.SigBase.TheVariants as base
use Rattle.sig_parser.specs.declared.tree.SigExp.{SigExp}
use Rattle.sig_parser.specs.declared.tree.WherePart.{WherePart}
use Rattle.sig_parser.specs.declared.tree.Spec.{Spec}
use Rattle.sig_parser.specs.declared.point.Goal as the_goal
use Rattle.sig_parser.specs.declared.point.Goal.TheVariants as goals
use Rattle.sig_parser.specs.declared.point.Level as the_level
use Rattle.sig_parser.specs.declared.point.Base.{Base}
use Rattle.sig_parser.specs.declared.point.Base.TheVariants as bases
use Rattle.sig_parser.specs.declared.point.Open as the_open
use Rattle.sig_parser.specs.declared.point.Headed as the_headed
use Rattle.sig_parser.specs.declared.point.Headed.TheVariants as heads
use Rattle.sig_parser.specs.declared.point.Cons as the_cons
use Rattle.sig_parser.specs.declared.point.Cons.TheVariants as makers
use Rattle.sig_parser.specs.declared.point.Owner as the_owner
use Rattle.sig_parser.specs.declared.point.Owner.TheVariants as owners
use Rattle.sig_parser.specs.declared.point.Point as the_point
use Rattle.sig_parser.specs.declared.point.Point.TheVariants as points
use Rattle.sig_parser.specs.declared.point.Reading.{Reading}
use Rattle.sig_parser.specs.machine.Goals as goal
use Rattle.sig_parser.specs.machine.Goals.{Goal, Level, Open}
use Rattle.sig_parser.specs.machine.Heads as headed
use Rattle.sig_parser.specs.machine.Heads.{Headed}
use Rattle.sig_parser.specs.machine.Constructors as cons
use Rattle.sig_parser.specs.machine.Constructors.{Cons}
use Rattle.sig_parser.specs.machine.Owners as owner
use Rattle.sig_parser.specs.machine.Owners.{Owner}
use Rattle.sig_parser.specs.machine.Points as point
use Rattle.sig_parser.specs.machine.Points.{Point}
use Rattle.sig_parser.specs.machine.Machine.{State, At, InType, level, step_at, ended, owned}

-- what a signature expression is for, with the last of the bindings, and the bindings before them
abbrev pub goal_of : the_goal.Goal → List Bind → Goal
goal_of (goals.Binding k n i) bs = goal.Binding k (last_of n bs) i
goal_of goals.Including bs = goal.Including

abbrev pub before_goal : the_goal.Goal → List Bind → List Bind
before_goal (goals.Binding k n i) bs = before_last n bs
before_goal goals.Including bs = bs

-- the bodies, the innermost first, over the specifications and the bindings of all
abbrev pub levels_of : List the_level.Level → List Spec → List Bind → List Level
levels_of [] xs bs = []
levels_of (l ∷ ls) xs bs = level (goal_of l.goal bs) l.first (last_of l.specs xs) ∷ levels_of ls (before_last l.specs xs) (before_goal l.goal bs)

-- the bodies that a reading holds, over these bindings
abbrev pub levels_over : Reading → List Bind → List Level
levels_over r bs = levels_of (reverse r.levels) r.specs bs

-- the bodies that a reading holds, where no binding is read
abbrev pub levels : Reading → List Level
levels r = levels_over r r.bindings

abbrev pub base_of : Base → List Spec → SigBase
base_of bases.Body xs = base.Body xs
base_of (bases.Name i) xs = base.Name i

-- the signature expression that may go on
abbrev pub open_of : the_open.Open → Reading → Open
open_of o r = record { goal = goal_of o.goal r.bindings; first = o.first; base = base_of o.base r.body; parts = r.parts }

-- a signature expression with this body and these parts
abbrev pub sig_at : the_open.Open → List Spec → List WherePart → SigExp
sig_at o xs ps = record { first = o.first; base = base_of o.base xs; parts = ps }

-- what parameters are read for, and the bindings before it
abbrev pub headed_of : the_headed.Headed → Reading → Headed
headed_of (heads.Where o at) r = headed.Where (open_of o r) at
headed_of heads.Type r = headed.Abbrev r.types
headed_of heads.Eqtype r = headed.Eqtype r.types
headed_of heads.Datatype r = headed.Datatype r.datatypes

abbrev pub before_headed : the_headed.Headed → List Bind → List Bind
before_headed (heads.Where o at) bs = before_goal o.goal bs
before_headed _ bs = bs

-- what constructors are read for
abbrev pub cons_of : the_cons.Cons → Reading → Cons
cons_of (makers.Datatype i) r = cons.Datatype r.datatypes r.params i
cons_of makers.Exception r = cons.Exception

-- what a type is read for, and the bindings before it
abbrev pub owner_of : the_owner.Owner → Reading → Owner
owner_of (owners.Val i) r = owner.Val r.values i
owner_of (owners.Where o at i) r = owner.Where (open_of o r) at r.params i
owner_of (owners.Type i) r = owner.Abbrev r.types r.params i
owner_of (owners.Con c i) r = owner.Con (cons_of c r) r.cons i

abbrev pub before_owner : the_owner.Owner → List Bind → List Bind
before_owner (owners.Where o at i) bs = before_goal o.goal bs
before_owner _ bs = bs

-- the state at a point
abbrev pub state_at : the_point.Point → Reading → State
state_at points.Items r = At r.decs (levels r) point.Items
state_at (points.WantId k n) r = At r.decs (levels_over r (before_last n r.bindings)) (point.WantId k (last_of n r.bindings))
state_at (points.HaveId k n i) r = At r.decs (levels_over r (before_last n r.bindings)) (point.HaveId k (last_of n r.bindings) i)
state_at (points.Bound k n) r = At r.decs (levels_over r (before_last n r.bindings)) (point.Bound k (last_of n r.bindings))
state_at (points.WantSig g) r = At r.decs (levels_over r (before_goal g r.bindings)) (point.WantSig (goal_of g r.bindings))
state_at (points.HaveName g i) r = At r.decs (levels_over r (before_goal g r.bindings)) (point.HaveName (goal_of g r.bindings) i)
state_at (points.HaveSig o) r = At r.decs (levels_over r (before_goal o.goal r.bindings)) (point.HaveSig (open_of o r))
state_at (points.AfterWhere o at) r = At r.decs (levels_over r (before_goal o.goal r.bindings)) (point.AfterWhere (open_of o r) at)
state_at (points.HavePart o) r = At r.decs (levels_over r (before_goal o.goal r.bindings)) (point.HavePart (open_of o r))
state_at (points.AfterAnd o at) r = At r.decs (levels_over r (before_goal o.goal r.bindings)) (point.AfterAnd (open_of o r) at)
state_at points.WantVal r = At r.decs (levels r) (point.WantVal r.values)
state_at (points.HaveVal i) r = At r.decs (levels r) (point.HaveVal r.values i)
state_at points.Vals r = At r.decs (levels r) (point.Vals r.values)
state_at (points.WantParams h) r = At r.decs (levels_over r (before_headed h r.bindings)) (point.WantParams (headed_of h r))
state_at (points.WantParam h) r = At r.decs (levels_over r (before_headed h r.bindings)) (point.WantParam (headed_of h r) r.params)
state_at (points.HaveParam h) r = At r.decs (levels_over r (before_headed h r.bindings)) (point.HaveParam (headed_of h r) r.params)
state_at (points.WantTycon h) r = At r.decs (levels_over r (before_headed h r.bindings)) (point.WantTycon (headed_of h r) r.params)
state_at (points.HaveTycon h i) r = At r.decs (levels_over r (before_headed h r.bindings)) (point.HaveTycon (headed_of h r) r.params i)
state_at points.Types r = At r.decs (levels r) (point.Types r.types)
state_at points.Eqtypes r = At r.decs (levels r) (point.Eqtypes r.types)
state_at (points.AfterEquals i) r = At r.decs (levels r) (point.AfterEquals r.datatypes r.params i)
state_at (points.WantReplica i) r = At r.decs (levels r) (point.WantReplica i)
state_at (points.WantCon c) r = At r.decs (levels r) (point.WantCon (cons_of c r) r.cons)
state_at (points.HaveCon c i) r = At r.decs (levels r) (point.HaveCon (cons_of c r) r.cons i)
state_at (points.HaveCons c) r = At r.decs (levels r) (point.HaveCons (cons_of c r) r.cons)
state_at points.Datatypes r = At r.decs (levels r) (point.Datatypes r.datatypes)
state_at points.Includes r = At r.decs (levels r) (point.Includes r.sigs)
state_at points.AfterSharing r = At r.decs (levels r) point.AfterSharing
state_at points.AfterSharingType r = At r.decs (levels r) point.AfterSharingType
state_at (points.OneShared k i) r = At r.decs (levels r) (point.OneShared k i)
state_at (points.WantShared k) r = At r.decs (levels r) (point.WantShared k r.names)
state_at (points.HaveShared k) r = At r.decs (levels r) (point.HaveShared k r.names)
state_at (points.WantType o) r = At r.decs (levels_over r (before_owner o r.bindings)) (point.WantType (owner_of o r))
state_at (points.InType o first) r = InType r.decs (levels_over r (before_owner o r.bindings)) (owner_of o r) first (types.state_of r.reader)

-- the state that a reading is in
abbrev pub state_of : Reading → State
state_of r = state_at r.point r

-- how many parentheses are open at a point, outside of types
abbrev pub parens_at : the_point.Point → ℕ
parens_at (points.WantParam h) = 1
parens_at (points.HaveParam h) = 1
parens_at _ = 0

-- the state after a token outside of types
abbrev pub step_outside : State → ℕ → Sort → Option State
step_outside (At decs ls p) i so = step_at decs ls p i so
step_outside (InType decs ls o first st) i so = None

-- the state after the type that is read, if there is one, where it may end
abbrev pub type_ended : State → Option State
type_ended (At decs ls p) = Some (At decs ls p)
type_ended (InType decs ls o first st) = option_map (λ e. At decs ls (owned o (record { first = first; ty = e }))) (types.finish st)

-- the file where it ends outside of types and bodies
abbrev pub ended_outside : State → Option SourceFile
ended_outside (At decs ls p) = ended decs p
ended_outside (InType decs ls o first st) = None

-- the file of the declarations that a reading holds
abbrev pub file_of : Reading → SourceFile
file_of r = record { decs = r.decs }
