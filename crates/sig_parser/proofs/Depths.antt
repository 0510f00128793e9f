-- How many tokens are open in the state that a reading is in.
use Rattle.std.proofs.Common.{◌≡◌, ℕ, ◌+◌, List, [], ◌∷◌, length, reverse, refl, ap, ◌∙◌, arith}
use Rattle.std.proofs.lemmas.List.{length-reverse}
use Rattle.ty_parser.specs.machine.Machine as types
use Rattle.sig_base.specs.Stacks.{before_last}
use Rattle.sig_parser.specs.declared.tree.Bind.{Bind}
use Rattle.sig_parser.specs.declared.tree.Spec.{Spec}
use Rattle.sig_parser.specs.declared.point.Level as held
use Rattle.sig_parser.specs.declared.point.Owner as the_owner
use Rattle.sig_parser.specs.declared.point.Point as the_point
use Rattle.sig_parser.specs.declared.point.Point.TheVariants as points
use Rattle.sig_parser.specs.declared.point.Reading.{Reading}
use Rattle.sig_parser.specs.machine.Machine.{depth, open_at}
use Rattle.sig_parser.specs.machine.Views.{levels_of, levels_over, before_goal, before_headed, before_owner, state_at, state_of, parens_at}

-- as many bodies are open as are held
pub bodies_length : (ls : List held.Level) (xs : List Spec) (bs : List Bind) → length (levels_of ls xs bs) ≡ length ls
bodies_length [] xs bs = refl
bodies_length (l ∷ ls) xs bs = let rest = bodies_length ls (before_last l.specs xs) (before_goal l.goal bs) in omega (arith, rest)

bodies_counted : (r : Reading) (bs : List Bind) → length (levels_over r bs) ≡ length r.levels
bodies_counted r bs = bodies_length (reverse r.levels) r.specs bs ∙ length-reverse r.levels

-- how many tokens are open inside of a type, and outside of one
pub depth_inside : (o : the_owner.Owner) (first : ℕ) (r : Reading) → depth (state_at (points.InType o first) r) ≡ length r.levels + types.depth (types.state_of r.reader)
depth_inside o first r = let held = bodies_counted r (before_owner o r.bindings) in omega (arith, held)

pub depth_outside : (p : the_point.Point) (r : Reading) → ((o : the_owner.Owner) (first : ℕ) → p ≡ points.InType o first → ⊥) → depth (state_at p r) ≡ length r.levels + parens_at p
unfolding open_at
depth_outside points.Items r outside = let held = bodies_counted r r.bindings in omega (arith, held)
depth_outside (points.WantId k n) r outside = let held = bodies_counted r (before_last n r.bindings) in omega (arith, held)
depth_outside (points.HaveId k n i) r outside = let held = bodies_counted r (before_last n r.bindings) in omega (arith, held)
depth_outside (points.Bound k n) r outside = let held = bodies_counted r (before_last n r.bindings) in omega (arith, held)
depth_outside (points.WantSig g) r outside = let held = bodies_counted r (before_goal g r.bindings) in omega (arith, held)
depth_outside (points.HaveName g i) r outside = let held = bodies_counted r (before_goal g r.bindings) in omega (arith, held)
depth_outside (points.HaveSig o) r outside = let held = bodies_counted r (before_goal o.goal r.bindings) in omega (arith, held)
depth_outside (points.AfterWhere o at) r outside = let held = bodies_counted r (before_goal o.goal r.bindings) in omega (arith, held)
depth_outside (points.HavePart o) r outside = let held = bodies_counted r (before_goal o.goal r.bindings) in omega (arith, held)
depth_outside (points.AfterAnd o at) r outside = let held = bodies_counted r (before_goal o.goal r.bindings) in omega (arith, held)
depth_outside points.WantVal r outside = let held = bodies_counted r r.bindings in omega (arith, held)
depth_outside (points.HaveVal i) r outside = let held = bodies_counted r r.bindings in omega (arith, held)
depth_outside points.Vals r outside = let held = bodies_counted r r.bindings in omega (arith, held)
depth_outside (points.WantParams h) r outside = let held = bodies_counted r (before_headed h r.bindings) in omega (arith, held)
depth_outside (points.WantParam h) r outside = let held = bodies_counted r (before_headed h r.bindings) in omega (arith, held)
depth_outside (points.HaveParam h) r outside = let held = bodies_counted r (before_headed h r.bindings) in omega (arith, held)
depth_outside (points.WantTycon h) r outside = let held = bodies_counted r (before_headed h r.bindings) in omega (arith, held)
depth_outside (points.HaveTycon h i) r outside = let held = bodies_counted r (before_headed h r.bindings) in omega (arith, held)
depth_outside points.Types r outside = let held = bodies_counted r r.bindings in omega (arith, held)
depth_outside points.Eqtypes r outside = let held = bodies_counted r r.bindings in omega (arith, held)
depth_outside (points.AfterEquals i) r outside = let held = bodies_counted r r.bindings in omega (arith, held)
depth_outside (points.WantReplica i) r outside = let held = bodies_counted r r.bindings in omega (arith, held)
depth_outside (points.WantCon c) r outside = let held = bodies_counted r r.bindings in omega (arith, held)
depth_outside (points.HaveCon c i) r outside = let held = bodies_counted r r.bindings in omega (arith, held)
depth_outside (points.HaveCons c) r outside = let held = bodies_counted r r.bindings in omega (arith, held)
depth_outside points.Datatypes r outside = let held = bodies_counted r r.bindings in omega (arith, held)
depth_outside points.Includes r outside = let held = bodies_counted r r.bindings in omega (arith, held)
depth_outside points.AfterSharing r outside = let held = bodies_counted r r.bindings in omega (arith, held)
depth_outside points.AfterSharingType r outside = let held = bodies_counted r r.bindings in omega (arith, held)
depth_outside (points.OneShared k i) r outside = let held = bodies_counted r r.bindings in omega (arith, held)
depth_outside (points.WantShared k) r outside = let held = bodies_counted r r.bindings in omega (arith, held)
depth_outside (points.HaveShared k) r outside = let held = bodies_counted r r.bindings in omega (arith, held)
depth_outside (points.WantType o) r outside = let held = bodies_counted r (before_owner o r.bindings) in omega (arith, held)
depth_outside (points.InType o first) r outside = absurd (outside o first refl)

pub inside_is : (r : Reading) (o : the_owner.Owner) (first : ℕ) → r.point ≡ points.InType o first → depth (state_of r) ≡ length r.levels + types.depth (types.state_of r.reader)
inside_is r o first is = ap (λ p. depth (state_at p r)) is ∙ depth_inside o first r

pub outside_is : (r : Reading) → ((o : the_owner.Owner) (first : ℕ) → r.point ≡ points.InType o first → ⊥) → depth (state_of r) ≡ length r.levels + parens_at r.point
outside_is r outside = depth_outside r.point r outside
