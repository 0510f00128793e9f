-- The machine counts what is open.
use Rattle.std.proofs.Common.{◌≡◌, ℕ, ◌+◌, Bool, false, List, [], ◌∷◌, ◌++◌, length, Option, Some, None, refl, sym, ◌∙◌, subst, arith}
use Rattle.std.specs.Prelude.{IsTrue, IfSome, if◌then◌else◌}
use Rattle.sig_base.specs.declared.word.Word.TheVariants as w
use Rattle.ty_parser.specs.declared.sort.Sort.{Sort}
use Rattle.ty_parser.specs.declared.sort.Sort.TheVariants as s
use Rattle.ty_parser.specs.declared.tree.TyExp.{TyExp}
use Rattle.ty_parser.specs.declared.tree.TypeAt.{TypeAt}
use Rattle.ty_parser.specs.Sorts.{is_vid, is_tycon, is_long_tycon, is_strid, is_long_strid}
use Rattle.ty_parser.specs.machine.Machine as types
use Rattle.ty_parser.specs.machine.Machine.{run}
use Rattle.sig_parser.specs.declared.tree.TopDec.{TopDec}
use Rattle.sig_parser.specs.declared.tree.Bind.{Bind}
use Rattle.sig_parser.specs.declared.tree.SigExp.{SigExp}
use Rattle.sig_parser.specs.declared.tree.Spec.{Spec}
use Rattle.sig_parser.specs.declared.tree.Spec.TheVariants as spec
use Rattle.sig_parser.specs.declared.tree.ValDesc.{ValDesc}
use Rattle.sig_parser.specs.declared.tree.TypeDesc.{TypeDesc}
use Rattle.sig_parser.specs.declared.tree.DataDesc.{DataDesc}
use Rattle.sig_parser.specs.declared.tree.ConDesc.{ConDesc}
use Rattle.sig_parser.specs.declared.point.Group.{Group}
use Rattle.sig_parser.specs.declared.point.Group.TheVariants as group
use Rattle.sig_parser.specs.machine.Goals.{Goal, Level, Open}
use Rattle.sig_parser.specs.machine.Goals as goal
use Rattle.sig_parser.specs.machine.Heads.{Headed}
use Rattle.sig_parser.specs.machine.Heads as headed
use Rattle.sig_parser.specs.machine.Constructors.{Cons}
use Rattle.sig_parser.specs.machine.Constructors as cons
use Rattle.sig_parser.specs.machine.Owners.{Owner}
use Rattle.sig_parser.specs.machine.Owners as owner
use Rattle.sig_parser.specs.declared.point.Shared.{Shared}
use Rattle.sig_parser.specs.declared.point.Shared.TheVariants as shared
use Rattle.sig_parser.specs.machine.Points.{Point}
use Rattle.sig_parser.specs.machine.Points as point
use Rattle.ty_parser.specs.machine.Machine.{Opened}
use Rattle.ty_parser.specs.Phrases.{opens, closes}
use Rattle.ty_parser.proofs.Types as type_depth
use Rattle.sig_parser.specs.Grammar.{is_described_vid, name_of}
use Rattle.sig_parser.specs.machine.Machine.{State, At, InType, start, sig_of, open_name, is_between, is_name, is_shared, with_spec, top_item, begin_spec, spec_item, item, behind_group, bound, want_id, have_id, begin_body, want_sig, leave, have_sig, two_names, have_name, after_where, have_part, next_binding, after_and, want_val, have_val, vals, types_, eqtypes, datatypes, begin_params, want_tycon, want_params, want_param, have_param, where_tycon, type_tycon, datatype_tycon, have_tycon, replica, after_equals, want_replica, want_con, constructors, exceptions, have_cons, have_con, includes, sharing_type, after_sharing, after_sharing_type, one_shared, want_shared, have_shared, begin_type, step_at, owned, behind_type, in_type, step, open_at, depth}
use Rattle.sig_parser.proofs.Sound.{if_either}
use Rattle.sig_parser.proofs.Closing.{length-with_spec}

-- what a token does to how many are open
abbrev pub Deepens : Sort → ℕ → State → Type 0
Deepens so old st = opens so + old ≡ closes so + depth st

-- a token that names something opens and closes nothing
level_name : (is_one : Sort → Bool) → is_one (s.Reserved w.KwLParen) ≡ false → is_one (s.Reserved w.KwLBrace) ≡ false → is_one (s.Reserved w.KwSig) ≡ false → is_one (s.Reserved w.KwRParen) ≡ false → is_one (s.Reserved w.KwRBrace) ≡ false → is_one (s.Reserved w.KwEnd) ≡ false
    → (so : Sort) (n : ℕ) → IsTrue (is_one so) → opens so + n ≡ closes so + n
level_name is_one a b c d e f (s.Reserved w.KwLParen) n h = cc
level_name is_one a b c d e f (s.Reserved w.KwLBrace) n h = cc
level_name is_one a b c d e f (s.Reserved w.KwSig) n h = cc
level_name is_one a b c d e f (s.Reserved w.KwRParen) n h = cc
level_name is_one a b c d e f (s.Reserved w.KwRBrace) n h = cc
level_name is_one a b c d e f (s.Reserved w.KwEnd) n h = cc
level_name is_one a b c d e f _ n h = refl

vid_level : (so : Sort) (n : ℕ) → IsTrue (is_vid so) → opens so + n ≡ closes so + n
vid_level = level_name is_vid refl refl refl refl refl refl

strid_level : (so : Sort) (n : ℕ) → IsTrue (is_strid so) → opens so + n ≡ closes so + n
strid_level = level_name is_strid refl refl refl refl refl refl

long_tycon_level : (so : Sort) (n : ℕ) → IsTrue (is_long_tycon so) → opens so + n ≡ closes so + n
long_tycon_level = level_name is_long_tycon refl refl refl refl refl refl

long_strid_level : (so : Sort) (n : ℕ) → IsTrue (is_long_strid so) → opens so + n ≡ closes so + n
long_strid_level = level_name is_long_strid refl refl refl refl refl refl

name_level : (h : Headed) (so : Sort) (n : ℕ) → IsTrue (is_name h so) → opens so + n ≡ closes so + n
name_level (headed.Where o at) = long_tycon_level
name_level (headed.Abbrev ds) = level_name is_tycon refl refl refl refl refl refl
name_level (headed.Eqtype ds) = level_name is_tycon refl refl refl refl refl refl
name_level (headed.Datatype ds) = level_name is_tycon refl refl refl refl refl refl

between_level : (k : Group) (so : Sort) (n : ℕ) → IsTrue (is_between k so) → opens so + n ≡ closes so + n
between_level group.Signatures = level_name (is_between group.Signatures) refl refl refl refl refl refl
between_level group.Structures = level_name (is_between group.Structures) refl refl refl refl refl refl
between_level group.Members = level_name (is_between group.Members) refl refl refl refl refl refl

shared_level : (k : Shared) (so : Sort) (n : ℕ) → IsTrue (is_shared k so) → opens so + n ≡ closes so + n
shared_level shared.Types = long_tycon_level
shared_level shared.Structures = long_strid_level

top_depth : (decs : List TopDec) (so : Sort) → IfSome (top_item decs so) (Deepens so 0)
unfolding top_item open_at
top_depth decs (s.Reserved w.KwSignature) = refl
top_depth decs (s.Reserved w.KwStructure) = refl
top_depth decs (s.Reserved w.KwSemicolon) = refl
top_depth decs _ = tt

spec_depth : (decs : List TopDec) (l : Level) (ls : List Level) (so : Sort) → IfSome (spec_item decs l ls so) (Deepens so (length (l ∷ ls)))
unfolding spec_item begin_spec open_at
spec_depth decs l ls (s.Reserved w.KwVal) = omega arith
spec_depth decs l ls (s.Reserved w.KwType) = omega arith
spec_depth decs l ls (s.Reserved w.KwEqtype) = omega arith
spec_depth decs l ls (s.Reserved w.KwDatatype) = omega arith
spec_depth decs l ls (s.Reserved w.KwException) = omega arith
spec_depth decs l ls (s.Reserved w.KwStructure) = omega arith
spec_depth decs l ls (s.Reserved w.KwInclude) = omega arith
spec_depth decs l ls (s.Reserved w.KwSharing) = omega arith
spec_depth decs l ls (s.Reserved w.KwSemicolon) = omega arith
spec_depth decs l ls (s.Reserved w.KwEnd) = omega arith
spec_depth decs l ls _ = tt

item_depth : (decs : List TopDec) (ls : List Level) (so : Sort) → IfSome (item decs ls so) (Deepens so (length ls))
item_depth decs [] so = top_depth decs so
item_depth decs (l ∷ ls) so = spec_depth decs l ls so

-- behind a whole specification
behind_depth : (decs : List TopDec) (ls : List Level) (x : Spec) (so : Sort) → IfSome (item decs (with_spec ls x) so) (Deepens so (length ls))
behind_depth decs ls x so =
    let P : ℕ → Type 0 = λ n. IfSome (item decs (with_spec ls x) so) (Deepens so n) in
    subst P (length-with_spec ls x) (item_depth decs (with_spec ls x) so)

group_depth : (decs : List TopDec) (ls : List Level) (k : Group) (bs : List Bind) (so : Sort) → IfSome (behind_group decs ls k bs so) (Deepens so (length ls))
group_depth decs ls group.Signatures bs so = item_depth _ ls so
group_depth decs ls group.Structures bs so = item_depth _ ls so
group_depth decs ls group.Members bs so = behind_depth decs ls _ so

bound_depth : (decs : List TopDec) (ls : List Level) (k : Group) (bs : List Bind) (so : Sort) → IfSome (bound decs ls k bs so) (Deepens so (length ls))
unfolding bound open_at
bound_depth decs ls k bs (s.Reserved w.KwAnd) = omega arith
bound_depth decs ls k bs so = group_depth decs ls k bs so

leave_depth : (decs : List TopDec) (ls : List Level) (g : Goal) (x : SigExp) (so : Sort) → IfSome (leave decs ls g x so) (Deepens so (length ls))
leave_depth decs ls (goal.Binding k bs i) x so = bound_depth decs ls k _ so
leave_depth decs ls goal.Including x so = behind_depth decs ls _ so

sig_depth : (decs : List TopDec) (ls : List Level) (o : Open) (i : ℕ) (so : Sort) → IfSome (have_sig decs ls o i so) (Deepens so (length ls))
unfolding have_sig open_at
sig_depth decs ls o i (s.Reserved w.KwWhere) = omega arith
sig_depth decs ls o i so = leave_depth decs ls o.goal (sig_of o) so

where_depth : (decs : List TopDec) (ls : List Level) (o : Open) (at : ℕ) (so : Sort) → IfSome (after_where decs ls o at so) (Deepens so (length ls))
unfolding after_where open_at
where_depth decs ls o at (s.Reserved w.KwType) = omega arith
where_depth decs ls o at _ = tt

part_depth : (decs : List TopDec) (ls : List Level) (o : Open) (i : ℕ) (so : Sort) → IfSome (have_part decs ls o i so) (Deepens so (length ls))
unfolding have_part open_at
part_depth decs ls o i (s.Reserved w.KwAnd) = omega arith
part_depth decs ls o i so = sig_depth decs ls o i so

names_depth : (decs : List TopDec) (ls : List Level) (g : Goal) (i j : ℕ) (so : Sort) → IsTrue (is_strid so) → IfSome (two_names decs ls g i j) (Deepens so (length ls))
unfolding two_names open_at
names_depth decs ls (goal.Binding k bs l) i j so named = tt
names_depth decs ls goal.Including i j so named = strid_level so (length ls) named

next_depth : (decs : List TopDec) (ls : List Level) (g : Goal) (x : SigExp) (i : ℕ) (so : Sort) → IsTrue (is_strid so) → IfSome (next_binding decs ls g x i) (Deepens so (length ls))
unfolding next_binding open_at
next_depth decs ls (goal.Binding k bs l) x i so named = strid_level so (length ls) named
next_depth decs ls goal.Including x i so named = tt

begin_body_depth : (decs : List TopDec) (ls : List Level) (g : Goal) (i : ℕ) (so : Sort) → IfSome (begin_body decs ls g i so) (Deepens so (length ls))
unfolding begin_body open_at
begin_body_depth decs ls g i (s.Reserved w.KwSig) = omega arith
begin_body_depth decs ls g i _ = tt

val_depth : (decs : List TopDec) (ls : List Level) (ds : List ValDesc) (i : ℕ) (so : Sort) → IfSome (have_val decs ls ds i so) (Deepens so (length ls))
unfolding have_val open_at
val_depth decs ls ds i (s.Reserved w.KwColon) = omega arith
val_depth decs ls ds i _ = tt

vals_depth : (decs : List TopDec) (ls : List Level) (ds : List ValDesc) (so : Sort) → IfSome (vals decs ls ds so) (Deepens so (length ls))
unfolding vals open_at
vals_depth decs ls ds (s.Reserved w.KwAnd) = omega arith
vals_depth decs ls ds so = behind_depth decs ls _ so

types_depth : (decs : List TopDec) (ls : List Level) (ds : List TypeDesc) (so : Sort) → IfSome (types_ decs ls ds so) (Deepens so (length ls))
unfolding types_ open_at
types_depth decs ls ds (s.Reserved w.KwAnd) = omega arith
types_depth decs ls ds so = behind_depth decs ls _ so

eqtypes_depth : (decs : List TopDec) (ls : List Level) (ds : List TypeDesc) (so : Sort) → IfSome (eqtypes decs ls ds so) (Deepens so (length ls))
unfolding eqtypes open_at
eqtypes_depth decs ls ds (s.Reserved w.KwAnd) = omega arith
eqtypes_depth decs ls ds so = behind_depth decs ls _ so

datatypes_depth : (decs : List TopDec) (ls : List Level) (ds : List DataDesc) (so : Sort) → IfSome (datatypes decs ls ds so) (Deepens so (length ls))
unfolding datatypes open_at
datatypes_depth decs ls ds (s.Reserved w.KwAnd) = omega arith
datatypes_depth decs ls ds so = behind_depth decs ls _ so

begin_params_depth : (decs : List TopDec) (ls : List Level) (h : Headed) (i : ℕ) (so : Sort) → IfSome (begin_params decs ls h i so) (Deepens so (length ls))
unfolding begin_params open_at
begin_params_depth decs ls h i s.Variable = omega arith
begin_params_depth decs ls h i (s.Reserved w.KwLParen) = omega arith
begin_params_depth decs ls h i _ = tt

want_param_depth : (decs : List TopDec) (ls : List Level) (h : Headed) (vs : List ℕ) (i : ℕ) (so : Sort) → IfSome (want_param decs ls h vs i so) (Deepens so (length ls + 1))
unfolding want_param open_at
want_param_depth decs ls h vs i s.Variable = omega arith
want_param_depth decs ls h vs i _ = tt

have_param_depth : (decs : List TopDec) (ls : List Level) (h : Headed) (vs : List ℕ) (so : Sort) → IfSome (have_param decs ls h vs so) (Deepens so (length ls + 1))
unfolding have_param open_at
have_param_depth decs ls h vs (s.Reserved w.KwComma) = omega arith
have_param_depth decs ls h vs (s.Reserved w.KwRParen) = omega arith
have_param_depth decs ls h vs _ = tt

tycon_depth : (decs : List TopDec) (ls : List Level) (h : Headed) (vs : List ℕ) (i : ℕ) (so : Sort) → IfSome (have_tycon decs ls h vs i so) (Deepens so (length ls))
unfolding where_tycon type_tycon datatype_tycon open_at
tycon_depth decs ls (headed.Where o at) vs i (s.Reserved w.KwEquals) = omega arith
tycon_depth decs ls (headed.Where o at) vs i _ = tt
tycon_depth decs ls (headed.Abbrev ds) vs i (s.Reserved w.KwEquals) = omega arith
tycon_depth decs ls (headed.Abbrev ds) vs i so = types_depth decs ls _ so
tycon_depth decs ls (headed.Eqtype ds) vs i so = eqtypes_depth decs ls _ so
tycon_depth decs ls (headed.Datatype ds) vs i (s.Reserved w.KwEquals) = omega arith
tycon_depth decs ls (headed.Datatype ds) vs i _ = tt

replica_depth : (decs : List TopDec) (ls : List Level) (ds : List DataDesc) (vs : List ℕ) (i : ℕ) (so : Sort) → IfSome (replica decs ls ds vs i so) (Deepens so (length ls))
unfolding replica open_at
replica_depth decs ls [] [] i (s.Reserved w.KwDatatype) = omega arith
replica_depth decs ls [] [] i _ = tt
replica_depth decs ls [] (v ∷ vs) i so = tt
replica_depth decs ls (d ∷ ds) vs i so = tt

cons_depth : (decs : List TopDec) (ls : List Level) (c : Cons) (cs : List ConDesc) (so : Sort) → IfSome (have_cons decs ls c cs so) (Deepens so (length ls))
unfolding constructors exceptions open_at
cons_depth decs ls (cons.Datatype ds vs j) cs (s.Reserved w.KwBar) = omega arith
cons_depth decs ls (cons.Datatype ds vs j) cs so = datatypes_depth decs ls _ so
cons_depth decs ls cons.Exception cs (s.Reserved w.KwAnd) = omega arith
cons_depth decs ls cons.Exception cs so = behind_depth decs ls _ so

con_depth : (decs : List TopDec) (ls : List Level) (c : Cons) (cs : List ConDesc) (i : ℕ) (so : Sort) → IfSome (have_con decs ls c cs i so) (Deepens so (length ls))
unfolding have_con open_at
con_depth decs ls c cs i (s.Reserved w.KwOf) = omega arith
con_depth decs ls c cs i so = cons_depth decs ls c _ so

sharing_type_depth : (decs : List TopDec) (ls : List Level) (so : Sort) → IfSome (sharing_type decs ls so) (Deepens so (length ls))
unfolding sharing_type open_at
sharing_type_depth decs ls (s.Reserved w.KwType) = omega arith
sharing_type_depth decs ls _ = tt

one_shared_depth : (decs : List TopDec) (ls : List Level) (k : Shared) (i : ℕ) (so : Sort) → IfSome (one_shared decs ls k i so) (Deepens so (length ls))
unfolding one_shared open_at
one_shared_depth decs ls k i (s.Reserved w.KwEquals) = omega arith
one_shared_depth decs ls k i _ = tt

have_shared_depth : (decs : List TopDec) (ls : List Level) (k : Shared) (is : List ℕ) (so : Sort) → IfSome (have_shared decs ls k is so) (Deepens so (length ls))
unfolding have_shared open_at
have_shared_depth decs ls k is (s.Reserved w.KwEquals) = omega arith
have_shared_depth decs ls k is so = behind_depth decs ls _ so

begin_type_depth : (decs : List TopDec) (ls : List Level) (o : Owner) (i : ℕ) (so : Sort) (st : Option types.State) → IfSome st (λ st'. opens so + 0 ≡ closes so + types.depth st') → IfSome (begin_type decs ls o i st) (Deepens so (length ls))
unfolding begin_type
begin_type_depth decs ls o i so None h = tt
begin_type_depth decs ls o i so (Some st) h = omega (arith, h)

-- a token that is tested, or else another step
tested : (so : Sort) (n : ℕ) (b : Bool) (st : State) (o : Option State) → (IsTrue b → opens so + n ≡ closes so + n) → depth st ≡ n → IfSome o (Deepens so n) → IfSome (if b then Some st else o) (Deepens so n)
tested so n b st o named same h =
    let P : ℕ → Type 0 = λ m. opens so + n ≡ closes so + m in
    if_either (Deepens so n) b (Some st) o (λ holds. subst P (sym same) (named holds)) h

at_depth : (decs : List TopDec) (ls : List Level) (p : Point) (i : ℕ) (so : Sort) → IfSome (step_at decs ls p i so) (Deepens so (open_at p (length ls)))
unfolding want_id have_id want_sig have_name after_and want_val want_tycon want_params after_equals want_replica want_con includes after_sharing after_sharing_type want_shared open_at types.depth
at_depth decs ls point.Items i so = item_depth decs ls so
at_depth decs ls (point.WantId k bs) i so = tested so (length ls) (is_strid so) (At decs ls (point.HaveId k bs i)) None (strid_level so (length ls)) refl tt
at_depth decs ls (point.HaveId k bs j) i so = tested so (length ls) (is_between k so) (At decs ls (point.WantSig (goal.Binding k bs j))) None (between_level k so (length ls)) refl tt
at_depth decs ls (point.Bound k bs) i so = bound_depth decs ls k bs so
at_depth decs ls (point.WantSig g) i so = tested so (length ls) (is_strid so) (At decs ls (point.HaveName g i)) (begin_body decs ls g i so) (strid_level so (length ls)) refl (begin_body_depth decs ls g i so)
at_depth decs ls (point.HaveName g j) i so = if_either (Deepens so (length ls)) (is_strid so) (two_names decs ls g j i) (have_sig decs ls (open_name g j) i so) (names_depth decs ls g j i so) (sig_depth decs ls (open_name g j) i so)
at_depth decs ls (point.HaveSig o) i so = sig_depth decs ls o i so
at_depth decs ls (point.AfterWhere o at) i so = where_depth decs ls o at so
at_depth decs ls (point.HavePart o) i so = part_depth decs ls o i so
at_depth decs ls (point.AfterAnd o at) i so = if_either (Deepens so (length ls)) (is_strid so) (next_binding decs ls o.goal (sig_of o) i) (after_where decs ls o at so) (next_depth decs ls o.goal (sig_of o) i so) (where_depth decs ls o at so)
at_depth decs ls (point.WantVal ds) i so = tested so (length ls) (is_described_vid so) (At decs ls (point.HaveVal ds i)) None (level_name is_described_vid refl refl refl refl refl refl so (length ls)) refl tt
at_depth decs ls (point.HaveVal ds j) i so = val_depth decs ls ds j so
at_depth decs ls (point.Vals ds) i so = vals_depth decs ls ds so
at_depth decs ls (point.WantParams h) i so = tested so (length ls) (is_name h so) (At decs ls (point.HaveTycon h [] i)) (begin_params decs ls h i so) (name_level h so (length ls)) refl (begin_params_depth decs ls h i so)
at_depth decs ls (point.WantParam h vs) i so = want_param_depth decs ls h vs i so
at_depth decs ls (point.HaveParam h vs) i so = have_param_depth decs ls h vs so
at_depth decs ls (point.WantTycon h vs) i so = tested so (length ls) (is_name h so) (At decs ls (point.HaveTycon h vs i)) None (name_level h so (length ls)) refl tt
at_depth decs ls (point.HaveTycon h vs j) i so = tycon_depth decs ls h vs j so
at_depth decs ls (point.Types ds) i so = types_depth decs ls ds so
at_depth decs ls (point.Eqtypes ds) i so = eqtypes_depth decs ls ds so
at_depth decs ls (point.AfterEquals ds vs j) i so = tested so (length ls) (is_vid so) (At decs ls (point.HaveCon (cons.Datatype ds vs j) [] i)) (replica decs ls ds vs j so) (vid_level so (length ls)) refl (replica_depth decs ls ds vs j so)
at_depth decs ls (point.WantReplica j) i so = tested so (length ls) (is_long_tycon so) (At decs (with_spec ls (spec.Replica j i)) point.Items) None (long_tycon_level so (length ls)) (length-with_spec ls (spec.Replica j i)) tt
at_depth decs ls (point.WantCon c cs) i so = tested so (length ls) (is_vid so) (At decs ls (point.HaveCon c cs i)) None (vid_level so (length ls)) refl tt
at_depth decs ls (point.HaveCon c cs j) i so = con_depth decs ls c cs j so
at_depth decs ls (point.HaveCons c cs) i so = cons_depth decs ls c cs so
at_depth decs ls (point.Datatypes ds) i so = datatypes_depth decs ls ds so
at_depth decs ls (point.Includes gs) i so = tested so (length ls) (is_strid so) (At decs ls (point.Includes (gs ++ name_of i ∷ []))) (item decs (with_spec ls (spec.Include gs)) so) (strid_level so (length ls)) refl (behind_depth decs ls _ so)
at_depth decs ls point.AfterSharing i so = tested so (length ls) (is_long_strid so) (At decs ls (point.OneShared shared.Structures i)) (sharing_type decs ls so) (long_strid_level so (length ls)) refl (sharing_type_depth decs ls so)
at_depth decs ls point.AfterSharingType i so = tested so (length ls) (is_long_tycon so) (At decs ls (point.OneShared shared.Types i)) None (long_tycon_level so (length ls)) refl tt
at_depth decs ls (point.OneShared k j) i so = one_shared_depth decs ls k j so
at_depth decs ls (point.WantShared k is) i so = tested so (length ls) (is_shared k so) (At decs ls (point.HaveShared k (is ++ i ∷ []))) None (shared_level k so (length ls)) refl tt
at_depth decs ls (point.HaveShared k is) i so = have_shared_depth decs ls k is so
at_depth decs ls (point.WantType o) i so = begin_type_depth decs ls o i so (types.step types.start (i, so)) (type_depth.step_depth types.start i so)

-- no parenthesis around parameters is open behind a type
owned_open : (o : Owner) (t : TypeAt) (n : ℕ) → open_at (owned o t) n ≡ n
unfolding open_at
owned_open (owner.Val ds i) t n = refl
owned_open (owner.Where o at vs i) t n = refl
owned_open (owner.Abbrev ds vs i) t n = refl
owned_open (owner.Con c cs i) t n = refl

-- nor is one of a type that may end
closed_depth : (ls : List Opened) (e : TyExp) → IfSome (types.closed ls e) (λ _. length ls ≡ 0)
unfolding types.closed
closed_depth [] e = refl
closed_depth (l ∷ ls) e = tt

finished_depth : (st : types.State) → IfSome (types.finish st) (λ _. types.depth st ≡ 0)
unfolding types.depth
finished_depth (types.Have k a) = closed_depth k.outer _
finished_depth _ = tt

in_type_depth : (decs : List TopDec) (ls : List Level) (o : Owner) (first i : ℕ) (so : Sort) (old : ℕ) (st : Option types.State) (e : Option TyExp) → IfSome st (λ st'. opens so + old ≡ closes so + types.depth st') → IfSome e (λ _. old ≡ 0)
    → IfSome (in_type decs ls o first st e i so) (Deepens so (length ls + old))
unfolding in_type behind_type
in_type_depth decs ls o first i so old (Some st) e further whole = omega (arith, further)
in_type_depth decs ls o first i so old None None further whole = tt
in_type_depth decs ls o first i so old None (Some e) further whole =
    let t : TypeAt = record { first = first; ty = e } in
    let P : ℕ → Type 0 = λ n. IfSome (step_at decs ls (owned o t) i so) (Deepens so n) in
    let same : length ls ≡ length ls + old = omega (arith, whole) in
    subst P (owned_open o t (length ls) ∙ same) (at_depth decs ls (owned o t) i so)

pub step_depth : (st : State) (i : ℕ) (so : Sort) → IfSome (step st (i, so)) (Deepens so (depth st))
step_depth (At decs ls p) i so = at_depth decs ls p i so
step_depth (InType decs ls o first st) i so = in_type_depth decs ls o first i so (types.depth st) (types.step st (i, so)) (types.finish st) (type_depth.step_depth st i so) (finished_depth st)

pub start_depth : depth start ≡ 0
unfolding open_at
start_depth = refl
