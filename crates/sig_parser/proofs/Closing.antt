-- Each state can go on to the end of a file.
use Rattle.std.proofs.Common.{◌≡◌, ℕ, zero, suc, ◌+◌, List, [], ◌∷◌, ◌++◌, length, Option, Some, None, refl, ap, ◌∙◌, arith}
use Rattle.std.specs.Prelude.{option_and_then}
use Rattle.std.specs.List.{enumerate_from}
use Rattle.sig_base.specs.declared.word.Word.TheVariants as w
use Rattle.ty_parser.specs.declared.sort.Sort.{Sort}
use Rattle.ty_parser.specs.declared.sort.Sort.TheVariants as s
use Rattle.ty_parser.specs.declared.tree.TypeAt.{TypeAt}
use Rattle.ty_parser.specs.machine.Machine as types
use Rattle.ty_parser.specs.machine.Machine.{run}
use Rattle.sig_parser.specs.declared.tree.SourceFile.{SourceFile}
use Rattle.sig_parser.specs.declared.tree.TopDec.{TopDec}
use Rattle.sig_parser.specs.declared.tree.Bind.{Bind}
use Rattle.sig_parser.specs.declared.tree.SigExp.{SigExp}
use Rattle.sig_parser.specs.declared.tree.Spec.{Spec}
use Rattle.sig_parser.specs.declared.tree.Spec.TheVariants as spec
use Rattle.sig_parser.specs.declared.tree.ValDesc.{ValDesc}
use Rattle.sig_parser.specs.declared.tree.DataDesc.{DataDesc}
use Rattle.sig_parser.specs.declared.tree.ConDesc.{ConDesc}
use Rattle.sig_parser.specs.declared.point.Group.{Group}
use Rattle.sig_parser.specs.declared.point.Group.TheVariants as group
use Rattle.sig_parser.specs.machine.Goals.{Goal, Level, Open}
use Rattle.sig_parser.specs.machine.Goals as goal
use Rattle.sig_parser.specs.machine.Heads.{Headed}
use Rattle.sig_parser.specs.machine.Heads as headed
use Rattle.sig_parser.specs.machine.Constructors.{Cons}
use Rattle.sig_parser.specs.machine.Constructors as cons
use Rattle.sig_parser.specs.machine.Owners.{Owner}
use Rattle.sig_parser.specs.machine.Owners as owner
use Rattle.sig_parser.specs.declared.point.Shared.{Shared}
use Rattle.sig_parser.specs.declared.point.Shared.TheVariants as shared
use Rattle.sig_parser.specs.machine.Points.{Point}
use Rattle.sig_parser.specs.machine.Points as point
use Rattle.ty_parser.proofs.Runs.{enumerate_from-append}
use Rattle.ty_parser.proofs.Complete.{steps-run_within}
use Rattle.ty_parser.proofs.Closing as type_closing
use Rattle.sig_parser.specs.Grammar.{name_of}
use Rattle.sig_parser.specs.machine.Machine.{State, At, InType, bind, sig_of, open_body, value, description, con, shared_spec, with_spec, top_item, begin_spec, spec_item, item, bound, want_id, have_id, want_sig, leave, have_sig, have_name, after_where, have_part, after_and, want_val, have_val, vals, types_, eqtypes, datatypes, want_tycon, want_params, want_param, have_param, where_tycon, type_tycon, datatype_tycon, after_equals, want_replica, want_con, constructors, exceptions, have_cons, have_con, includes, after_sharing, after_sharing_type, one_shared, want_shared, have_shared, begin_type, owned, step, ended, finish}
use Rattle.sig_parser.proofs.Leads.{parse, type_follows, type_covers}

-- further sorts, numbered from n, with which the state comes to the end of a file
pub record Completes (n : ℕ) (st : State) : Type 0 where
  pub more : List Sort
  pub tree : SourceFile
  pub ends : parse st (enumerate_from n more) ≡ Some tree

-- one more sort leads to a state that can go on
goes_on : (n : ℕ) (st st' : State) (so : Sort) → step st (n, so) ≡ Some st' → Completes (n + 1) st' → Completes n st
goes_on n st st' so e h =
    record { more = so ∷ h.more; tree = h.tree; ends = ap (λ o. option_and_then finish (option_and_then (λ x. types.run step x (enumerate_from (n + 1) h.more)) o)) e ∙ h.ends }

-- what a semicolon leads to
pub record Settles (levels : ℕ) (o : Option State) : Type 0 where
  pub decs : List TopDec
  pub open_levels : List Level
  pub is : o ≡ Some (At decs open_levels point.Items)
  pub as_many : length open_levels ≡ levels

item_settles : (n : ℕ) (decs : List TopDec) (ls : List Level) → length ls ≡ n → Settles n (item decs ls (s.Reserved w.KwSemicolon))
unfolding top_item spec_item begin_spec
item_settles n decs [] e = record { decs = decs; open_levels = []; is = refl; as_many = e }
item_settles n decs (l ∷ ls) e = record { decs = decs; open_levels = l ∷ ls; is = refl; as_many = e }

pub length-with_spec : (ls : List Level) (x : Spec) → length (with_spec ls x) ≡ length ls
unfolding with_spec
length-with_spec [] x = refl
length-with_spec (l ∷ ls) x = refl

spec_settles : (decs : List TopDec) (ls : List Level) (x : Spec) → Settles (length ls) (item decs (with_spec ls x) (s.Reserved w.KwSemicolon))
spec_settles decs ls x = item_settles (length ls) decs (with_spec ls x) (length-with_spec ls x)

bound_settles : (decs : List TopDec) (ls : List Level) (k : Group) (bs : List Bind) → Settles (length ls) (bound decs ls k bs (s.Reserved w.KwSemicolon))
unfolding bound
bound_settles decs ls group.Signatures bs = item_settles (length ls) _ ls refl
bound_settles decs ls group.Structures bs = item_settles (length ls) _ ls refl
bound_settles decs ls group.Members bs = spec_settles decs ls (spec.Structure bs)

leave_settles : (decs : List TopDec) (ls : List Level) (g : Goal) (x : SigExp) → Settles (length ls) (leave decs ls g x (s.Reserved w.KwSemicolon))
leave_settles decs ls (goal.Binding k bs i) x = bound_settles decs ls k (bs ++ bind i x ∷ [])
leave_settles decs ls goal.Including x = spec_settles decs ls (spec.Include (x ∷ []))

cons_settle : (decs : List TopDec) (ls : List Level) (c : Cons) (cs : List ConDesc) → Settles (length ls) (have_cons decs ls c cs (s.Reserved w.KwSemicolon))
unfolding constructors datatypes exceptions
cons_settle decs ls (cons.Datatype ds vs j) cs = spec_settles decs ls _
cons_settle decs ls cons.Exception cs = spec_settles decs ls _

-- where so many bodies are open, as many `end` close them
items_complete : (levels n : ℕ) (decs : List TopDec) (ls : List Level) → length ls ≡ levels → Completes n (At decs ls point.Items)
unfolding spec_item begin_spec have_sig ended
items_complete zero n decs [] e = record { more = []; tree = record { decs = decs }; ends = refl }
items_complete zero n decs (l ∷ ls) e = absurd (omega (arith, e))
items_complete (suc levels) n decs [] e = absurd (omega (arith, e))
items_complete (suc levels) n decs (l ∷ ls) e =
    let h = leave_settles decs ls l.goal (sig_of (open_body l)) in
    let same : length h.open_levels ≡ levels = omega (arith, e, h.as_many) in
    goes_on n _ (At decs ls (point.HaveSig (open_body l))) (s.Reserved w.KwEnd) refl
    (goes_on (n + 1) _ (At h.decs h.open_levels point.Items) (s.Reserved w.KwSemicolon) h.is (items_complete levels (n + 1 + 1) h.decs h.open_levels same))

settled : (levels n : ℕ) (st : State) → Settles levels (step st (n, s.Reserved w.KwSemicolon)) → Completes n st
settled levels n st h = goes_on n st (At h.decs h.open_levels point.Items) (s.Reserved w.KwSemicolon) h.is (items_complete levels (n + 1) h.decs h.open_levels h.as_many)

-- whole phrases

sig_completes : (n : ℕ) (decs : List TopDec) (ls : List Level) (o : Open) → Completes n (At decs ls (point.HaveSig o))
unfolding have_sig
sig_completes n decs ls o = settled (length ls) n (At decs ls (point.HaveSig o)) (leave_settles decs ls o.goal (sig_of o))

name_completes : (n : ℕ) (decs : List TopDec) (ls : List Level) (g : Goal) (i : ℕ) → Completes n (At decs ls (point.HaveName g i))
unfolding have_name have_sig
name_completes n decs ls g i = settled (length ls) n (At decs ls (point.HaveName g i)) (leave_settles decs ls g (name_of i))

cons_complete : (n : ℕ) (decs : List TopDec) (ls : List Level) (c : Cons) (cs : List ConDesc) → Completes n (At decs ls (point.HaveCons c cs))
cons_complete n decs ls c cs = settled (length ls) n (At decs ls (point.HaveCons c cs)) (cons_settle decs ls c cs)

con_completes : (n : ℕ) (decs : List TopDec) (ls : List Level) (c : Cons) (cs : List ConDesc) (i : ℕ) → Completes n (At decs ls (point.HaveCon c cs i))
unfolding have_con
con_completes n decs ls c cs i = settled (length ls) n (At decs ls (point.HaveCon c cs i)) (cons_settle decs ls c (cs ++ con i None ∷ []))

owned_completes : (n : ℕ) (decs : List TopDec) (ls : List Level) (o : Owner) (t : TypeAt) → Completes n (At decs ls (owned o t))
unfolding vals have_part have_sig types_
owned_completes n decs ls (owner.Val ds i) t = settled (length ls) n (At decs ls (point.Vals (ds ++ value i t ∷ []))) (spec_settles decs ls _)
owned_completes n decs ls (owner.Where o at vs i) t = settled (length ls) n (At decs ls (owned (owner.Where o at vs i) t)) (leave_settles decs ls o.goal _)
owned_completes n decs ls (owner.Abbrev ds vs i) t = settled (length ls) n (At decs ls (point.Types (ds ++ description vs i (Some t) ∷ []))) (spec_settles decs ls _)
owned_completes n decs ls (owner.Con c cs i) t = cons_complete n decs ls c (cs ++ con i (Some t) ∷ [])

-- types, and what wants one

type_completes : (n : ℕ) (decs : List TopDec) (ls : List Level) (o : Owner) (first : ℕ) (st : types.State) → Completes n (InType decs ls o first st)
type_completes n decs ls o first st =
    let h = type_closing.completes n st in
    let next = n + length h.more in
    let k = owned_completes next decs ls o (record { first = first; ty = h.tree }) in
    let inside = steps-run_within step (InType decs ls o first) (type_follows decs ls o first) (h.steps (enumerate_from next k.more)) in
    record {
      more = h.more ++ k.more;
      tree = k.tree;
      ends = ap (parse (InType decs ls o first st)) (enumerate_from-append n h.more k.more) ∙ ap (option_and_then finish) inside ∙ type_covers decs ls o first h.last h.tree h.finished (enumerate_from next k.more) k.tree k.ends;
    }

want_type_completes : (n : ℕ) (decs : List TopDec) (ls : List Level) (o : Owner) → Completes n (At decs ls (point.WantType o))
unfolding begin_type types.want types.begin
want_type_completes n decs ls o = goes_on n _ _ s.Variable refl (type_completes (n + 1) decs ls o n _)

val_completes : (n : ℕ) (decs : List TopDec) (ls : List Level) (ds : List ValDesc) (i : ℕ) → Completes n (At decs ls (point.HaveVal ds i))
unfolding have_val
val_completes n decs ls ds i = goes_on n _ _ (s.Reserved w.KwColon) refl (want_type_completes (n + 1) decs ls (owner.Val ds i))

equals_completes : (n : ℕ) (decs : List TopDec) (ls : List Level) (ds : List DataDesc) (vs : List ℕ) (i : ℕ) → Completes n (At decs ls (point.AfterEquals ds vs i))
unfolding after_equals
equals_completes n decs ls ds vs i = goes_on n _ _ s.Alphanumeric refl (con_completes (n + 1) decs ls (cons.Datatype ds vs i) [] n)

tycon_completes : (n : ℕ) (decs : List TopDec) (ls : List Level) (h : Headed) (vs : List ℕ) (i : ℕ) → Completes n (At decs ls (point.HaveTycon h vs i))
unfolding where_tycon type_tycon types_ eqtypes datatype_tycon
tycon_completes n decs ls (headed.Where o at) vs i = goes_on n _ _ (s.Reserved w.KwEquals) refl (want_type_completes (n + 1) decs ls (owner.Where o at vs i))
tycon_completes n decs ls (headed.Abbrev ds) vs i = settled (length ls) n (At decs ls (point.HaveTycon (headed.Abbrev ds) vs i)) (spec_settles decs ls _)
tycon_completes n decs ls (headed.Eqtype ds) vs i = settled (length ls) n (At decs ls (point.HaveTycon (headed.Eqtype ds) vs i)) (spec_settles decs ls _)
tycon_completes n decs ls (headed.Datatype ds) vs i = goes_on n _ _ (s.Reserved w.KwEquals) refl (equals_completes (n + 1) decs ls ds vs i)

want_tycon_completes : (n : ℕ) (decs : List TopDec) (ls : List Level) (h : Headed) (vs : List ℕ) → Completes n (At decs ls (point.WantTycon h vs))
unfolding want_tycon
want_tycon_completes n decs ls (headed.Where o at) vs = goes_on n _ _ s.Alphanumeric refl (tycon_completes (n + 1) decs ls (headed.Where o at) vs n)
want_tycon_completes n decs ls (headed.Abbrev ds) vs = goes_on n _ _ s.Alphanumeric refl (tycon_completes (n + 1) decs ls (headed.Abbrev ds) vs n)
want_tycon_completes n decs ls (headed.Eqtype ds) vs = goes_on n _ _ s.Alphanumeric refl (tycon_completes (n + 1) decs ls (headed.Eqtype ds) vs n)
want_tycon_completes n decs ls (headed.Datatype ds) vs = goes_on n _ _ s.Alphanumeric refl (tycon_completes (n + 1) decs ls (headed.Datatype ds) vs n)

params_complete : (n : ℕ) (decs : List TopDec) (ls : List Level) (h : Headed) → Completes n (At decs ls (point.WantParams h))
unfolding want_params
params_complete n decs ls (headed.Where o at) = goes_on n _ _ s.Alphanumeric refl (tycon_completes (n + 1) decs ls (headed.Where o at) [] n)
params_complete n decs ls (headed.Abbrev ds) = goes_on n _ _ s.Alphanumeric refl (tycon_completes (n + 1) decs ls (headed.Abbrev ds) [] n)
params_complete n decs ls (headed.Eqtype ds) = goes_on n _ _ s.Alphanumeric refl (tycon_completes (n + 1) decs ls (headed.Eqtype ds) [] n)
params_complete n decs ls (headed.Datatype ds) = goes_on n _ _ s.Alphanumeric refl (tycon_completes (n + 1) decs ls (headed.Datatype ds) [] n)

param_completes : (n : ℕ) (decs : List TopDec) (ls : List Level) (h : Headed) (vs : List ℕ) → Completes n (At decs ls (point.HaveParam h vs))
unfolding have_param
param_completes n decs ls h vs = goes_on n _ _ (s.Reserved w.KwRParen) refl (want_tycon_completes (n + 1) decs ls h vs)

-- signature expressions and bindings

want_sig_completes : (n : ℕ) (decs : List TopDec) (ls : List Level) (g : Goal) → Completes n (At decs ls (point.WantSig g))
unfolding want_sig
want_sig_completes n decs ls g = goes_on n _ _ s.Alphanumeric refl (name_completes (n + 1) decs ls g n)

id_completes : (n : ℕ) (decs : List TopDec) (ls : List Level) (k : Group) (bs : List Bind) (i : ℕ) → Completes n (At decs ls (point.HaveId k bs i))
unfolding have_id
id_completes n decs ls group.Signatures bs i = goes_on n _ _ (s.Reserved w.KwEquals) refl (want_sig_completes (n + 1) decs ls (goal.Binding group.Signatures bs i))
id_completes n decs ls group.Structures bs i = goes_on n _ _ (s.Reserved w.KwColon) refl (want_sig_completes (n + 1) decs ls (goal.Binding group.Structures bs i))
id_completes n decs ls group.Members bs i = goes_on n _ _ (s.Reserved w.KwColon) refl (want_sig_completes (n + 1) decs ls (goal.Binding group.Members bs i))

-- sharing

want_shared_completes : (n : ℕ) (decs : List TopDec) (ls : List Level) (k : Shared) (is : List ℕ) → Completes n (At decs ls (point.WantShared k is))
unfolding want_shared have_shared
want_shared_completes n decs ls shared.Types is = goes_on n _ _ s.Alphanumeric refl (settled (length ls) (n + 1) (At decs ls (point.HaveShared shared.Types (is ++ n ∷ []))) (spec_settles decs ls _))
want_shared_completes n decs ls shared.Structures is = goes_on n _ _ s.Alphanumeric refl (settled (length ls) (n + 1) (At decs ls (point.HaveShared shared.Structures (is ++ n ∷ []))) (spec_settles decs ls _))

one_shared_completes : (n : ℕ) (decs : List TopDec) (ls : List Level) (k : Shared) (i : ℕ) → Completes n (At decs ls (point.OneShared k i))
unfolding one_shared
one_shared_completes n decs ls k i = goes_on n _ _ (s.Reserved w.KwEquals) refl (want_shared_completes (n + 1) decs ls k (i ∷ []))

point_completes : (n : ℕ) (decs : List TopDec) (ls : List Level) (p : Point) → Completes n (At decs ls p)
unfolding want_id after_where have_part have_sig after_and want_val vals types_ eqtypes datatypes want_param want_replica want_con includes after_sharing after_sharing_type have_shared
point_completes n decs ls point.Items = items_complete (length ls) n decs ls refl
point_completes n decs ls (point.WantId k bs) = goes_on n _ _ s.Alphanumeric refl (id_completes (n + 1) decs ls k bs n)
point_completes n decs ls (point.HaveId k bs i) = id_completes n decs ls k bs i
point_completes n decs ls (point.Bound k bs) = settled (length ls) n (At decs ls (point.Bound k bs)) (bound_settles decs ls k bs)
point_completes n decs ls (point.WantSig g) = want_sig_completes n decs ls g
point_completes n decs ls (point.HaveName g i) = name_completes n decs ls g i
point_completes n decs ls (point.HaveSig o) = sig_completes n decs ls o
point_completes n decs ls (point.AfterWhere o at) = goes_on n _ _ (s.Reserved w.KwType) refl (params_complete (n + 1) decs ls (headed.Where o at))
point_completes n decs ls (point.HavePart o) = settled (length ls) n (At decs ls (point.HavePart o)) (leave_settles decs ls o.goal (sig_of o))
point_completes n decs ls (point.AfterAnd o at) = goes_on n _ _ (s.Reserved w.KwType) refl (params_complete (n + 1) decs ls (headed.Where o at))
point_completes n decs ls (point.WantVal ds) = goes_on n _ _ s.Alphanumeric refl (val_completes (n + 1) decs ls ds n)
point_completes n decs ls (point.HaveVal ds i) = val_completes n decs ls ds i
point_completes n decs ls (point.Vals ds) = settled (length ls) n (At decs ls (point.Vals ds)) (spec_settles decs ls (spec.Val ds))
point_completes n decs ls (point.WantParams h) = params_complete n decs ls h
point_completes n decs ls (point.WantParam h vs) = goes_on n _ _ s.Variable refl (param_completes (n + 1) decs ls h (vs ++ n ∷ []))
point_completes n decs ls (point.HaveParam h vs) = param_completes n decs ls h vs
point_completes n decs ls (point.WantTycon h vs) = want_tycon_completes n decs ls h vs
point_completes n decs ls (point.HaveTycon h vs i) = tycon_completes n decs ls h vs i
point_completes n decs ls (point.Types ds) = settled (length ls) n (At decs ls (point.Types ds)) (spec_settles decs ls (spec.Abbrev ds))
point_completes n decs ls (point.Eqtypes ds) = settled (length ls) n (At decs ls (point.Eqtypes ds)) (spec_settles decs ls (spec.Eqtype ds))
point_completes n decs ls (point.AfterEquals ds vs i) = equals_completes n decs ls ds vs i
point_completes n decs ls (point.WantReplica i) = goes_on n _ _ s.Alphanumeric refl (items_complete (length ls) (n + 1) decs (with_spec ls (spec.Replica i n)) (length-with_spec ls _))
point_completes n decs ls (point.WantCon c cs) = goes_on n _ _ s.Alphanumeric refl (con_completes (n + 1) decs ls c cs n)
point_completes n decs ls (point.HaveCon c cs i) = con_completes n decs ls c cs i
point_completes n decs ls (point.HaveCons c cs) = cons_complete n decs ls c cs
point_completes n decs ls (point.Datatypes ds) = settled (length ls) n (At decs ls (point.Datatypes ds)) (spec_settles decs ls (spec.Datatype ds))
point_completes n decs ls (point.Includes gs) = settled (length ls) n (At decs ls (point.Includes gs)) (spec_settles decs ls (spec.Include gs))
point_completes n decs ls point.AfterSharing = goes_on n _ _ s.Alphanumeric refl (one_shared_completes (n + 1) decs ls shared.Structures n)
point_completes n decs ls point.AfterSharingType = goes_on n _ _ s.Alphanumeric refl (one_shared_completes (n + 1) decs ls shared.Types n)
point_completes n decs ls (point.OneShared k i) = one_shared_completes n decs ls k i
point_completes n decs ls (point.WantShared k is) = want_shared_completes n decs ls k is
point_completes n decs ls (point.HaveShared k is) = settled (length ls) n (At decs ls (point.HaveShared k is)) (spec_settles decs ls (shared_spec k is))
point_completes n decs ls (point.WantType o) = want_type_completes n decs ls o

-- each state can go on to the end of a file
pub completes : (n : ℕ) (st : State) → Completes n st
completes n (At decs ls p) = point_completes n decs ls p
completes n (InType decs ls o first st) = type_completes n decs ls o first st
