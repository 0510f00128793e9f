-- A reader of signature files that takes one token at a time, and settles nothing before the token that settles it.
use Rattle.std.specs.Prelude.{◌≡◌, ◌<◌, ℕ, ◌+◌, ⊤, Bool, List, [], ◌∷◌, ◌++◌, length, Option, Some, None, if◌then◌else◌}
use Rattle.std.specs.Option.{option_map}
use Rattle.sig_base.specs.declared.word.Word.TheVariants as w
use Rattle.ty_parser.specs.declared.sort.Sort.{Sort}
use Rattle.ty_parser.specs.declared.sort.Sort.TheVariants as s
use Rattle.ty_parser.specs.declared.tree.TyExp.{TyExp}
use Rattle.ty_parser.specs.declared.tree.TypeAt.{TypeAt}
use Rattle.ty_parser.specs.declared.tree.ParseRefusal.{ParseRefusal}
use Rattle.ty_parser.specs.declared.tree.ParseRefusal.TheVariants as refusal
use Rattle.ty_parser.specs.Grammar.{Numbered}
use Rattle.ty_parser.specs.Phrases.{most_open}
use Rattle.ty_parser.specs.Sorts.{is_vid, is_tycon, is_long_tycon, is_strid, is_long_strid}
use Rattle.ty_parser.specs.machine.Machine as types
use Rattle.sig_parser.specs.declared.tree.SourceFile.{SourceFile}
use Rattle.sig_parser.specs.declared.tree.TopDec.{TopDec}
use Rattle.sig_parser.specs.declared.tree.TopDec.TheVariants as topdec
use Rattle.sig_parser.specs.declared.tree.Bind.{Bind}
use Rattle.sig_parser.specs.declared.tree.SigExp.{SigExp}
use Rattle.sig_parser.specs.declared.tree.SigBase.TheVariants as base
use Rattle.sig_parser.specs.declared.tree.WherePart.{WherePart}
use Rattle.sig_parser.specs.declared.tree.Spec.{Spec}
use Rattle.sig_parser.specs.declared.tree.Spec.TheVariants as spec
use Rattle.sig_parser.specs.declared.tree.ValDesc.{ValDesc}
use Rattle.sig_parser.specs.declared.tree.TypeDesc.{TypeDesc}
use Rattle.sig_parser.specs.declared.tree.DataDesc.{DataDesc}
use Rattle.sig_parser.specs.declared.tree.ConDesc.{ConDesc}
use Rattle.sig_parser.specs.declared.point.Group.{Group}
use Rattle.sig_parser.specs.declared.point.Group.TheVariants as group
use Rattle.sig_parser.specs.machine.Goals.{Goal, Level, Open}
use Rattle.sig_parser.specs.machine.Goals as goal
use Rattle.sig_parser.specs.machine.Heads.{Headed}
use Rattle.sig_parser.specs.machine.Heads as headed
use Rattle.sig_parser.specs.machine.Constructors.{Cons}
use Rattle.sig_parser.specs.machine.Constructors as cons
use Rattle.sig_parser.specs.machine.Owners.{Owner}
use Rattle.sig_parser.specs.machine.Owners as owner
use Rattle.sig_parser.specs.declared.point.Shared.{Shared}
use Rattle.sig_parser.specs.declared.point.Shared.TheVariants as shared
use Rattle.sig_parser.specs.machine.Points.{Point}
use Rattle.sig_parser.specs.machine.Points as point
use Rattle.sig_parser.specs.Grammar.{is_described_vid, is_equals, is_colon, is_colon_or_seal, name_of}

-- the top declarations so far, the bodies that are not ended, the innermost first, and where reading stands: at a point, or inside a type
pub data State : Type 0 where
  At : List TopDec → List Level → Point → State
  InType : List TopDec → List Level → Owner → ℕ → types.State → State

-- the state before a file
abbrev pub start : State
start = At [] [] point.Items

-- the trees of whole phrases, and the lists with one of them more

abbrev pub bind : ℕ → SigExp → Bind
bind i g = record { id = i; rhs = g }

abbrev pub sig_of : Open → SigExp
sig_of o = record { first = o.first; base = o.base; parts = o.parts }

abbrev pub open_name : Goal → ℕ → Open
open_name g i = record { goal = g; first = i; base = base.Name i; parts = [] }

abbrev pub open_body : Level → Open
open_body l = record { goal = l.goal; first = l.first; base = base.Body l.specs; parts = [] }

abbrev pub with_part : Open → WherePart → Open
with_part o p = record { goal = o.goal; first = o.first; base = o.base; parts = o.parts ++ p ∷ [] }

abbrev pub value : ℕ → TypeAt → ValDesc
value i t = record { id = i; ty = t }

abbrev pub description : List ℕ → ℕ → Option TypeAt → TypeDesc
description vs i t = record { params = vs; id = i; rhs = t }

abbrev pub datatype : List ℕ → ℕ → List ConDesc → DataDesc
datatype vs i cs = record { params = vs; id = i; cons = cs }

abbrev pub con : ℕ → Option TypeAt → ConDesc
con i t = record { id = i; arg = t }

abbrev pub level : Goal → ℕ → List Spec → Level
level g i xs = record { goal = g; first = i; specs = xs }

-- the innermost body with one specification more
unfoldable pub with_spec : List Level → Spec → List Level
with_spec [] x = []
with_spec (l ∷ ls) x = level l.goal l.first (l.specs ++ x ∷ []) ∷ ls

abbrev pub shared_spec : Shared → List ℕ → Spec
shared_spec shared.Types is = spec.SharingType is
shared_spec shared.Structures is = spec.Sharing is

-- which tokens name what is read

abbrev pub is_between : Group → Sort → Bool
is_between group.Signatures = is_equals
is_between group.Structures = is_colon_or_seal
is_between group.Members = is_colon

abbrev pub is_name : Headed → Sort → Bool
is_name (headed.Where o at) = is_long_tycon
is_name _ = is_tycon

abbrev pub is_shared : Shared → Sort → Bool
is_shared shared.Types = is_long_tycon
is_shared shared.Structures = is_long_strid

-- among top declarations
unfoldable pub top_item : List TopDec → Sort → Option State
top_item decs (s.Reserved w.KwSignature) = Some (At decs [] (point.WantId group.Signatures []))
top_item decs (s.Reserved w.KwStructure) = Some (At decs [] (point.WantId group.Structures []))
top_item decs (s.Reserved w.KwSemicolon) = Some (At decs [] point.Items)
top_item decs _ = None

-- the point after the first token of a specification
unfoldable pub begin_spec : Sort → Option Point
begin_spec (s.Reserved w.KwVal) = Some (point.WantVal [])
begin_spec (s.Reserved w.KwType) = Some (point.WantParams (headed.Abbrev []))
begin_spec (s.Reserved w.KwEqtype) = Some (point.WantParams (headed.Eqtype []))
begin_spec (s.Reserved w.KwDatatype) = Some (point.WantParams (headed.Datatype []))
begin_spec (s.Reserved w.KwException) = Some (point.WantCon cons.Exception [])
begin_spec (s.Reserved w.KwStructure) = Some (point.WantId group.Members [])
begin_spec (s.Reserved w.KwInclude) = Some (point.WantSig goal.Including)
begin_spec (s.Reserved w.KwSharing) = Some point.AfterSharing
begin_spec (s.Reserved w.KwSemicolon) = Some point.Items
begin_spec _ = None

-- among the specifications of a body
unfoldable pub spec_item : List TopDec → Level → List Level → Sort → Option State
spec_item decs l ls (s.Reserved w.KwEnd) = Some (At decs ls (point.HaveSig (open_body l)))
spec_item decs l ls so = option_map (At decs (l ∷ ls)) (begin_spec so)

abbrev pub item : List TopDec → List Level → Sort → Option State
item decs [] so = top_item decs so
item decs (l ∷ ls) so = spec_item decs l ls so

-- behind the bindings of one group, which are whole
abbrev pub behind_group : List TopDec → List Level → Group → List Bind → Sort → Option State
behind_group decs ls group.Signatures bs so = item (decs ++ topdec.Signature bs ∷ []) ls so
behind_group decs ls group.Structures bs so = item (decs ++ topdec.Structure bs ∷ []) ls so
behind_group decs ls group.Members bs so = item decs (with_spec ls (spec.Structure bs)) so

unfoldable pub bound : List TopDec → List Level → Group → List Bind → Sort → Option State
bound decs ls k bs (s.Reserved w.KwAnd) = Some (At decs ls (point.WantId k bs))
bound decs ls k bs so = behind_group decs ls k bs so

unfoldable pub want_id : List TopDec → List Level → Group → List Bind → ℕ → Sort → Option State
want_id decs ls k bs i so = if is_strid so then Some (At decs ls (point.HaveId k bs i)) else None

unfoldable pub have_id : List TopDec → List Level → Group → List Bind → ℕ → Sort → Option State
have_id decs ls k bs i so = if is_between k so then Some (At decs ls (point.WantSig (goal.Binding k bs i))) else None

unfoldable pub begin_body : List TopDec → List Level → Goal → ℕ → Sort → Option State
begin_body decs ls g i (s.Reserved w.KwSig) = Some (At decs (level g i [] ∷ ls) point.Items)
begin_body decs ls g i _ = None

unfoldable pub want_sig : List TopDec → List Level → Goal → ℕ → Sort → Option State
want_sig decs ls g i so = if is_strid so then Some (At decs ls (point.HaveName g i)) else begin_body decs ls g i so

-- behind a signature expression that is whole
abbrev pub leave : List TopDec → List Level → Goal → SigExp → Sort → Option State
leave decs ls (goal.Binding k bs i) g so = bound decs ls k (bs ++ bind i g ∷ []) so
leave decs ls goal.Including g so = item decs (with_spec ls (spec.Include (g ∷ []))) so

unfoldable pub have_sig : List TopDec → List Level → Open → ℕ → Sort → Option State
have_sig decs ls o i (s.Reserved w.KwWhere) = Some (At decs ls (point.AfterWhere o i))
have_sig decs ls o i so = leave decs ls o.goal (sig_of o) so

-- two identifiers of signatures
unfoldable pub two_names : List TopDec → List Level → Goal → ℕ → ℕ → Option State
two_names decs ls (goal.Binding k bs i) j l = None
two_names decs ls goal.Including j l = Some (At decs ls (point.Includes (name_of j ∷ name_of l ∷ [])))

unfoldable pub have_name : List TopDec → List Level → Goal → ℕ → ℕ → Sort → Option State
have_name decs ls g j i so = if is_strid so then two_names decs ls g j i else have_sig decs ls (open_name g j) i so

unfoldable pub after_where : List TopDec → List Level → Open → ℕ → Sort → Option State
after_where decs ls o at (s.Reserved w.KwType) = Some (At decs ls (point.WantParams (headed.Where o at)))
after_where decs ls o at _ = None

unfoldable pub have_part : List TopDec → List Level → Open → ℕ → Sort → Option State
have_part decs ls o i (s.Reserved w.KwAnd) = Some (At decs ls (point.AfterAnd o i))
have_part decs ls o i so = have_sig decs ls o i so

-- an identifier behind `and` begins the next binding
unfoldable pub next_binding : List TopDec → List Level → Goal → SigExp → ℕ → Option State
next_binding decs ls (goal.Binding k bs i) g j = Some (At decs ls (point.HaveId k (bs ++ bind i g ∷ []) j))
next_binding decs ls goal.Including g j = None

unfoldable pub after_and : List TopDec → List Level → Open → ℕ → ℕ → Sort → Option State
after_and decs ls o at i so = if is_strid so then next_binding decs ls o.goal (sig_of o) i else after_where decs ls o at so

unfoldable pub want_val : List TopDec → List Level → List ValDesc → ℕ → Sort → Option State
want_val decs ls ds i so = if is_described_vid so then Some (At decs ls (point.HaveVal ds i)) else None

unfoldable pub have_val : List TopDec → List Level → List ValDesc → ℕ → Sort → Option State
have_val decs ls ds i (s.Reserved w.KwColon) = Some (At decs ls (point.WantType (owner.Val ds i)))
have_val decs ls ds i _ = None

unfoldable pub vals : List TopDec → List Level → List ValDesc → Sort → Option State
vals decs ls ds (s.Reserved w.KwAnd) = Some (At decs ls (point.WantVal ds))
vals decs ls ds so = item decs (with_spec ls (spec.Val ds)) so

unfoldable pub types_ : List TopDec → List Level → List TypeDesc → Sort → Option State
types_ decs ls ds (s.Reserved w.KwAnd) = Some (At decs ls (point.WantParams (headed.Abbrev ds)))
types_ decs ls ds so = item decs (with_spec ls (spec.Abbrev ds)) so

unfoldable pub eqtypes : List TopDec → List Level → List TypeDesc → Sort → Option State
eqtypes decs ls ds (s.Reserved w.KwAnd) = Some (At decs ls (point.WantParams (headed.Eqtype ds)))
eqtypes decs ls ds so = item decs (with_spec ls (spec.Eqtype ds)) so

unfoldable pub datatypes : List TopDec → List Level → List DataDesc → Sort → Option State
datatypes decs ls ds (s.Reserved w.KwAnd) = Some (At decs ls (point.WantParams (headed.Datatype ds)))
datatypes decs ls ds so = item decs (with_spec ls (spec.Datatype ds)) so

unfoldable pub begin_params : List TopDec → List Level → Headed → ℕ → Sort → Option State
begin_params decs ls h i s.Variable = Some (At decs ls (point.WantTycon h (i ∷ [])))
begin_params decs ls h i (s.Reserved w.KwLParen) = Some (At decs ls (point.WantParam h []))
begin_params decs ls h i _ = None

unfoldable pub want_tycon : List TopDec → List Level → Headed → List ℕ → ℕ → Sort → Option State
want_tycon decs ls h vs i so = if is_name h so then Some (At decs ls (point.HaveTycon h vs i)) else None

unfoldable pub want_params : List TopDec → List Level → Headed → ℕ → Sort → Option State
want_params decs ls h i so = if is_name h so then Some (At decs ls (point.HaveTycon h [] i)) else begin_params decs ls h i so

unfoldable pub want_param : List TopDec → List Level → Headed → List ℕ → ℕ → Sort → Option State
want_param decs ls h vs i s.Variable = Some (At decs ls (point.HaveParam h (vs ++ i ∷ [])))
want_param decs ls h vs i _ = None

unfoldable pub have_param : List TopDec → List Level → Headed → List ℕ → Sort → Option State
have_param decs ls h vs (s.Reserved w.KwComma) = Some (At decs ls (point.WantParam h vs))
have_param decs ls h vs (s.Reserved w.KwRParen) = Some (At decs ls (point.WantTycon h vs))
have_param decs ls h vs _ = None

unfoldable pub where_tycon : List TopDec → List Level → Open → ℕ → List ℕ → ℕ → Sort → Option State
where_tycon decs ls o at vs i (s.Reserved w.KwEquals) = Some (At decs ls (point.WantType (owner.Where o at vs i)))
where_tycon decs ls o at vs i _ = None

unfoldable pub type_tycon : List TopDec → List Level → List TypeDesc → List ℕ → ℕ → Sort → Option State
type_tycon decs ls ds vs i (s.Reserved w.KwEquals) = Some (At decs ls (point.WantType (owner.Abbrev ds vs i)))
type_tycon decs ls ds vs i so = types_ decs ls (ds ++ description vs i None ∷ []) so

unfoldable pub datatype_tycon : List TopDec → List Level → List DataDesc → List ℕ → ℕ → Sort → Option State
datatype_tycon decs ls ds vs i (s.Reserved w.KwEquals) = Some (At decs ls (point.AfterEquals ds vs i))
datatype_tycon decs ls ds vs i _ = None

abbrev pub have_tycon : List TopDec → List Level → Headed → List ℕ → ℕ → Sort → Option State
have_tycon decs ls (headed.Where o at) vs i so = where_tycon decs ls o at vs i so
have_tycon decs ls (headed.Abbrev ds) vs i so = type_tycon decs ls ds vs i so
have_tycon decs ls (headed.Eqtype ds) vs i so = eqtypes decs ls (ds ++ description vs i None ∷ []) so
have_tycon decs ls (headed.Datatype ds) vs i so = datatype_tycon decs ls ds vs i so

-- a replication describes one type constructor, without parameters
unfoldable pub replica : List TopDec → List Level → List DataDesc → List ℕ → ℕ → Sort → Option State
replica decs ls [] [] i (s.Reserved w.KwDatatype) = Some (At decs ls (point.WantReplica i))
replica decs ls _ _ i _ = None

unfoldable pub after_equals : List TopDec → List Level → List DataDesc → List ℕ → ℕ → ℕ → Sort → Option State
after_equals decs ls ds vs j i so = if is_vid so then Some (At decs ls (point.HaveCon (cons.Datatype ds vs j) [] i)) else replica decs ls ds vs j so

unfoldable pub want_replica : List TopDec → List Level → ℕ → ℕ → Sort → Option State
want_replica decs ls j i so = if is_long_tycon so then Some (At decs (with_spec ls (spec.Replica j i)) point.Items) else None

unfoldable pub want_con : List TopDec → List Level → Cons → List ConDesc → ℕ → Sort → Option State
want_con decs ls c cs i so = if is_vid so then Some (At decs ls (point.HaveCon c cs i)) else None

unfoldable pub constructors : List TopDec → List Level → List DataDesc → List ℕ → ℕ → List ConDesc → Sort → Option State
constructors decs ls ds vs j cs (s.Reserved w.KwBar) = Some (At decs ls (point.WantCon (cons.Datatype ds vs j) cs))
constructors decs ls ds vs j cs so = datatypes decs ls (ds ++ datatype vs j cs ∷ []) so

unfoldable pub exceptions : List TopDec → List Level → List ConDesc → Sort → Option State
exceptions decs ls cs (s.Reserved w.KwAnd) = Some (At decs ls (point.WantCon cons.Exception cs))
exceptions decs ls cs so = item decs (with_spec ls (spec.Exception cs)) so

abbrev pub have_cons : List TopDec → List Level → Cons → List ConDesc → Sort → Option State
have_cons decs ls (cons.Datatype ds vs j) cs so = constructors decs ls ds vs j cs so
have_cons decs ls cons.Exception cs so = exceptions decs ls cs so

unfoldable pub have_con : List TopDec → List Level → Cons → List ConDesc → ℕ → Sort → Option State
have_con decs ls c cs i (s.Reserved w.KwOf) = Some (At decs ls (point.WantType (owner.Con c cs i)))
have_con decs ls c cs i so = have_cons decs ls c (cs ++ con i None ∷ []) so

unfoldable pub includes : List TopDec → List Level → List SigExp → ℕ → Sort → Option State
includes decs ls gs i so = if is_strid so then Some (At decs ls (point.Includes (gs ++ name_of i ∷ []))) else item decs (with_spec ls (spec.Include gs)) so

unfoldable pub sharing_type : List TopDec → List Level → Sort → Option State
sharing_type decs ls (s.Reserved w.KwType) = Some (At decs ls point.AfterSharingType)
sharing_type decs ls _ = None

unfoldable pub after_sharing : List TopDec → List Level → ℕ → Sort → Option State
after_sharing decs ls i so = if is_long_strid so then Some (At decs ls (point.OneShared shared.Structures i)) else sharing_type decs ls so

unfoldable pub after_sharing_type : List TopDec → List Level → ℕ → Sort → Option State
after_sharing_type decs ls i so = if is_long_tycon so then Some (At decs ls (point.OneShared shared.Types i)) else None

unfoldable pub one_shared : List TopDec → List Level → Shared → ℕ → Sort → Option State
one_shared decs ls k i (s.Reserved w.KwEquals) = Some (At decs ls (point.WantShared k (i ∷ [])))
one_shared decs ls k i _ = None

unfoldable pub want_shared : List TopDec → List Level → Shared → List ℕ → ℕ → Sort → Option State
want_shared decs ls k is i so = if is_shared k so then Some (At decs ls (point.HaveShared k (is ++ i ∷ []))) else None

unfoldable pub have_shared : List TopDec → List Level → Shared → List ℕ → Sort → Option State
have_shared decs ls k is (s.Reserved w.KwEquals) = Some (At decs ls (point.WantShared k is))
have_shared decs ls k is so = item decs (with_spec ls (shared_spec k is)) so

-- a type begins
unfoldable pub begin_type : List TopDec → List Level → Owner → ℕ → Option types.State → Option State
begin_type decs ls o i st = option_map (InType decs ls o i) st

-- the state after a token at a point
abbrev pub step_at : List TopDec → List Level → Point → ℕ → Sort → Option State
step_at decs ls point.Items i so = item decs ls so
step_at decs ls (point.WantId k bs) i so = want_id decs ls k bs i so
step_at decs ls (point.HaveId k bs j) i so = have_id decs ls k bs j so
step_at decs ls (point.Bound k bs) i so = bound decs ls k bs so
step_at decs ls (point.WantSig g) i so = want_sig decs ls g i so
step_at decs ls (point.HaveName g j) i so = have_name decs ls g j i so
step_at decs ls (point.HaveSig o) i so = have_sig decs ls o i so
step_at decs ls (point.AfterWhere o at) i so = after_where decs ls o at so
step_at decs ls (point.HavePart o) i so = have_part decs ls o i so
step_at decs ls (point.AfterAnd o at) i so = after_and decs ls o at i so
step_at decs ls (point.WantVal ds) i so = want_val decs ls ds i so
step_at decs ls (point.HaveVal ds j) i so = have_val decs ls ds j so
step_at decs ls (point.Vals ds) i so = vals decs ls ds so
step_at decs ls (point.WantParams h) i so = want_params decs ls h i so
step_at decs ls (point.WantParam h vs) i so = want_param decs ls h vs i so
step_at decs ls (point.HaveParam h vs) i so = have_param decs ls h vs so
step_at decs ls (point.WantTycon h vs) i so = want_tycon decs ls h vs i so
step_at decs ls (point.HaveTycon h vs j) i so = have_tycon decs ls h vs j so
step_at decs ls (point.Types ds) i so = types_ decs ls ds so
step_at decs ls (point.Eqtypes ds) i so = eqtypes decs ls ds so
step_at decs ls (point.AfterEquals ds vs j) i so = after_equals decs ls ds vs j i so
step_at decs ls (point.WantReplica j) i so = want_replica decs ls j i so
step_at decs ls (point.WantCon c cs) i so = want_con decs ls c cs i so
step_at decs ls (point.HaveCon c cs j) i so = have_con decs ls c cs j so
step_at decs ls (point.HaveCons c cs) i so = have_cons decs ls c cs so
step_at decs ls (point.Datatypes ds) i so = datatypes decs ls ds so
step_at decs ls (point.Includes gs) i so = includes decs ls gs i so
step_at decs ls point.AfterSharing i so = after_sharing decs ls i so
step_at decs ls point.AfterSharingType i so = after_sharing_type decs ls i so
step_at decs ls (point.OneShared k j) i so = one_shared decs ls k j so
step_at decs ls (point.WantShared k is) i so = want_shared decs ls k is i so
step_at decs ls (point.HaveShared k is) i so = have_shared decs ls k is so
step_at decs ls (point.WantType o) i so = begin_type decs ls o i (types.step types.start (i, so))

-- the point after a type
abbrev pub owned : Owner → TypeAt → Point
owned (owner.Val ds i) t = point.Vals (ds ++ value i t ∷ [])
owned (owner.Where o at vs i) t = point.HavePart (with_part o (record { at = at; params = vs; tycon = i; ty = t }))
owned (owner.Abbrev ds vs i) t = point.Types (ds ++ description vs i (Some t) ∷ [])
owned (owner.Con c cs i) t = point.HaveCons c (cs ++ con i (Some t) ∷ [])

-- behind a type that may end, or not
unfoldable pub behind_type : List TopDec → List Level → Owner → ℕ → Option TyExp → ℕ → Sort → Option State
behind_type decs ls o first None i so = None
behind_type decs ls o first (Some e) i so = step_at decs ls (owned o (record { first = first; ty = e })) i so

-- the type goes on where it can, and ends where it cannot
unfoldable pub in_type : List TopDec → List Level → Owner → ℕ → Option types.State → Option TyExp → ℕ → Sort → Option State
in_type decs ls o first (Some st) e i so = Some (InType decs ls o first st)
in_type decs ls o first None e i so = behind_type decs ls o first e i so

-- the state after a token, if it can stand there
abbrev pub step : State → Numbered → Option State
step (At decs ls p) t = step_at decs ls p t.0 t.1
step (InType decs ls o first st) t = in_type decs ls o first (types.step st t) (types.finish st) t.0 t.1

-- the file where it ends behind the bindings of a group
abbrev pub ended_group : List TopDec → Group → List Bind → Option SourceFile
ended_group decs group.Signatures bs = Some (record { decs = decs ++ topdec.Signature bs ∷ [] })
ended_group decs group.Structures bs = Some (record { decs = decs ++ topdec.Structure bs ∷ [] })
ended_group decs group.Members bs = None

-- the file where it ends behind a signature expression
abbrev pub ended_sig : List TopDec → Goal → SigExp → Option SourceFile
ended_sig decs (goal.Binding k bs i) g = ended_group decs k (bs ++ bind i g ∷ [])
ended_sig decs goal.Including g = None

-- the file where it ends at a point outside of bodies
unfoldable pub ended : List TopDec → Point → Option SourceFile
ended decs point.Items = Some (record { decs = decs })
ended decs (point.Bound k bs) = ended_group decs k bs
ended decs (point.HaveName g i) = ended_sig decs g (name_of i)
ended decs (point.HaveSig o) = ended_sig decs o.goal (sig_of o)
ended decs (point.HavePart o) = ended_sig decs o.goal (sig_of o)
ended decs _ = None

unfoldable pub ended_type : List TopDec → Owner → ℕ → Option TyExp → Option SourceFile
ended_type decs o first None = None
ended_type decs o first (Some e) = ended decs (owned o (record { first = first; ty = e }))

-- the file that was read, if it may end there
abbrev pub finish : State → Option SourceFile
finish (At decs [] p) = ended decs p
finish (At decs (l ∷ ls) p) = None
finish (InType decs [] o first st) = ended_type decs o first (types.finish st)
finish (InType decs (l ∷ ls) o first st) = None

-- how many tokens are open at a point, where so many bodies are: a parenthesis around parameters counts too
unfoldable pub open_at : Point → ℕ → ℕ
open_at (point.WantParam h vs) n = n + 1
open_at (point.HaveParam h vs) n = n + 1
open_at _ n = n

-- how many parentheses, braces and `sig` are open
abbrev pub depth : State → ℕ
depth (At decs ls p) = open_at p (length ls)
depth (InType decs ls o first st) = length ls + types.depth st

-- what an answer tells of the token with this number and sort: that it can't stand there, or is too deep
abbrev pub Tells : State → ℕ → Sort → ParseRefusal → Type 0
Tells st i so (refusal.Syntax k) = (k ≡ i) × (step st (i, so) ≡ None)
Tells st i so (refusal.TooDeep k) = (k ≡ i) × (deep : State) × (step st (i, so) ≡ Some deep) × (most_open < depth deep)
Tells st i so refusal.NoMemory = ⊤

-- what an answer tells of the end, where there are so many tokens: that no file ends there
abbrev pub TellsEnd : State → ℕ → ParseRefusal → Type 0
TellsEnd st count (refusal.Syntax k) = (k ≡ count) × (finish st ≡ None)
TellsEnd st count (refusal.TooDeep k) = ⊥
TellsEnd st count refusal.NoMemory = ⊤
