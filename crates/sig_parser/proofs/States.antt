-- What the machine has read where it is in a state.
use Rattle.std.proofs.Common.{◌≡◌, ℕ, Bool, List, [], ◌∷◌, ◌++◌}
use Rattle.std.specs.Prelude.{IsTrue}
use Rattle.sig_base.specs.declared.word.Word.{Word}
use Rattle.sig_base.specs.declared.word.Word.TheVariants as w
use Rattle.ty_parser.specs.declared.sort.Sort.{Sort}
use Rattle.ty_parser.specs.declared.sort.Sort.TheVariants as s
use Rattle.ty_parser.specs.Grammar.{Numbered}
use Rattle.ty_parser.specs.Sorts.{is_vid, is_tycon, is_long_tycon, is_strid}
use Rattle.sig_parser.specs.declared.tree.TopDec.{TopDec}
use Rattle.sig_parser.specs.declared.tree.Bind.{Bind}
use Rattle.sig_parser.specs.declared.tree.WherePart.{WherePart}
use Rattle.sig_parser.specs.declared.tree.Spec.{Spec}
use Rattle.sig_parser.specs.declared.tree.DataDesc.{DataDesc}
use Rattle.sig_parser.specs.declared.point.Group.{Group}
use Rattle.sig_parser.specs.declared.point.Group.TheVariants as group
use Rattle.sig_parser.specs.machine.Goals.{Goal, Level, Open}
use Rattle.sig_parser.specs.machine.Goals as goal
use Rattle.sig_parser.specs.machine.Heads.{Headed}
use Rattle.sig_parser.specs.machine.Heads as headed
use Rattle.sig_parser.specs.machine.Constructors.{Cons}
use Rattle.sig_parser.specs.machine.Constructors as cons
use Rattle.sig_parser.specs.machine.Owners.{Owner}
use Rattle.sig_parser.specs.machine.Owners as owner
use Rattle.sig_parser.specs.declared.point.Shared.{Shared}
use Rattle.sig_parser.specs.declared.point.Shared.TheVariants as shared
use Rattle.sig_parser.specs.machine.Points.{Point}
use Rattle.sig_parser.specs.machine.Points as point
use Rattle.ty_parser.proofs.Sound as type_sound
use Rattle.sig_parser.specs.Grammar.{is_described_vid, Separated, one, more, Named, TyVar, TyVarSeq, ValueDescription, TypeDescription, TypeAbbreviation, ConstructorDescription, DatatypeDescription, TypeRealization, Realizations, SomeRealizations, by_where, by_and, SignatureNames, Equated, SignatureExpression, sigexp, SignatureBase, Specifications, more_specs, Specification, Bindings, one_binding, more_bindings, Binding, TopDeclarations}
use Rattle.sig_parser.specs.machine.Machine.{State, At, InType, sig_of, level, is_between, is_name, is_shared, with_spec}

-- no phrases, or phrases with the word behind them
pub data Before {Tree : Type 0} (word : Word) (phrase : List Numbered → List Numbered → Tree → Type 0) : List Numbered → List Numbered → List Tree → Type 0 where
  none : {ts : List Numbered} → Before word phrase ts ts []
  some : {i : ℕ} {ts r : List Numbered} {xs : List Tree} → Separated word phrase ts ((i, s.Reserved word) ∷ r) xs → Before word phrase ts r xs

pub joined : {Tree : Type 0} {word : Word} {phrase : List Numbered → List Numbered → Tree → Type 0} {ts m r : List Numbered} {xs : List Tree} {x : Tree} → Before word phrase ts m xs → phrase m r x → Separated word phrase ts r (xs ++ x ∷ [])
joined none p = one p
joined (some d) p = more d p

-- no bindings, or bindings with `and` behind them
pub data BindingsBefore (between : Sort → Bool) : List Numbered → List Numbered → List Bind → Type 0 where
  unbound : {ts : List Numbered} → BindingsBefore between ts ts []
  bound_before : {i : ℕ} {ts r : List Numbered} {bs : List Bind} → Bindings between ts ((i, s.Reserved w.KwAnd) ∷ r) bs → BindingsBefore between ts r bs

pub bindings_joined : {between : Sort → Bool} {ts m r : List Numbered} {bs : List Bind} {b : Bind} → BindingsBefore between ts m bs → Binding between m r b → Bindings between ts r (bs ++ b ∷ [])
bindings_joined unbound d = one_binding d
bindings_joined (bound_before q) d = more_bindings q d

-- a part of a `where` begins behind the token of this number
pub data PartBegun : ℕ → List Numbered → List Numbered → List WherePart → Type 0 where
  begun_by_where : {at : ℕ} {ts r : List Numbered} {ps : List WherePart} → Realizations ts ((at, s.Reserved w.KwWhere) ∷ r) ps → PartBegun at ts r ps
  begun_by_and : {at : ℕ} {ts r : List Numbered} {ps : List WherePart} → SomeRealizations ts ((at, s.Reserved w.KwAnd) ∷ r) ps → PartBegun at ts r ps

pub part_joined : {at : ℕ} {ts m r : List Numbered} {ps : List WherePart} {p : WherePart} → PartBegun at ts m ps → TypeRealization at m r p → SomeRealizations ts r (ps ++ p ∷ [])
part_joined (begun_by_where d) p = by_where d p
part_joined (begun_by_and d) p = by_and d p

mutual
  -- reading of ts up to r has led among the specifications of the innermost body
  pub data BodyTo (ts : List Numbered) : List Numbered → List TopDec → List Level → Type 0 where
    in_body : {i : ℕ} {m r : List Numbered} {decs : List TopDec} {ls : List Level} {g : Goal} {xs : List Spec} → GoalTo ts ((i, s.Reserved w.KwSig) ∷ m) decs ls g → Specifications m r xs → BodyTo ts r decs (level g i xs ∷ ls)

  -- the same, to where a signature expression begins
  pub data GoalTo (ts : List Numbered) : List Numbered → List TopDec → List Level → Goal → Type 0 where
    for_binding : {i c : ℕ} {so co : Sort} {m r : List Numbered} {decs : List TopDec} {ls : List Level} {k : Group} {bs : List Bind} → GroupTo ts m decs ls k → BindingsBefore (is_between k) m ((i, so) ∷ (c, co) ∷ r) bs → IsTrue (is_strid so) → IsTrue (is_between k co)
        → GoalTo ts r decs ls (goal.Binding k bs i)
    for_include : {i : ℕ} {r : List Numbered} {decs : List TopDec} {ls : List Level} → BodyTo ts ((i, s.Reserved w.KwInclude) ∷ r) decs ls → GoalTo ts r decs ls goal.Including

  -- the same, to where bindings begin
  pub data GroupTo (ts : List Numbered) : List Numbered → List TopDec → List Level → Group → Type 0 where
    signatures_to : {i : ℕ} {r : List Numbered} {decs : List TopDec} → TopDeclarations ts ((i, s.Reserved w.KwSignature) ∷ r) decs → GroupTo ts r decs [] group.Signatures
    structures_to : {i : ℕ} {r : List Numbered} {decs : List TopDec} → TopDeclarations ts ((i, s.Reserved w.KwStructure) ∷ r) decs → GroupTo ts r decs [] group.Structures
    members_to : {i : ℕ} {r : List Numbered} {decs : List TopDec} {ls : List Level} → BodyTo ts ((i, s.Reserved w.KwStructure) ∷ r) decs ls → GroupTo ts r decs ls group.Members

-- the same, among top declarations or specifications
pub data ItemsTo (ts : List Numbered) : List Numbered → List TopDec → List Level → Type 0 where
  at_top : {r : List Numbered} {decs : List TopDec} → TopDeclarations ts r decs → ItemsTo ts r decs []
  inside : {r : List Numbered} {decs : List TopDec} {l : Level} {ls : List Level} → BodyTo ts r decs (l ∷ ls) → ItemsTo ts r decs (l ∷ ls)

-- the same, behind what stands before `where`
pub record OpenTo (ts r : List Numbered) (decs : List TopDec) (ls : List Level) (o : Open) : Type 0 where
  pub sort : Sort
  pub from : List Numbered
  pub goal_to : GoalTo ts ((o.first, sort) ∷ from) decs ls o.goal
  pub base_to : SignatureBase ((o.first, sort) ∷ from) r o.base

-- the same, where one more description is wanted
pub record Wants {Tree : Type 0} (ts r : List Numbered) (decs : List TopDec) (ls : List Level) (word : Word) (phrase : List Numbered → List Numbered → Tree → Type 0) (ds : List Tree) : Type 0 where
  pub at : ℕ
  pub from : List Numbered
  pub body_to : BodyTo ts ((at, s.Reserved word) ∷ from) decs ls
  pub before : Before w.KwAnd phrase from r ds

-- the same, behind descriptions
pub record Has {Tree : Type 0} (ts r : List Numbered) (decs : List TopDec) (ls : List Level) (word : Word) (phrase : List Numbered → List Numbered → Tree → Type 0) (ds : List Tree) : Type 0 where
  pub at : ℕ
  pub from : List Numbered
  pub body_to : BodyTo ts ((at, s.Reserved word) ∷ from) decs ls
  pub all : Separated w.KwAnd phrase from r ds

pub has_more : {Tree : Type 0} {ts m r : List Numbered} {decs : List TopDec} {ls : List Level} {word : Word} {phrase : List Numbered → List Numbered → Tree → Type 0} {ds : List Tree} {d : Tree} → Wants ts m decs ls word phrase ds → phrase m r d → Has ts r decs ls word phrase (ds ++ d ∷ [])
has_more to d = record { at = to.at; from = to.from; body_to = to.body_to; all = joined to.before d }

pub wants_more : {Tree : Type 0} {i : ℕ} {ts r : List Numbered} {decs : List TopDec} {ls : List Level} {word : Word} {phrase : List Numbered → List Numbered → Tree → Type 0} {ds : List Tree} → Has ts ((i, s.Reserved w.KwAnd) ∷ r) decs ls word phrase ds → Wants ts r decs ls word phrase ds
wants_more to = record { at = to.at; from = to.from; body_to = to.body_to; before = some to.all }

-- the same, to where parameters begin
abbrev pub HeadedTo : List Numbered → List Numbered → List TopDec → List Level → Headed → Type 0
HeadedTo ts r decs ls (headed.Where o at) = (m : List Numbered) × (b : ℕ) × OpenTo ts m decs ls o × PartBegun at m ((b, s.Reserved w.KwType) ∷ r) o.parts
HeadedTo ts r decs ls (headed.Abbrev ds) = Wants ts r decs ls w.KwType TypeAbbreviation ds
HeadedTo ts r decs ls (headed.Eqtype ds) = Wants ts r decs ls w.KwEqtype TypeDescription ds
HeadedTo ts r decs ls (headed.Datatype ds) = Wants ts r decs ls w.KwDatatype DatatypeDescription ds

-- the same, behind the = of a datatype
pub record DatatypeTo (ts r : List Numbered) (decs : List TopDec) (ls : List Level) (ds : List DataDesc) (vs : List ℕ) (i : ℕ) : Type 0 where
  pub equals : ℕ
  pub sort : Sort
  pub from : List Numbered
  pub wants : Wants ts from decs ls w.KwDatatype DatatypeDescription ds
  pub params : TyVarSeq from ((i, sort) ∷ (equals, s.Reserved w.KwEquals) ∷ r) vs
  pub named : IsTrue (is_tycon sort)

-- the same, to where constructors begin
abbrev pub ConsTo : List Numbered → List Numbered → List TopDec → List Level → Cons → Type 0
ConsTo ts r decs ls (cons.Datatype ds vs i) = DatatypeTo ts r decs ls ds vs i
ConsTo ts r decs ls cons.Exception = (i : ℕ) × BodyTo ts ((i, s.Reserved w.KwException) ∷ r) decs ls

-- what stands between constructors
abbrev pub between_cons : Cons → Word
between_cons (cons.Datatype ds vs i) = w.KwBar
between_cons cons.Exception = w.KwAnd

-- the same, to where the first that is shared begins
abbrev pub SharedTo : List Numbered → List Numbered → List TopDec → List Level → Shared → Type 0
SharedTo ts r decs ls shared.Types = (i j : ℕ) × BodyTo ts ((i, s.Reserved w.KwSharing) ∷ (j, s.Reserved w.KwType) ∷ r) decs ls
SharedTo ts r decs ls shared.Structures = (i : ℕ) × BodyTo ts ((i, s.Reserved w.KwSharing) ∷ r) decs ls

-- the same, where one more that is shared is wanted
pub record SharedBefore (ts r : List Numbered) (decs : List TopDec) (ls : List Level) (k : Shared) (is : List ℕ) : Type 0 where
  pub first : ℕ
  pub equals : ℕ
  pub sort : Sort
  pub from : List Numbered
  pub others : List ℕ
  pub shared_to : SharedTo ts ((first, sort) ∷ (equals, s.Reserved w.KwEquals) ∷ from) decs ls k
  pub named : IsTrue (is_shared k sort)
  pub before : Before w.KwEquals (Named (is_shared k)) from r others
  pub all : first ∷ others ≡ is

-- the same, to where a type begins
abbrev pub OwnerTo : List Numbered → List Numbered → List TopDec → List Level → Owner → Type 0
OwnerTo ts r decs ls (owner.Val ds i) = (c : ℕ) × (so : Sort) × Wants ts ((i, so) ∷ (c, s.Reserved w.KwColon) ∷ r) decs ls w.KwVal ValueDescription ds × IsTrue (is_described_vid so)
OwnerTo ts r decs ls (owner.Where o at vs i) = (m : List Numbered) × (e : ℕ) × (so : Sort) × HeadedTo ts m decs ls (headed.Where o at) × TyVarSeq m ((i, so) ∷ (e, s.Reserved w.KwEquals) ∷ r) vs × IsTrue (is_long_tycon so)
OwnerTo ts r decs ls (owner.Abbrev ds vs i) = (m : List Numbered) × (e : ℕ) × (so : Sort) × HeadedTo ts m decs ls (headed.Abbrev ds) × TyVarSeq m ((i, so) ∷ (e, s.Reserved w.KwEquals) ∷ r) vs × IsTrue (is_tycon so)
OwnerTo ts r decs ls (owner.Con c cs i) = (m : List Numbered) × (o : ℕ) × (so : Sort) × ConsTo ts m decs ls c × Before (between_cons c) ConstructorDescription m ((i, so) ∷ (o, s.Reserved w.KwOf) ∷ r) cs × IsTrue (is_vid so)

-- the same, to a point
abbrev pub PointTo : List Numbered → List Numbered → List TopDec → List Level → Point → Type 0
PointTo ts r decs ls point.Items = ItemsTo ts r decs ls
PointTo ts r decs ls (point.WantId k bs) = (m : List Numbered) × GroupTo ts m decs ls k × BindingsBefore (is_between k) m r bs
PointTo ts r decs ls (point.HaveId k bs i) = (m : List Numbered) × (so : Sort) × GroupTo ts m decs ls k × BindingsBefore (is_between k) m ((i, so) ∷ r) bs × IsTrue (is_strid so)
PointTo ts r decs ls (point.Bound k bs) = (m : List Numbered) × GroupTo ts m decs ls k × Bindings (is_between k) m r bs
PointTo ts r decs ls (point.WantSig g) = GoalTo ts r decs ls g
PointTo ts r decs ls (point.HaveName g i) = (so : Sort) × GoalTo ts ((i, so) ∷ r) decs ls g × IsTrue (is_strid so)
PointTo ts r decs ls (point.HaveSig o) = (m : List Numbered) × OpenTo ts m decs ls o × Realizations m r o.parts
PointTo ts r decs ls (point.AfterWhere o at) = (m : List Numbered) × OpenTo ts m decs ls o × Realizations m ((at, s.Reserved w.KwWhere) ∷ r) o.parts
PointTo ts r decs ls (point.HavePart o) = (m : List Numbered) × OpenTo ts m decs ls o × SomeRealizations m r o.parts
PointTo ts r decs ls (point.AfterAnd o at) = (m : List Numbered) × OpenTo ts m decs ls o × SomeRealizations m ((at, s.Reserved w.KwAnd) ∷ r) o.parts
PointTo ts r decs ls (point.WantVal ds) = Wants ts r decs ls w.KwVal ValueDescription ds
PointTo ts r decs ls (point.HaveVal ds i) = (so : Sort) × Wants ts ((i, so) ∷ r) decs ls w.KwVal ValueDescription ds × IsTrue (is_described_vid so)
PointTo ts r decs ls (point.Vals ds) = Has ts r decs ls w.KwVal ValueDescription ds
PointTo ts r decs ls (point.WantParams h) = HeadedTo ts r decs ls h
PointTo ts r decs ls (point.WantParam h vs) = (m : List Numbered) × (i : ℕ) × HeadedTo ts ((i, s.Reserved w.KwLParen) ∷ m) decs ls h × Before w.KwComma TyVar m r vs
PointTo ts r decs ls (point.HaveParam h vs) = (m : List Numbered) × (i : ℕ) × HeadedTo ts ((i, s.Reserved w.KwLParen) ∷ m) decs ls h × Separated w.KwComma TyVar m r vs
PointTo ts r decs ls (point.WantTycon h vs) = (m : List Numbered) × HeadedTo ts m decs ls h × TyVarSeq m r vs
PointTo ts r decs ls (point.HaveTycon h vs i) = (m : List Numbered) × (so : Sort) × HeadedTo ts m decs ls h × TyVarSeq m ((i, so) ∷ r) vs × IsTrue (is_name h so)
PointTo ts r decs ls (point.Types ds) = Has ts r decs ls w.KwType TypeAbbreviation ds
PointTo ts r decs ls (point.Eqtypes ds) = Has ts r decs ls w.KwEqtype TypeDescription ds
PointTo ts r decs ls (point.AfterEquals ds vs i) = DatatypeTo ts r decs ls ds vs i
PointTo ts r decs ls (point.WantReplica i) = (a e d : ℕ) × (so : Sort) × BodyTo ts ((a, s.Reserved w.KwDatatype) ∷ (i, so) ∷ (e, s.Reserved w.KwEquals) ∷ (d, s.Reserved w.KwDatatype) ∷ r) decs ls × IsTrue (is_tycon so)
PointTo ts r decs ls (point.WantCon c cs) = (m : List Numbered) × ConsTo ts m decs ls c × Before (between_cons c) ConstructorDescription m r cs
PointTo ts r decs ls (point.HaveCon c cs i) = (m : List Numbered) × (so : Sort) × ConsTo ts m decs ls c × Before (between_cons c) ConstructorDescription m ((i, so) ∷ r) cs × IsTrue (is_vid so)
PointTo ts r decs ls (point.HaveCons c cs) = (m : List Numbered) × ConsTo ts m decs ls c × Separated (between_cons c) ConstructorDescription m r cs
PointTo ts r decs ls (point.Datatypes ds) = Has ts r decs ls w.KwDatatype DatatypeDescription ds
PointTo ts r decs ls (point.Includes gs) = (m : List Numbered) × (i : ℕ) × BodyTo ts ((i, s.Reserved w.KwInclude) ∷ m) decs ls × SignatureNames m r gs
PointTo ts r decs ls point.AfterSharing = SharedTo ts r decs ls shared.Structures
PointTo ts r decs ls point.AfterSharingType = SharedTo ts r decs ls shared.Types
PointTo ts r decs ls (point.OneShared k i) = (so : Sort) × SharedTo ts ((i, so) ∷ r) decs ls k × IsTrue (is_shared k so)
PointTo ts r decs ls (point.WantShared k is) = SharedBefore ts r decs ls k is
PointTo ts r decs ls (point.HaveShared k is) = (m : List Numbered) × SharedTo ts m decs ls k × Equated (is_shared k) m r is
PointTo ts r decs ls (point.WantType o) = OwnerTo ts r decs ls o

-- what was read of ts up to r has led to the state
abbrev pub StateTo : List Numbered → List Numbered → State → Type 0
StateTo ts r (At decs ls p) = PointTo ts r decs ls p
StateTo ts r (InType decs ls o first st) = (m : List Numbered) × (so : Sort) × OwnerTo ts ((first, so) ∷ m) decs ls o × type_sound.StateTo ((first, so) ∷ m) r st

-- a specification more in the innermost body
pub spec_joined : {ts m r : List Numbered} {decs : List TopDec} {ls : List Level} {x : Spec} → BodyTo ts m decs ls → Specification m r x → BodyTo ts r decs (with_spec ls x)
unfolding with_spec
spec_joined (in_body g d) x = in_body g (more_specs d x)

-- among items, where a body is open
pub in_items : {ts r : List Numbered} {decs : List TopDec} {ls : List Level} → BodyTo ts r decs ls → ItemsTo ts r decs ls
in_items (in_body g d) = inside (in_body g d)

-- a whole signature expression
pub open_sig : {ts m r : List Numbered} {decs : List TopDec} {ls : List Level} (o : Open) → OpenTo ts m decs ls o → Realizations m r o.parts → (n : List Numbered) × GoalTo ts n decs ls o.goal × SignatureExpression n r (sig_of o)
open_sig o to d = (_, to.goal_to, sigexp to.base_to d)
