-- The reading of an index text, part by part from its front, as the functions of this crate do it.
use Rattle.std.specs.Prelude.{◌≡◌, ℕ, zero, suc, ◌-◌, ◌==◌, Bool, true, false, if◌then◌else◌, List, [], ◌∷◌, ◌++◌, length, take, drop, nat_lt, slice_get, ⊤, Option, Some, None, Result, Ok, Err}
use Rattle.std.specs.Borrow.{Bor}
use Rattle.std.specs.Int.{from_be_bytes, w32}
use Rattle.lib_index.specs.declared.refusal.IndexRefusal.{IndexRefusal}
use Rattle.lib_index.specs.declared.refusal.IndexRefusal.TheVariants as refusal
use Rattle.lib_index.specs.declared.rest.Rest as code
use Rattle.lib_index.specs.declared.type_reading.Form.{Form}
use Rattle.lib_index.specs.declared.type_reading.Form.TheVariants as form
use Rattle.type_core.specs.declared.library.Library.{Library}
use Rattle.type_core.specs.declared.library.Tycon.{Tycon}
use Rattle.type_core.specs.declared.library.Unit.{Unit}
use Rattle.type_core.specs.declared.library.UnitKind.{UnitKind}
use Rattle.type_core.specs.declared.library.UnitKind.TheVariants as unit
use Rattle.type_core.specs.declared.member.Kind.{Kind}
use Rattle.type_core.specs.declared.member.Kind.TheVariants as kind
use Rattle.type_core.specs.declared.member.Member.{Member}
use Rattle.type_core.specs.declared.names.Equality.{Equality}
use Rattle.type_core.specs.declared.names.Equality.TheVariants as equality
use Rattle.type_core.specs.declared.names.TypeName.{TypeName}
use Rattle.type_core.specs.declared.ty.Field.{Field}
use Rattle.type_core.specs.declared.ty.Scheme.{Scheme}
use Rattle.type_core.specs.declared.ty.Ty.{Ty}
use Rattle.type_core.specs.declared.ty.Ty.TheVariants as ty
use Rattle.type_core.specs.declared.ty.VarId.{VarId}
use Rattle.type_core.specs.InitialNames.{initial_names}
use Rattle.type_core.specs.Weight.{member_weight, name_weight, tycon_weight, unit_weight}

-- what is still to be read, and how much may be spent on it: nodes of a type, or weight of a library
pub record Rest : Type 0 where
  pub left : ℕ
  pub bytes : List ℕ

-- the reading of a value: it gives the value and what is then still to be read, or nothing where none stands there
abbrev pub Reader : Type 0 → Type 0
Reader A = Rest → Option (A × Rest)

infixl 10 ◌>>=◌
-- what comes of a value, where there is one
abbrev pub ◌>>=◌ : {A B : Type 0} → Option A → (A → Option B) → Option B
(Some x) >>= f = f x
None >>= f = None

-- what the code has still to read
abbrev pub rest_of : code.Rest → Rest
rest_of rest = record { left = rest.left; bytes = rest.bytes.now }

-- how code may fail at a reading: only where it gives nothing, or for want of memory
abbrev pub Fails : {A : Type 0} → IndexRefusal → Option A → Type 0
Fails refusal.NotAnIndex read = read ≡ None
Fails refusal.NoMemory read = ⊤

-- the code's answer is what the reading gives; want of memory is free
abbrev pub Reads : {A : Type 0} → Option (A × Rest) → Result (A × code.Rest) IndexRefusal → Type 0
Reads read (Ok x) = read ≡ Some (x.0, rest_of x.1)
Reads read (Err e) = Fails e read

-- the code's answer is what is then still to be read; want of memory is free
abbrev pub Spends : Option Rest → Result code.Rest IndexRefusal → Type 0
Spends read (Ok rest) = read ≡ Some (rest_of rest)
Spends read (Err e) = Fails e read

-- a number
unfoldable pub number_at : Reader ℕ
number_at rest =
    if nat_lt (length rest.bytes) 4 then None
    else Some (from_be_bytes w32 (take 4 rest.bytes), record { left = rest.left; bytes = drop 4 rest.bytes })

-- so many bytes
unfoldable pub bytes_of : ℕ → Reader (List ℕ)
bytes_of count rest =
    if nat_lt (length rest.bytes) count then None
    else Some (take count rest.bytes, record { left = rest.left; bytes = drop count rest.bytes })

-- bytes, after how many they are
unfoldable pub bytes_at : Reader (List ℕ)
bytes_at rest = number_at rest >>= λ count. bytes_of count.0 count.1

-- the byte at the front
abbrev pub front : ℕ → List ℕ → Option (ℕ × Rest)
front left [] = None
front left (b ∷ bytes) = Some (b, record { left = left; bytes = bytes })

-- what the byte at the front stands for
unfoldable pub coded : {A : Type 0} → (ℕ → Option A) → Reader A
coded value rest = front rest.left rest.bytes >>= λ byte. value byte.0 >>= λ x. Some (x, byte.1)

-- the truth value of a byte
abbrev pub flag_of : ℕ → Option Bool
flag_of zero = Some false
flag_of (suc zero) = Some true
flag_of (suc (suc b)) = None

-- the sort of unit of a byte
abbrev pub unit_of : ℕ → Option UnitKind
unit_of zero = Some unit.Sig
unit_of (suc zero) = Some unit.Str
unit_of (suc (suc b)) = None

-- when an application admits equality, by a byte
abbrev pub equality_of : ℕ → Option Equality
equality_of zero = Some equality.Never
equality_of (suc zero) = Some equality.IfArgs
equality_of (suc (suc b)) = None

-- the sort of member of a byte
abbrev pub kind_of : ℕ → Option Kind
kind_of zero = Some kind.Val
kind_of (suc zero) = Some kind.Con
kind_of (suc (suc zero)) = Some kind.Exn
kind_of (suc (suc (suc b))) = None

-- the form of a type of a byte
abbrev pub form_of : ℕ → Option Form
form_of zero = Some form.Variable
form_of (suc zero) = Some form.Application
form_of (suc (suc zero)) = Some form.Tuple
form_of (suc (suc (suc zero))) = Some form.Arrow
form_of (suc (suc (suc (suc zero)))) = Some form.Record
form_of (suc (suc (suc (suc (suc b))))) = None

-- so much spent, where it is left
unfoldable pub spent : ℕ → Rest → Option Rest
spent cost rest = if nat_lt rest.left cost then None else Some (record { left = rest.left - cost; bytes = rest.bytes })

-- a value whose cost is spent
unfoldable pub charged : {A : Type 0} → (A → ℕ) → Reader A → Reader A
charged cost read rest = read rest >>= λ x. spent (cost x.0) x.1 >>= λ after. Some (x.0, after)

-- so many values
unfoldable pub many : {A : Type 0} → Reader A → ℕ → Reader (List A)
many read zero rest = Some ([], rest)
many read (suc n) rest = read rest >>= λ x. many read n x.1 >>= λ xs. Some (x.0 ∷ xs.0, xs.1)

-- values, after how many they are
unfoldable pub list_at : {A : Type 0} → Reader A → Reader (List A)
list_at read rest = number_at rest >>= λ count. many read count.0 count.1

-- the marks that the code is told
abbrev pub told : Option (Bor (List Bool)) → Option (List Bool)
told None = None
told (Some marks) = Some marks.now

-- what is read, behind values that were read before
abbrev pub with_front : {A : Type 0} → List A → Option (List A × Rest) → Option (List A × Rest)
with_front front read = read >>= λ xs. Some (front ++ xs.0, xs.1)

-- the variable of a number: by its mark where marks are told, else one without mark
abbrev pub variable_of : Option (List Bool) → ℕ → Option VarId
variable_of None n = Some (record { n = n; eq = false })
variable_of (Some marks) n = slice_get marks n >>= λ mark. Some (record { n = n; eq = mark })

-- a field, by the reading of its type
unfoldable pub field_at : Reader Ty → Reader Field
field_at part rest = bytes_at rest >>= λ label. part label.1 >>= λ t. Some (record { label = label.0; ty = t.0 }, t.1)

-- a variable
unfoldable pub variable_at : Option (List Bool) → Reader Ty
variable_at marks rest = number_at rest >>= λ n. variable_of marks n.0 >>= λ v. Some (ty.Var v, n.1)

-- an application: as many arguments as the name takes
unfoldable pub application_at : List TypeName → Reader Ty → Reader Ty
application_at names part rest = number_at rest >>= λ n. slice_get names n.0 >>= λ name. many part name.arity n.1 >>=
    λ arguments. Some (ty.Con (record { 0 = n.0 }) arguments.0, arguments.1)

-- a tuple
unfoldable pub tuple_at : Reader Ty → Reader Ty
tuple_at part rest = list_at part rest >>= λ components. Some (ty.Tup components.0, components.1)

-- an arrow
unfoldable pub arrow_at : Reader Ty → Reader Ty
arrow_at part rest = part rest >>= λ from. part from.1 >>= λ to. Some (ty.Arrow from.0 to.0, to.1)

-- a record
unfoldable pub record_at : Reader Ty → Reader Ty
record_at part rest = list_at (field_at part) rest >>= λ fields. Some (ty.Rec fields.0, fields.1)

-- a type of a known form, by the reading of its parts
abbrev pub of_form : Form → List TypeName → Option (List Bool) → Reader Ty → Reader Ty
of_form form.Variable names marks part = variable_at marks
of_form form.Application names marks part = application_at names part
of_form form.Tuple names marks part = tuple_at part
of_form form.Arrow names marks part = arrow_at part
of_form form.Record names marks part = record_at part

-- a type of at most this height, each of whose nodes is spent
unfoldable pub type_at : List TypeName → Option (List Bool) → ℕ → Reader Ty
type_at names marks zero rest = None
type_at names marks (suc height) rest = spent 1 rest >>= λ after. coded form_of after >>= λ form.
    of_form form.0 names marks (type_at names marks height) form.1

-- a type of at most 2,000 nodes and height 200; what may be spent besides stays
unfoldable pub whole_type_at : List TypeName → Option (List Bool) → Reader Ty
whole_type_at names marks rest =
    type_at names marks 200 (record { left = 2000; bytes = rest.bytes }) >>= λ t.
    Some (t.0, record { left = rest.left; bytes = t.1.bytes })

-- a unit
unfoldable pub unit_at : Reader Unit
unit_at rest = coded unit_of rest >>= λ kind. bytes_at kind.1 >>= λ id. Some (record { kind = kind.0; id = id.0 }, id.1)

-- a name
unfoldable pub name_at : Reader TypeName
name_at rest =
    bytes_at rest >>= λ path. number_at path.1 >>= λ arity. coded equality_of arity.1 >>= λ equality.
    coded flag_of equality.1 >>= λ external.
    Some (record { path = path.0; arity = arity.0; equality = equality.0; external = external.0 }, external.1)

-- a type constructor
unfoldable pub tycon_at : List TypeName → Reader Tycon
tycon_at names rest =
    bytes_at rest >>= λ path. number_at path.1 >>= λ arity. whole_type_at names None arity.1 >>= λ body.
    Some (record { path = path.0; fun = record { arity = arity.0; body = body.0 } }, body.1)

-- a scheme
unfoldable pub scheme_at : List TypeName → Reader Scheme
scheme_at names rest =
    number_at rest >>= λ vars. many (coded flag_of) vars.0 vars.1 >>= λ marks. whole_type_at names
    (Some marks.0) marks.1 >>= λ body.
    Some (record { vars = vars.0; body = body.0 }, body.1)

-- a member
unfoldable pub member_at : List TypeName → Reader Member
member_at names rest =
    coded kind_of rest >>= λ kind. bytes_at kind.1 >>= λ path. scheme_at names path.1 >>= λ scheme.
    Some (record { kind = kind.0; path = path.0; scheme = scheme.0 }, scheme.1)

-- the names of a library, the initial ones before those that are read
unfoldable pub names_at : Reader (List TypeName)
names_at rest = with_front initial_names (list_at (charged name_weight name_at) rest)

-- at most 100,000 members
unfoldable pub members_at : List TypeName → Reader (List Member)
members_at names rest = number_at rest >>= λ count. if nat_lt 100000 count.0 then None else many
    (charged member_weight (member_at names)) count.0 count.1

-- the library whose parts stand behind the heading, and nothing behind them
unfoldable pub library_at : Reader Library
library_at rest =
    list_at (charged unit_weight unit_at) rest >>= λ units. names_at units.1 >>= λ names.
    list_at (charged tycon_weight (tycon_at names.0)) names.1 >>= λ tycons. members_at names.0 tycons.1 >>= λ members.
    if length members.1.bytes == 0
    then Some (record { units = units.0; names = names.0; tycons = tycons.0; members = members.0 }, members.1)
    else None
