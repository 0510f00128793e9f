-- The index text of a library.
use Rattle.std.specs.Prelude.{ℕ, Bool, true, false, List, [], ◌∷◌, ◌++◌, codes, length, map}
use Rattle.std.specs.Int.{to_be_bytes, w32}
use Rattle.type_core.specs.declared.library.Library.{Library}
use Rattle.type_core.specs.declared.library.Tycon.{Tycon}
use Rattle.type_core.specs.declared.library.Unit.{Unit}
use Rattle.type_core.specs.declared.library.UnitKind.{UnitKind}
use Rattle.type_core.specs.declared.library.UnitKind.TheVariants as unit
use Rattle.type_core.specs.declared.member.Kind.{Kind}
use Rattle.type_core.specs.declared.member.Kind.TheVariants as kind
use Rattle.type_core.specs.declared.member.Member.{Member}
use Rattle.type_core.specs.declared.names.Equality.{Equality}
use Rattle.type_core.specs.declared.names.Equality.TheVariants as equality
use Rattle.type_core.specs.declared.names.TypeName.{TypeName}
use Rattle.type_core.specs.declared.ty.Field.{Field}
use Rattle.type_core.specs.declared.ty.Scheme.{Scheme}
use Rattle.type_core.specs.declared.ty.Ty.{Ty}
use Rattle.type_core.specs.declared.ty.Ty.TheOpen.{Ty-F, Field-F, Var, Con, Rec, Tup, Arrow}
use Rattle.type_core.specs.declared.ty.Ty.TheFolds.{fold-Ty, fold-Field}
use Rattle.type_core.specs.Lists.{concatenated}
use Rattle.type_core.specs.ValidLibrary.{own_names}
use Rattle.type_core.specs.Variables.{by_first_occurrence}

-- a number below 2^32: its four bytes, most significant first
abbrev pub number_text : ℕ → List ℕ
number_text n = to_be_bytes w32 n

-- bytes: how many there are, and these
abbrev pub bytes_text : List ℕ → List ℕ
bytes_text bytes = number_text (length bytes) ++ bytes

-- a list: how many values there are, and the texts of these
abbrev pub list_text : {A : Type 0} → (A → List ℕ) → List A → List ℕ
list_text text values = number_text (length values) ++ concatenated (map text values)

-- a truth value: the byte 1 where it is true, else 0
abbrev pub flag : Bool → ℕ
flag true = 1
flag false = 0

-- a type: 0 and a variable's number; 1, a name's number and the arguments, which aren't counted; 2 and the list of
-- components; 3 and the two sides of an arrow; 4 and the list of fields
abbrev pub type_step : Ty-F (List ℕ) (List ℕ) → List ℕ
type_step (Var v) = 0 ∷ number_text v.n
type_step (Con name arguments) = 1 ∷ (number_text name.0 ++ concatenated arguments)
type_step (Tup components) = 2 ∷ (number_text (length components) ++ concatenated components)
type_step (Arrow from to) = 3 ∷ (from ++ to)
type_step (Rec fields) = 4 ∷ (number_text (length fields) ++ concatenated fields)

-- a field: its label, and its type
abbrev pub field_step : Field-F (List ℕ) (List ℕ) → List ℕ
field_step field = bytes_text field.label ++ field.ty

-- the text of a type, by its parts
abbrev pub type_text : Ty → List ℕ
type_text = fold-Ty (List ℕ) (List ℕ) type_step field_step

-- the text of a field, by its parts
abbrev pub field_text : Field → List ℕ
field_text = fold-Field (List ℕ) (List ℕ) type_step field_step

-- the byte of a sort of unit: 0 for a signature, 1 for a structure
abbrev pub unit_byte : UnitKind → ℕ
unit_byte unit.Sig = 0
unit_byte unit.Str = 1

-- a unit: its sort, and its identifier
abbrev pub unit_text : Unit → List ℕ
unit_text u = unit_byte u.kind ∷ bytes_text u.id

-- when an application admits equality: 0 for never, 1 for where the arguments do, 2 for always (initial names alone)
abbrev pub equality_byte : Equality → ℕ
equality_byte equality.Never = 0
equality_byte equality.IfArgs = 1
equality_byte equality.Always = 2

-- a name: its path, its arity, when it admits equality, and whether it is external
abbrev pub name_text : TypeName → List ℕ
name_text name = bytes_text name.path ++ (number_text name.arity
    ++ equality_byte name.equality ∷ flag name.external ∷ [])

-- a type constructor: its path, and the arity and the body of its type function
abbrev pub tycon_text : Tycon → List ℕ
tycon_text tycon = bytes_text tycon.path ++ (number_text tycon.fun.arity ++ type_text tycon.fun.body)

-- for each variable of a scheme, in the order of their numbers, whether it has the mark
abbrev pub marks : Scheme → List Bool
marks scheme = map (λ v. v.eq) (by_first_occurrence scheme.body)

-- a scheme: its marks, and its body
abbrev pub scheme_text : Scheme → List ℕ
scheme_text scheme = list_text (λ mark. flag mark ∷ []) (marks scheme) ++ type_text scheme.body

-- the byte of a sort of member: 0 for a value, 1 for a constructor, 2 for an exception
abbrev pub kind_byte : Kind → ℕ
kind_byte kind.Val = 0
kind_byte kind.Con = 1
kind_byte kind.Exn = 2

-- a member: its sort, its path, and its scheme
abbrev pub member_text : Member → List ℕ
member_text member = kind_byte member.kind ∷ (bytes_text member.path ++ scheme_text member.scheme)

-- the bytes with which an index begins
abbrev pub heading : List ℕ
heading = codes "isosrch1"

-- the index text of a library: the heading, its units, its own names, its type constructors, and its members
unfoldable pub index_text : Library → List ℕ
index_text library =
    heading ++ (list_text unit_text library.units ++ (list_text name_text (own_names library)
    ++ (list_text tycon_text library.tycons ++ list_text member_text library.members)))
