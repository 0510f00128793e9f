-- The text of a type, as Standard ML writes it.
use Rattle.std.specs.Prelude.{ℕ, ◌+◌, ◌%◌, ◌/◌, Bool, true, false, if◌then◌else◌, List, [], ◌∷◌, ◌++◌, codes, decimal, nat_lt, Option, Some, None, slice_get}
use Rattle.type_core.specs.declared.ty.VarId.{VarId}
use Rattle.type_core.specs.declared.ty.Ty.{Ty}
use Rattle.type_core.specs.declared.ty.Field.{Field}
use Rattle.type_core.specs.declared.ty.Scheme.{Scheme}
use Rattle.type_core.specs.declared.names.TypeName.{TypeName}
use Rattle.type_core.specs.declared.ty.Ty.TheOpen.{Ty-F, Field-F, Var, Con, Rec, Tup, Arrow}
use Rattle.type_core.specs.declared.ty.Ty.TheFolds.{fold-Ty, fold-Field}
use Rattle.type_core.specs.declared.printing.Place.{Place}
use Rattle.type_core.specs.declared.printing.Place.TheVariants.{Free, Domain, Component}

-- a text for each place where a type may stand
abbrev pub Placed : Type 0
Placed = Place → List ℕ

-- an arrow stands in parentheses on the left of an arrow, in a tuple and as an argument
abbrev pub encloses_arrow : Place → Bool
encloses_arrow Free = false
encloses_arrow Domain = true
encloses_arrow Component = true

-- a tuple stands in parentheses in a tuple and as an argument
abbrev pub encloses_tuple : Place → Bool
encloses_tuple Free = false
encloses_tuple Domain = false
encloses_tuple Component = true

-- the text in parentheses, or as it is
abbrev pub enclosed_if : Bool → List ℕ → List ℕ
enclosed_if is_enclosed text = (if is_enclosed then codes "(" else []) ++ text ++ (if is_enclosed then codes ")" else [])

-- what follows the letter of variable n: how often the alphabet was gone through, from the second time on
abbrev pub round_text : ℕ → List ℕ
round_text n = if nat_lt n 26 then [] else decimal (n / 26)

-- `'`, or `''` with the mark, the letter of n mod 26, and n div 26 where n is at least 26
abbrev pub variable_text : VarId → List ℕ
variable_text v = (if v.eq then codes "''" else codes "'") ++ (97 + v.n % 26) ∷ round_text v.n

-- the path of a name, nothing where there is no such name
abbrev pub path_of : Option TypeName → List ℕ
path_of None = []
path_of (Some name) = name.path

-- the texts at a place, each with another text before it
abbrev pub preceded : List ℕ → Place → List Placed → List ℕ
preceded between place [] = []
preceded between place (part ∷ parts) = between ++ part place ++ preceded between place parts

-- the texts at a place, with another text between each two
abbrev pub separated : List ℕ → Place → List Placed → List ℕ
separated between place [] = []
separated between place (part ∷ parts) = part place ++ preceded between place parts

-- what stands before a name: nothing, its one argument, or more of them in parentheses
abbrev pub arguments_text : List Placed → List ℕ
arguments_text [] = []
arguments_text (argument ∷ []) = argument Component ++ codes " "
arguments_text (argument ∷ next ∷ arguments) = codes "(" ++ separated (codes ", ") Free (argument ∷ next ∷ arguments) ++ codes ") "

-- a tuple; that of no components is `unit` wherever it stands
abbrev pub tuple_text : List Placed → Placed
tuple_text [] place = codes "unit"
tuple_text (component ∷ components) place = enclosed_if (encloses_tuple place) (separated (codes " * ") Component (component ∷ components))

abbrev pub print_step : List TypeName → Ty-F Placed Placed → Placed
print_step names (Var v) place = variable_text v
print_step names (Con name arguments) place = arguments_text arguments ++ path_of (slice_get names name.0)
print_step names (Rec fields) place = codes "{" ++ separated (codes ", ") Free fields ++ codes "}"
print_step names (Tup components) place = tuple_text components place
print_step names (Arrow from to) place = enclosed_if (encloses_arrow place) (from Domain ++ codes " -> " ++ to Free)

abbrev pub print_field_step : Field-F Placed Placed → Placed
print_field_step field place = field.label ++ codes " : " ++ field.ty Free

-- the text of the type at a place
abbrev pub text_at : List TypeName → Ty → Placed
text_at names = fold-Ty Placed Placed (print_step names) print_field_step

-- the text of the field, at any place
abbrev pub field_text_at : List TypeName → Field → Placed
field_text_at names = fold-Field Placed Placed (print_step names) print_field_step

-- the text of the type standing alone
abbrev pub type_text : List TypeName → Ty → List ℕ
type_text names t = text_at names t Free

-- the text of the scheme: that of its body
abbrev pub scheme_text : List TypeName → Scheme → List ℕ
scheme_text names s = type_text names s.body
