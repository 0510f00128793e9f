-- The initial environment: what every file may use (the Definition, appendix C, and the Basis Library).
use Rattle.std.specs.Prelude.{ℕ, false, List, [], ◌∷◌, ◌++◌, codes}
use Rattle.type_core.specs.declared.member.Kind.TheVariants.{Con}
use Rattle.type_core.specs.declared.ty.Ty.{Ty}
use Rattle.type_core.specs.declared.ty.Ty.TheVariants as ty
use Rattle.elab_rules.specs.declared.entry.Entry.{Entry}
use Rattle.elab_rules.specs.declared.entry.Entry.TheVariants as entry
use Rattle.elab_rules.specs.Environments.{Environment}

-- the first variable, without mark
abbrev pub alpha : Ty
alpha = ty.Var (record { n = 0; eq = false })

-- the initial name of this number, without arguments and with one
abbrev pub constant : ℕ → Ty
constant n = ty.Con (record { 0 = n }) []

abbrev pub unary : ℕ → Ty → Ty
unary n argument = ty.Con (record { 0 = n }) (argument ∷ [])

abbrev pub pair : Ty → Ty → Ty
pair first second = ty.Tup (first ∷ second ∷ [])

abbrev pub arrow : Ty → Ty → Ty
arrow from to = ty.Arrow from to

-- a type constructor with the identifiers of its constructors
abbrev pub initial_type : List ℕ → ℕ → Ty → List (List ℕ) → Entry
initial_type id arity body constructors = entry.Tycon (record { id = id; fun = record { arity = arity; body = body }; constructors = constructors })

-- one that stands for an initial name of no arguments, or of one
abbrev pub base_type : List ℕ → ℕ → List (List ℕ) → Entry
base_type id n constructors = initial_type id 0 (constant n) constructors

abbrev pub unary_type : List ℕ → ℕ → List (List ℕ) → Entry
unary_type id n constructors = initial_type id 1 (unary n alpha) constructors

-- `unit` is the tuple of none
abbrev pub unit_type : Entry
unit_type = initial_type (codes "unit") 0 (ty.Tup []) []

-- a constructor whose scheme has so many variables
abbrev pub constructor : List ℕ → ℕ → Ty → Entry
constructor id vars body = entry.Value (record { id = id; kind = Con; scheme = record { vars = vars; body = body } })

abbrev pub bool_type : Entry
bool_type = base_type (codes "bool") 7 (codes "false" ∷ codes "true" ∷ [])

abbrev pub order_type : Entry
order_type = base_type (codes "order") 8 (codes "LESS" ∷ codes "EQUAL" ∷ codes "GREATER" ∷ [])

abbrev pub list_type : Entry
list_type = unary_type (codes "list") 9 (codes "nil" ∷ codes "::" ∷ [])

abbrev pub ref_type : Entry
ref_type = unary_type (codes "ref") 10 (codes "ref" ∷ [])

abbrev pub option_type : Entry
option_type = unary_type (codes "option") 11 (codes "NONE" ∷ codes "SOME" ∷ [])

abbrev pub cons_constructor : Entry
cons_constructor = constructor (codes "::") 1 (arrow (pair alpha (unary 9 alpha)) (unary 9 alpha))

abbrev pub base_types : Environment
base_types =
    base_type (codes "int") 0 []
    ∷ base_type (codes "word") 1 []
    ∷ base_type (codes "real") 2 []
    ∷ base_type (codes "char") 3 []
    ∷ base_type (codes "string") 4 []
    ∷ base_type (codes "substring") 5 []
    ∷ base_type (codes "exn") 6 []
    ∷ bool_type
    ∷ order_type
    ∷ []

abbrev pub unary_types : Environment
unary_types =
    list_type
    ∷ ref_type
    ∷ option_type
    ∷ unary_type (codes "vector") 12 []
    ∷ unary_type (codes "array") 13 []
    ∷ unit_type
    ∷ []

abbrev pub base_constructors : Environment
base_constructors =
    constructor (codes "false") 0 (constant 7)
    ∷ constructor (codes "true") 0 (constant 7)
    ∷ constructor (codes "LESS") 0 (constant 8)
    ∷ constructor (codes "EQUAL") 0 (constant 8)
    ∷ constructor (codes "GREATER") 0 (constant 8)
    ∷ []

abbrev pub unary_constructors : Environment
unary_constructors =
    constructor (codes "nil") 1 (unary 9 alpha)
    ∷ cons_constructor
    ∷ constructor (codes "ref") 1 (arrow alpha (unary 10 alpha))
    ∷ constructor (codes "NONE") 1 (unary 11 alpha)
    ∷ constructor (codes "SOME") 1 (arrow alpha (unary 11 alpha))
    ∷ []

-- the initial types, `unit`, and the constructors of the initial datatypes
unfoldable pub initial_environment : Environment
initial_environment = base_types ++ unary_types ++ base_constructors ++ unary_constructors
