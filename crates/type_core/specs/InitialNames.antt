-- The names of types that every file may use.
use Rattle.std.specs.Prelude.{ℕ, false, List, [], ◌∷◌, ◌++◌, codes}
use Rattle.type_core.specs.declared.names.Equality.{Equality}
use Rattle.type_core.specs.declared.names.Equality.TheVariants.{Never, IfArgs, Always}
use Rattle.type_core.specs.declared.names.TypeName.{TypeName}

-- a name that the language has
abbrev pub initial : List ℕ → ℕ → Equality → TypeName
initial path arity equality = record { path = path; arity = arity; equality = equality; external = false }

-- the base types, numbered from 0
abbrev pub base_names : List TypeName
base_names =
    initial (codes "int") 0 IfArgs
    ∷ initial (codes "word") 0 IfArgs
    ∷ initial (codes "real") 0 Never
    ∷ initial (codes "char") 0 IfArgs
    ∷ initial (codes "string") 0 IfArgs
    ∷ initial (codes "substring") 0 Never
    ∷ initial (codes "exn") 0 Never
    ∷ initial (codes "bool") 0 IfArgs
    ∷ initial (codes "order") 0 IfArgs
    ∷ []

-- the names of one argument, numbered from 9
abbrev pub unary_names : List TypeName
unary_names =
    initial (codes "list") 1 IfArgs
    ∷ initial (codes "ref") 1 Always
    ∷ initial (codes "option") 1 IfArgs
    ∷ initial (codes "vector") 1 IfArgs
    ∷ initial (codes "array") 1 Always
    ∷ []

-- the initial names in the order of their numbers
abbrev pub initial_names : List TypeName
initial_names = base_names ++ unary_names
