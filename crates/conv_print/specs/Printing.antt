-- The text of a term, as an expression of Standard ML.
use Rattle.std.specs.Prelude.{ℕ, ◌+◌, Bool, true, false, List, ◌++◌, codes, decimal}
use Rattle.std.specs.List.{join_by}
use Rattle.type_core.specs.declared.names.TypeName.{TypeName}
use Rattle.type_core.specs.Printing.{enclosed_if, type_text}
use Rattle.conv_terms.specs.declared.term.Term.{Term}
use Rattle.conv_terms.specs.declared.term.Term.TheOpen.{Term-F, Var, Lam, App, Tup, Proj}
use Rattle.conv_terms.specs.declared.term.Term.TheFolds.{fold-Term}
use Rattle.conv_print.specs.declared.place.Place.{Place}
use Rattle.conv_print.specs.declared.place.Place.TheVariants.{Free, Function, Argument}

-- a text for each number of abstractions around it and each place where a term may stand
abbrev pub Placed : Type 0
Placed = ℕ → Place → List ℕ

-- an abstraction stands in parentheses as a function and as an argument
abbrev pub encloses_abstraction : Place → Bool
encloses_abstraction Free = false
encloses_abstraction Function = true
encloses_abstraction Argument = true

-- an application and a projection stand in parentheses as an argument
abbrev pub encloses_application : Place → Bool
encloses_application Free = false
encloses_application Function = false
encloses_application Argument = true

-- variable n is `x` and n + 1
abbrev pub variable_text : ℕ → List ℕ
variable_text n = codes "x" ++ decimal (n + 1)

-- the variable that an abstraction binds under `depth` others, with its type: `fn (xK : TYPE) => `
abbrev pub binder_text : ℕ → List ℕ → List ℕ
binder_text depth type_of_it = codes "fn (" ++ variable_text depth ++ codes " : " ++ type_of_it ++ codes ") => "

-- the components in parentheses, with a comma between each two
abbrev pub tuple_text : List Placed → ℕ → List ℕ
tuple_text components depth = codes "(" ++ join_by (λ component. component depth Free) (codes ", ") components ++ codes ")"

abbrev pub text_step : List TypeName → Term-F Placed → Placed
text_step names (Var n) depth place = variable_text n
text_step names (Lam a body) depth place =
    enclosed_if (encloses_abstraction place) (binder_text depth (type_text names a) ++ body (depth + 1) Free)
text_step names (App function argument) depth place =
    enclosed_if (encloses_application place) (function depth Function ++ codes " " ++ argument depth Argument)
text_step names (Tup components) depth place = tuple_text components depth
text_step names (Proj i n e) depth place =
    enclosed_if (encloses_application place) (codes "#" ++ decimal i ++ codes " " ++ e depth Argument)

-- the text of the term under so many abstractions, at a place
abbrev pub text_at : List TypeName → Term → Placed
text_at names = fold-Term Placed (text_step names)

-- the text of the term standing alone, under so many abstractions
abbrev pub term_text : List TypeName → ℕ → Term → List ℕ
term_text names depth t = text_at names t depth Free
