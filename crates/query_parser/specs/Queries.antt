-- The scheme that a query asks for.
use Rattle.std.specs.Prelude.{ℕ, ◌<◌, ◌≤◌, nat_le, List, length, Result, Ok}
use Rattle.ty_parser.specs.declared.tree.TyExp.{TyExp}
use Rattle.ty_parser.specs.Phrases.{Phrase}
use Rattle.type_core.specs.declared.library.Library.{Library}
use Rattle.type_core.specs.declared.names.TypeName.{TypeName}
use Rattle.type_core.specs.declared.ty.Scheme.{Scheme}
use Rattle.type_core.specs.declared.ty.Ty.{Ty}
use Rattle.type_core.specs.NormalSize.{normal_size_of}
use Rattle.type_core.specs.Schemes.{IsScheme, closed}
use Rattle.type_core.specs.Size.{size_of}
use Rattle.type_core.specs.Types.{IsTypeOver}
use Rattle.elab_types.specs.declared.fault.TextFault.{TextFault}
use Rattle.elab_types.specs.declared.fault.TextFault.TheVariants as fault
use Rattle.elab_types.specs.Outcome.{Outcome, and_then, checked}
use Rattle.elab_types.specs.Stages.{Flaw, Language, Reads, refused}
use Rattle.query_parser.specs.declared.refusal.QueryWhy.{QueryWhy}
use Rattle.query_parser.specs.declared.refusal.QueryWhy.TheVariants as why
use Rattle.query_parser.specs.Types.{typed}

-- the greatest number of bytes of a query
abbrev pub source_limit : ℕ
source_limit = 4194304

-- the scheme of a type whose normal form has at most 8,000 nodes; another one is refused at the query's first token
abbrev pub scheme_of : Ty → Outcome QueryWhy Scheme
scheme_of t = checked (nat_le (normal_size_of t) 8000) why.NormalTooLarge 0 (Ok (closed t))

-- what a type expression asks for: its type, closed over its variables
abbrev pub asked : Library → List (List ℕ) → TyExp → Outcome QueryWhy Scheme
asked library texts e = and_then (typed e (record { texts = texts; library = library })) scheme_of

-- how a query is refused for a fault of its text
abbrev pub of_text : TextFault → QueryWhy
of_text fault.BadByte = why.BadByte
of_text fault.OpenComment = why.OpenComment
of_text fault.LongName = why.LongName
of_text fault.Syntax = why.Syntax
of_text fault.TooDeep = why.TooDeep

-- a query over a library is a type, and asks for its scheme
abbrev pub queries : Library → Language QueryWhy TyExp Scheme
queries library = record { phrase = Phrase; meaning = asked library; of_text = of_text }

-- what comes of a query over a library: it is longer than a source may be, or is read
pub data Asks (library : Library) (query : List ℕ) : Result Scheme (Flaw QueryWhy) → Type 0 where
  long : source_limit < length query → Asks library query (refused why.TooLarge 0)
  short : {result : Result Scheme (Flaw QueryWhy)} → length query ≤ source_limit → Reads (queries library) query result → Asks library query result

-- a scheme that can be searched for: its body is a type over these names, of at most 200 nodes, and its normal form has at most 8,000
pub record IsQuery (names : List TypeName) (s : Scheme) : Type 0 where
  pub scheme : IsScheme s
  pub type : IsTypeOver names s.body
  pub nodes : size_of s.body ≤ 200
  pub normal : normal_size_of s.body ≤ 8000
