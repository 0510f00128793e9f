-- The lines for standard error.
use Rattle.std.specs.Prelude.{◌⊎◌, ℕ, List, ◌++◌, codes, decimal}
use Rattle.std.specs.Io.KnownBytes.{Appends}
use Rattle.sig_base.specs.Faults.{Rose}
use Rattle.sig_base.specs.Writing.{AppendsPart}
use Rattle.sml_lexer.specs.Places.{line_at, column_at}
use Rattle.elab_rules.specs.declared.refusal.Why.{Why}
use Rattle.elab_rules.specs.declared.refusal.Why.TheVariants as why
use Rattle.query_parser.specs.declared.refusal.QueryWhy.{QueryWhy}
use Rattle.query_parser.specs.declared.refusal.QueryWhy.TheVariants as query
use Rattle.lib_load.specs.declared.refusals.Fault.{Fault}
use Rattle.lib_load.specs.declared.refusals.Fault.TheVariants as fault
use Rattle.isosearch.specs.Outside.{Stream}

-- a line was added, or a part of it and the count of faults rose
abbrev pub Says : Stream → Stream → List ℕ → Type 0
Says before now line = Appends before.bytes now.bytes line ⊎ (Rose before.faults now.faults × AppendsPart before.bytes now.bytes line)

-- the words are no command
abbrev pub usage_line : List ℕ
usage_line = codes "usage: isosearch list|same|iso|general|index|gen\n"

-- memory was wanted
abbrev pub no_memory_line : List ℕ
no_memory_line = codes "out of memory\n"

-- writing to the output, or to this file, failed
abbrev pub not_written_line : List ℕ → List ℕ
not_written_line name = name ++ codes ": cannot be written\n"

-- the name of the output
abbrev pub output_name : List ℕ
output_name = codes "output"

-- reading this file failed
abbrev pub not_read_line : List ℕ → List ℕ
not_read_line file = file ++ codes ": cannot be read\n"

-- this file is longer than a source may be
abbrev pub too_long_line : List ℕ → List ℕ
too_long_line file = file ++ codes ": longer than 4194304 bytes\n"

-- this file is the index text of no library
abbrev pub no_index_line : List ℕ → List ℕ
no_index_line file = file ++ codes ": not an index\n"

-- this file is one too many
abbrev pub too_many_line : List ℕ → List ℕ
too_many_line file = file ++ codes ": more than 512 files\n"

-- what is said of a condition of elaboration that fails
abbrev pub why_text : Why → List ℕ
why_text why.Unbound = codes "unbound identifier"
why_text why.UnboundSignature = codes "unbound signature"
why_text why.WrongArity = codes "wrong number of type arguments"
why_text why.Duplicate = codes "described twice"
why_text why.FreeVariable = codes "type variable is not a parameter"
why_text why.RepeatedParameter = codes "type parameter repeated"
why_text why.NotFlexible = codes "type is not flexible"
why_text why.ArityClash = codes "arities differ"
why_text why.NeedsEquality = codes "type does not admit equality"
why_text why.BadRealization = codes "datatype needs a type name"
why_text why.LateUnit = codes "identifier was used for an external type"
why_text why.TypeTooLarge = codes "type has more than 2000 nodes"
why_text why.TypeTooHigh = codes "type is higher than 200"
why_text why.NormalTooLarge = codes "normal form has more than 8000 nodes"
why_text why.TooManyMembers = codes "more than 100000 members"
why_text why.LibraryTooLarge = codes "library is too large"

-- what is said of a fault of a file
abbrev pub fault_text : Fault → List ℕ
fault_text fault.BadByte = codes "unexpected byte"
fault_text fault.OpenComment = codes "comment is not closed"
fault_text fault.LongName = codes "name is longer than 255 bytes"
fault_text fault.Syntax = codes "syntax error"
fault_text fault.TooDeep = codes "nesting is too deep"
fault_text (fault.Elab why) = why_text why

-- what is said of a query that is refused: the same as of a file, where a file can be refused so
abbrev pub query_text : QueryWhy → List ℕ
query_text query.BadByte = fault_text fault.BadByte
query_text query.OpenComment = fault_text fault.OpenComment
query_text query.LongName = fault_text fault.LongName
query_text query.Syntax = fault_text fault.Syntax
query_text query.TooDeep = fault_text fault.TooDeep
query_text query.Unbound = why_text why.Unbound
query_text query.WrongArity = why_text why.WrongArity
query_text query.Duplicate = why_text why.Duplicate
query_text query.TooLarge = codes "query is too large"
query_text query.NormalTooLarge = why_text why.NormalTooLarge

-- a refusal in a source of this name, at a line and a column
abbrev pub refusal_at : List ℕ → ℕ → ℕ → List ℕ → List ℕ
refusal_at name line column text = name ++ codes ":" ++ decimal line ++ codes ":" ++ decimal column ++ codes ": " ++ text ++ codes "\n"

-- a refusal in a source of this name and these bytes, at the place of a byte
abbrev pub refusal_line : List ℕ → List ℕ → ℕ → List ℕ → List ℕ
refusal_line name bytes place text = refusal_at name (line_at bytes place) (column_at bytes place) text

-- the name of the query
abbrev pub query_name : List ℕ
query_name = codes "query"
