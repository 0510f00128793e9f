-- The reports of a search and of a listing.
use Rattle.std.specs.Prelude.{ℕ, ◌<◌, Bool, if◌then◌else◌, List, [], ◌++◌, Option, Some, None, codes, decimal, length, slice_get}
use Rattle.std.specs.List.{All, flat_map}
use Rattle.type_core.specs.declared.library.Library.{Library}
use Rattle.type_core.specs.declared.member.Kind.{Kind}
use Rattle.type_core.specs.declared.member.Kind.TheVariants as kind
use Rattle.type_core.specs.declared.member.Member.{Member}
use Rattle.type_core.specs.declared.names.TypeName.{TypeName}
use Rattle.type_core.specs.Printing.{scheme_text, type_text}
use Rattle.linear_match.specs.declared.instance.Instance.{Instance}
use Rattle.conv_terms.specs.declared.term.Term.{Term}
use Rattle.conv_build.specs.declared.converters.Converters.{Converters}
use Rattle.conv_print.specs.Printing.{term_text}
use Rattle.search_core.specs.declared.answer.Details.{Details}
use Rattle.search_core.specs.declared.answer.Hit.{Hit}
use Rattle.search_core.specs.Search.{details_of}

-- the word for a kind of member
abbrev pub kind_word : Kind → List ℕ
kind_word kind.Val = codes "val"
kind_word kind.Con = codes "con"
kind_word kind.Exn = codes "exn"

-- the line of a member: KIND PATH : SCHEME
abbrev pub member_line : List TypeName → Member → List ℕ
member_line names member =
    kind_word member.kind ++ codes " " ++ member.path ++ codes " : " ++ scheme_text names member.scheme ++ codes "\n"

-- the line of the member, where there is one
abbrev pub line_of : List TypeName → Option Member → List ℕ
line_of names None = []
line_of names (Some member) = member_line names member

-- a line of two spaces, a word, and a term
abbrev pub term_line : List TypeName → List ℕ → Term → List ℕ
term_line names word t = codes "  " ++ word ++ codes " " ++ term_text names 0 t ++ codes "\n"

-- the lines of the converters, where there are any
abbrev pub converter_lines : List TypeName → Option Converters → List ℕ
converter_lines names None = []
converter_lines names (Some c) = term_line names (codes "to") c.to ++ term_line names (codes "from") c.from

-- the line of the instance, where there is one: two spaces, the word at, and its type
abbrev pub instance_line : List TypeName → Option Instance → List ℕ
instance_line names None = []
instance_line names (Some i) = codes "  at " ++ type_text names i.body ++ codes "\n"

-- the lines of what a hit tells besides its member: of the instance, and then of the converters
abbrev pub detail_lines : List TypeName → Details → List ℕ
detail_lines names details = instance_line names details.instance ++ converter_lines names details.conv

-- the entry of a hit: the line of its member, and the lines of what it tells besides, unless only names are asked for
abbrev pub entry_text : Library → Bool → Hit → List ℕ
entry_text library names_only hit =
    line_of library.names (slice_get library.members hit.member)
    ++ (if names_only then [] else detail_lines library.names (details_of hit))

-- last comes how many were found
abbrev pub count_text : ℕ → List ℕ
count_text count = decimal count ++ codes " found\n"

-- each hit is one of the library's members
abbrev pub AreMembers : Library → List Hit → Type 0
AreMembers library hits = All (λ hit. hit.member < length library.members) hits

-- the report of hits: their entries in order, and how many they are
abbrev pub report_text : Library → List Hit → Bool → List ℕ
report_text library hits names_only = flat_map (entry_text library names_only) hits ++ count_text (length hits)

-- the report of a whole library: the lines of its members in order, and how many they are
abbrev pub list_text : Library → List ℕ
list_text library = flat_map (member_line library.names) library.members ++ count_text (length library.members)
