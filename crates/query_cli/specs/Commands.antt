-- The command of a list of words.
use Rattle.std.specs.Prelude.{ℕ, Bool, true, false, not, ◌&&◌, nat_le, if◌then◌else◌, List, [], ◌∷◌, codes, bytes_eq, Option, Some, None}
use Rattle.std.specs.Option.{option_and_then}
use Rattle.std.specs.Str.Parse.{digits_value}
use Rattle.sig_base.specs.Identifiers.{is_numeral}
use Rattle.query_cli.specs.Words.{are_among, has, options_of, values_of}
use Rattle.query_cli.specs.declared.command.Command.{Command}
use Rattle.query_cli.specs.declared.command.Command.TheVariants as command
use Rattle.query_cli.specs.declared.command.FindMode.{FindMode}
use Rattle.query_cli.specs.declared.command.FindMode.TheVariants as mode

-- the option that leaves converters and instances out
abbrev pub names : List ℕ
names = codes "--names"

-- the option that takes the one file as an index
abbrev pub from_index : List ℕ
from_index = codes "--from-index"

-- whether the values are files: one or more, and exactly one where it is an index
abbrev pub are_files : Bool → List (List ℕ) → Bool
are_files indexed [] = false
are_files indexed (file ∷ []) = true
are_files indexed (file ∷ next ∷ files) = not indexed

-- whether the word is a decimal number from 1 to 20,000, without sign or leading zero
abbrev pub is_count : List ℕ → Bool
is_count word = is_numeral word && nat_le (digits_value 10 word) 20000

-- `list FILE..`, with `--from-index`
abbrev pub listing_of : List (List ℕ) → List (List ℕ) → Option Command
listing_of options files =
    if are_among (from_index ∷ []) options && are_files (has options from_index) files
    then Some (command.Listing files (has options from_index))
    else None

-- `same QUERY FILE..`, `iso QUERY FILE..` or `general QUERY FILE..`, with `--names` and `--from-index`
abbrev pub find_of : FindMode → List (List ℕ) → List (List ℕ) → Option Command
find_of mode options [] = None
find_of mode options (query ∷ files) =
    if are_among (names ∷ from_index ∷ []) options && are_files (has options from_index) files
    then Some (command.Find mode query files (has options names) (has options from_index))
    else None

-- `index OUT FILE..`, without options
abbrev pub index_of : List (List ℕ) → List (List ℕ) → Option Command
index_of options [] = None
index_of options (out ∷ files) = if are_among [] options && are_files false files then Some (command.Index out files) else None

-- `gen N`, without options
abbrev pub gen_of : List (List ℕ) → List (List ℕ) → Option Command
gen_of options [] = None
gen_of options (number ∷ []) = if are_among [] options && is_count number then Some (command.Gen (digits_value 10 number)) else None
gen_of options (number ∷ next ∷ values) = None

-- the mode of a search that a word names
abbrev pub mode_of : List ℕ → Option FindMode
mode_of word =
    if bytes_eq word (codes "same") then Some mode.Same
    else if bytes_eq word (codes "iso") then Some mode.Iso
    else if bytes_eq word (codes "general") then Some mode.General
    else None

-- the command of a mode with these options and values
abbrev pub command_in : List ℕ → List (List ℕ) → List (List ℕ) → Option Command
command_in word options values =
    if bytes_eq word (codes "list") then listing_of options values
    else if bytes_eq word (codes "index") then index_of options values
    else if bytes_eq word (codes "gen") then gen_of options values
    else option_and_then (λ mode. find_of mode options values) (mode_of word)

-- the command of a list of words: the first is the mode, and the rest are its options and values
abbrev pub command_of : List (List ℕ) → Option Command
command_of [] = None
command_of (word ∷ words) = command_in word (options_of words) (values_of words)
