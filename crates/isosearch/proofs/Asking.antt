-- What words ask for: one file where it is an index, and a number from 1 to 20,000.
use Rattle.std.proofs.Common.{◌≡◌, ℕ, ◌+◌, ◌*◌, ◌-◌, ◌≤◌, Bool, true, false, not, ◌&&◌, if◌then◌else◌, IsTrue, nat_eq, nat_le, List, [], ◌∷◌, length, refl, subst, arith}
use Rattle.std.specs.Prelude.{⊤, Option, Some, None, bytes_eq, codes}
use Rattle.std.specs.Option.{option_and_then}
use Rattle.std.specs.Char.{digit_value}
use Rattle.std.specs.List.{list_all}
use Rattle.std.specs.Str.Parse.{digits_value, digits_value_after}
use Rattle.std.proofs.lemmas.Bool.{and_parts, false≢true, leb-true}
use Rattle.std.proofs.lemmas.Bool.Decides.{nat_tests}
use Rattle.sig_base.specs.Identifiers.{is_digit, is_numeral}
use Rattle.query_cli.specs.Commands.{are_files, command_of, find_of, from_index, gen_of, index_of, is_count, listing_of, mode_of, names}
use Rattle.query_cli.specs.Words.{are_among, has, options_of, values_of}
use Rattle.query_cli.specs.declared.command.Command.{Command}
use Rattle.query_cli.specs.declared.command.FindMode.{FindMode}
use Rattle.isosearch.specs.Asked.{CanBeAsked}

-- where there is a command, it can be asked
abbrev IfSound : Option Command → Type 0
IfSound None = ⊤
IfSound (Some asked) = CanBeAsked asked

if_sound : (test : Bool) (asked : Command) → (IsTrue test → CanBeAsked asked) → IfSound (if test then Some asked else None)
if_sound true asked sound = sound refl
if_sound false asked sound = tt

-- an index is one file
one_file : (indexed : Bool) (files : List (List ℕ)) → IsTrue (are_files indexed files) → IsTrue indexed → length files ≡ 1
one_file indexed [] are is = absurd (false≢true are)
one_file indexed (file ∷ []) are is = refl
one_file true (file ∷ next ∷ files) are is = absurd (false≢true are)
one_file false (file ∷ next ∷ files) are is = absurd (false≢true is)

listing_sound : (options files : List (List ℕ)) → IfSound (listing_of options files)
listing_sound options files = if_sound (are_among (from_index ∷ []) options && are_files (has options from_index) files) _
    (λ both. one_file (has options from_index) files (and_parts (are_among (from_index ∷ []) options) (are_files (has options from_index) files) both).1)

find_sound : (mode : FindMode) (options values : List (List ℕ)) → IfSound (find_of mode options values)
find_sound mode options [] = tt
find_sound mode options (query ∷ files) = if_sound (are_among (names ∷ from_index ∷ []) options && are_files (has options from_index) files) _
    (λ both. one_file (has options from_index) files (and_parts (are_among (names ∷ from_index ∷ []) options) (are_files (has options from_index) files) both).1)

index_sound : (options values : List (List ℕ)) → IfSound (index_of options values)
index_sound options [] = tt
index_sound options (out ∷ files) = if_sound (are_among [] options && are_files false files) _ (λ both. tt)

-- digits add to a number
no_less : (n : ℕ) (digits : List ℕ) → n ≤ digits_value_after 10 n digits
no_less n [] = omega arith
no_less n (digit ∷ digits) = let more = no_less (n * 10 + digit_value digit) digits in omega (arith, more)

first_digit : (digit : ℕ) → not (nat_eq digit 48) ≡ true → is_digit digit ≡ true → 1 ≤ 0 * 10 + digit_value digit
first_digit digit other is = grind (arith, nat_tests)

-- a numeral is 1 at least
numeral_some : (word : List ℕ) → IsTrue (is_numeral word) → 1 ≤ digits_value 10 word
numeral_some [] is = absurd (false≢true is)
numeral_some (digit ∷ digits) is =
    let both = and_parts (not (nat_eq digit 48)) (list_all is_digit (digit ∷ digits)) is in
    let first = and_parts (is_digit digit) (list_all is_digit digits) both.1 in
    let least = first_digit digit both.0 first.0 in
    let more = no_less (0 * 10 + digit_value digit) digits in
    omega (arith, least, more)

gen_sound : (options values : List (List ℕ)) → IfSound (gen_of options values)
gen_sound options [] = tt
gen_sound options (number ∷ []) = if_sound (are_among [] options && is_count number) _
    (λ both.
    let count = (and_parts (are_among [] options) (is_count number) both).1 in
    let parts = and_parts (is_numeral number) (nat_le (digits_value 10 number) 20000) count in
    (numeral_some number parts.0, leb-true (digits_value 10 number) 20000 parts.1))
gen_sound options (number ∷ next ∷ values) = tt

modes_sound : (mode : Option FindMode) (options values : List (List ℕ)) → IfSound (option_and_then (λ m. find_of m options values) mode)
modes_sound None options values = tt
modes_sound (Some mode) options values = find_sound mode options values

choice : (test : Bool) (some other : Option Command) → IfSound some → IfSound other → IfSound (if test then some else other)
choice true some other here there = here
choice false some other here there = there

command_sound : (words : List (List ℕ)) → IfSound (command_of words)
command_sound [] = tt
command_sound (word ∷ words) =
    let options = options_of words in
    let values = values_of words in
    choice (bytes_eq word (codes "list")) _ _ (listing_sound options values)
    (choice (bytes_eq word (codes "index")) _ _ (index_sound options values)
    (choice (bytes_eq word (codes "gen")) _ _ (gen_sound options values) (modes_sound (mode_of word) options values)))

-- what words ask for can be asked
pub can_be_asked : (words : List (List ℕ)) (asked : Command) → command_of words ≡ Some asked → CanBeAsked asked
can_be_asked words asked is = subst IfSound is (command_sound words)
