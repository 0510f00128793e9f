-- The stages in which a text is read: its tokens, the phrase that they are, and what the phrase means. The first that fails refuses the text.
use Rattle.std.specs.Prelude.{◌≡◌, ℕ, ◌≤◌, List, ⊤, length, slice_get, Option, Some, None, Result, Ok, Err, IfSome}
use Rattle.std.specs.Option.{option_map_or}
use Rattle.sml_lexer.specs.declared.token.LexRefusal.{LexRefusal}
use Rattle.sml_lexer.specs.declared.token.LexRefusal.TheVariants as lexical
use Rattle.sml_lexer.specs.declared.token.Token.{Token}
use Rattle.sml_lexer.specs.Refusals.{Refuses as RefusesText}
use Rattle.sml_lexer.specs.Tokens.{tokens as tokens_of}
use Rattle.ty_parser.specs.declared.sort.Sort.{Sort}
use Rattle.ty_parser.specs.declared.tree.ParseRefusal.{ParseRefusal}
use Rattle.ty_parser.specs.declared.tree.ParseRefusal.TheVariants as parsing
use Rattle.ty_parser.specs.Phrases.{IsShallow, Refuses as RefusesSorts}
use Rattle.ty_parser.specs.Sorts.{sorts_of}
use Rattle.elab_types.specs.declared.fault.TextFault.{TextFault}
use Rattle.elab_types.specs.declared.fault.TextFault.TheVariants as fault
use Rattle.elab_types.specs.declared.fault.TextRefusal.{TextRefusal}
use Rattle.elab_types.specs.declared.fault.TextRefusal.TheVariants as text
use Rattle.elab_types.specs.Outcome.{Outcome}
use Rattle.elab_types.specs.Sources.{texts_of}

-- what is wrong with a text, and at which byte
pub record Flaw (Why : Type 0) : Type 0 where
  pub why : Why
  pub place : ℕ

-- a text in which this is wrong at a byte has no meaning
abbrev pub refused : {Why Meaning : Type 0} → Why → ℕ → Result Meaning (Flaw Why)
refused why place = Err (record { why = why; place = place })

-- a kind of text: its phrases; what a phrase means by the texts of all tokens, or the first condition that fails; and what is said of a fault of the text itself
pub record Language (Why Tree Meaning : Type 0) : Type 1 where
  pub phrase : List Sort → Tree → Type 0
  pub meaning : List (List ℕ) → Tree → Outcome Why Meaning
  pub of_text : TextFault → Why

-- the byte at which a token starts, or the end of the text past the last of them
abbrev pub start_of : List ℕ → List Token → ℕ → ℕ
start_of bytes tokens k = option_map_or (λ token. token.span.start) (slice_get tokens k) (length bytes)

-- a refusal of the lexer, with what is wrong
abbrev pub of_lexer : LexRefusal → TextRefusal
of_lexer (lexical.BadByte place) = text.Refused fault.BadByte place
of_lexer (lexical.OpenComment place) = text.Refused fault.OpenComment place
of_lexer (lexical.LongName place) = text.Refused fault.LongName place
of_lexer lexical.NoMemory = text.NoMemory

-- a refusal of a parser, with what is wrong and the byte of the token
abbrev pub of_parser : List ℕ → List Token → ParseRefusal → TextRefusal
of_parser bytes tokens (parsing.Syntax k) = text.Refused fault.Syntax (start_of bytes tokens k)
of_parser bytes tokens (parsing.TooDeep k) = text.Refused fault.TooDeep (start_of bytes tokens k)
of_parser bytes tokens parsing.NoMemory = text.NoMemory

-- what a phrase means, or the condition that failed and the byte of its token
abbrev pub placed : {Why Meaning : Type 0} → List ℕ → List Token → Outcome Why Meaning → Result Meaning (Flaw Why)
placed bytes tokens (Ok meaning) = Ok meaning
placed bytes tokens (Err failure) = refused failure.why (start_of bytes tokens failure.token)

-- what comes of a text: it has no tokens; or these are no phrase or nest too deep; or they are a phrase, which means something or doesn't
pub data Reads {Why Tree Meaning : Type 0} (language : Language Why Tree Meaning) (bytes : List ℕ) : Result Meaning (Flaw Why) → Type 0 where
  by_tokens : (refusal : LexRefusal) {wrong : TextFault} {place : ℕ} → RefusesText bytes refusal → of_lexer refusal ≡ text.Refused wrong place → Reads language bytes (refused (language.of_text wrong) place)
  by_phrase : (tokens : List Token) (refusal : ParseRefusal) {wrong : TextFault} {place : ℕ} → tokens_of bytes tokens → RefusesSorts language.phrase (sorts_of bytes tokens) refusal
      → of_parser bytes tokens refusal ≡ text.Refused wrong place → Reads language bytes (refused (language.of_text wrong) place)
  by_meaning : (tokens : List Token) (tree : Tree) → tokens_of bytes tokens → language.phrase (sorts_of bytes tokens) tree
      → IsShallow language.phrase 0 (sorts_of bytes tokens) (length tokens) → Reads language bytes (placed bytes tokens (language.meaning (texts_of bytes tokens) tree))

-- what a refusal of a text tells, where a fault of the text is said so; want of memory tells nothing
abbrev pub flaw_of_text : {Why : Type 0} → (TextFault → Why) → TextRefusal → Option (Flaw Why)
flaw_of_text said (text.Refused wrong place) = Some (record { why = said wrong; place = place })
flaw_of_text said text.NoMemory = None

-- an answer is one of these, where its refusals tell flaws; one that tells none, as want of memory, is free
abbrev pub Tells : {Why Meaning Refusal : Type 0} → (Refusal → Option (Flaw Why)) → (Result Meaning (Flaw Why) → Type 0) → Result Meaning Refusal → Type 0
Tells told comes (Ok meaning) = comes (Ok meaning)
Tells told comes (Err refusal) = IfSome (told refusal) (λ flaw. comes (Err flaw))

-- the place of a refusal is a byte of the text, or its end
abbrev pub IsWithin : List ℕ → TextRefusal → Type 0
IsWithin bytes (text.Refused wrong place) = place ≤ length bytes
IsWithin bytes text.NoMemory = ⊤
