-- What each stage of reading gives for a text.
use Rattle.std.proofs.Common.{◌≡◌, ℕ, List, length, refl, sym, ap, ◌∙◌, subst}
use Rattle.std.specs.Prelude.{Option, Some, None, Result, Ok, Err, IfSome}
use Rattle.sml_lexer.specs.declared.token.LexRefusal.{LexRefusal}
use Rattle.sml_lexer.specs.declared.token.LexRefusal.TheVariants as lexical
use Rattle.sml_lexer.specs.declared.token.Token.{Token}
use Rattle.sml_lexer.specs.Refusals.{Tells as TellsText}
use Rattle.sml_lexer.specs.Tokens.{tokens as tokens_of}
use Rattle.ty_parser.specs.declared.tree.ParseRefusal.{ParseRefusal}
use Rattle.ty_parser.specs.declared.tree.ParseRefusal.TheVariants as parsing
use Rattle.ty_parser.specs.Phrases.{IsShallow, Tells as TellsSorts}
use Rattle.ty_parser.specs.Sorts.{sorts_of}
use Rattle.elab_types.specs.declared.fault.TextRefusal.{TextRefusal}
use Rattle.elab_types.specs.Sources.{texts_of}
use Rattle.elab_types.specs.Stages.{Flaw, Language, Reads, Tells, by_meaning, by_phrase, by_tokens, flaw_of_text, of_lexer, of_parser, placed}

module _ {Why Tree Meaning : Type 0} (language : Language Why Tree Meaning) (bytes : List ℕ) where
  abbrev Refusing : Option (Flaw Why) → Type 0
  Refusing told = IfSome told (λ flaw. Reads language bytes (Err flaw))

  lexed : (r : LexRefusal) → TellsText bytes r → Refusing (flaw_of_text language.of_text (of_lexer r))
  lexed (lexical.BadByte at) tells = by_tokens (lexical.BadByte at) tells refl
  lexed (lexical.OpenComment at) tells = by_tokens (lexical.OpenComment at) tells refl
  lexed (lexical.LongName at) tells = by_tokens (lexical.LongName at) tells refl
  lexed lexical.NoMemory tells = tt

  parsed : (tokens : List Token) (r : ParseRefusal) → tokens_of bytes tokens → TellsSorts language.phrase (sorts_of bytes tokens) r → Refusing (flaw_of_text language.of_text (of_parser bytes tokens r))
  parsed tokens (parsing.Syntax k) are refused = by_phrase tokens (parsing.Syntax k) are refused refl
  parsed tokens (parsing.TooDeep k) are refused = by_phrase tokens (parsing.TooDeep k) are refused refl
  parsed tokens parsing.NoMemory are refused = tt

  -- a text without tokens is refused so
  pub no_tokens : (r : LexRefusal) (text : TextRefusal) (told : Option (Flaw Why)) → TellsText bytes r → text ≡ of_lexer r → told ≡ flaw_of_text language.of_text text → Refusing told
  no_tokens r text told tells is as_text = subst Refusing (sym (as_text ∙ ap (flaw_of_text language.of_text) is)) (lexed r tells)

  -- a text whose tokens are no phrase is refused so
  pub no_phrase : (tokens : List Token) (r : ParseRefusal) (text : TextRefusal) (told : Option (Flaw Why)) → tokens_of bytes tokens → TellsSorts language.phrase (sorts_of bytes tokens) r → text ≡ of_parser bytes tokens r
      → told ≡ flaw_of_text language.of_text text → Refusing told
  no_phrase tokens r text told are refused is as_text = subst Refusing (sym (as_text ∙ ap (flaw_of_text language.of_text) is)) (parsed tokens r are refused)

  -- a text whose tokens are a phrase means what the phrase means
  pub phrase_read : {Refusal : Type 0} (told : Refusal → Option (Flaw Why)) (tokens : List Token) (tree : Tree) (result : Result Meaning Refusal) → tokens_of bytes tokens → language.phrase (sorts_of bytes tokens) tree
      → IsShallow language.phrase 0 (sorts_of bytes tokens) (length tokens) → Tells told (λ r. placed bytes tokens (language.meaning (texts_of bytes tokens) tree) ≡ r) result → Tells told (Reads language bytes) result
  phrase_read told tokens tree (Ok meaning) are is shallow gives = subst (Reads language bytes) gives (by_meaning tokens tree are is shallow)
  phrase_read told tokens tree (Err refusal) are is shallow gives = by_case (told refusal) gives
    where
      by_case : (flaw : Option (Flaw Why)) → IfSome flaw (λ f. placed bytes tokens (language.meaning (texts_of bytes tokens) tree) ≡ Err f) → Refusing flaw
      by_case (Some flaw) same = subst (Reads language bytes) same (by_meaning tokens tree are is shallow)
      by_case None same = tt
