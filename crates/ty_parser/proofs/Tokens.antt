-- What the tokens of a text are, one by one, from a place on.
use Rattle.std.proofs.Common.{◌≡◌, ℕ, ◌+◌, ◌<◌, ◌≤◌, List, length, get_or, drop, sym, ap, ◌∙◌, arith}
use Rattle.std.proofs.lemmas.List.{get_or-map, get_or-drop, length-map, length-drop}
use Rattle.std.proofs.lemmas.List.Elements.{All-get_or}
use Rattle.sml_lexer.specs.declared.token.Token.{Token}
use Rattle.sml_lexer.specs.Tokens.{tokens}
use Rattle.sml_lexer.proofs.Laws.{spans_inside}
use Rattle.ty_parser.specs.declared.sort.Sort.{Sort}
use Rattle.ty_parser.specs.declared.sort.Sort.TheVariants as s
use Rattle.ty_parser.specs.Sorts.{sort_of, sorts_of}

-- each of them stands in the text
pub span_inside : (bytes : List ℕ) (ts : List Token) (i : ℕ) (d : Token) → tokens bytes ts → i < length ts → ((get_or ts i d).span.start < (get_or ts i d).span.end) × ((get_or ts i d).span.end ≤ length bytes)
span_inside bytes ts i d are lt = All-get_or (λ t. (t.span.start < t.span.end) × (t.span.end ≤ length bytes)) ts i d lt (spans_inside bytes ts are)

module _ (bytes : List ℕ) (ts : List Token) (at n place : ℕ) (is : place ≡ at + n) where
  -- the sorts from a place on go on exactly as far as the tokens
  pub sort_within : place < length ts → n < length (drop at (sorts_of bytes ts))
  sort_within lt = omega (arith, lt, is, length-map ts (sort_of bytes), length-drop at (sorts_of bytes ts))

  pub sorts_end : at ≤ length ts → place ≡ length ts → n ≡ length (drop at (sorts_of bytes ts))
  sorts_end le e = omega (arith, le, e, is, length-map ts (sort_of bytes), length-drop at (sorts_of bytes ts))

  pub sort_is : (d : Token) (so : Sort) → place < length ts → so ≡ sort_of bytes (get_or ts place d) → so ≡ get_or (drop at (sorts_of bytes ts)) n s.Variable
  sort_is d so lt e =
      e ∙ sym (get_or-map (sort_of bytes) ts place d s.Variable lt) ∙ ap (λ i. get_or (sorts_of bytes ts) i s.Variable) is
      ∙ sym (get_or-drop at (sorts_of bytes ts) n s.Variable)
