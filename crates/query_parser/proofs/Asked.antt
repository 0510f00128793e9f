-- What a query asks for, by what is found of its type.
use Rattle.std.proofs.Common.{◌≡◌, ℕ, ◌<◌, ◌≤◌, ◌^◌, min, List, length, Ok, sym, ◌∙◌, subst, arith}
use Rattle.sml_lexer.specs.declared.token.Token.{Token}
use Rattle.sml_lexer.specs.Tokens.{tokens as tokens_of}
use Rattle.ty_parser.specs.declared.tree.TyExp.{TyExp}
use Rattle.ty_parser.specs.Phrases.{Phrase}
use Rattle.ty_parser.specs.Sorts.{sorts_of}
use Rattle.type_core.specs.declared.library.Library.{Library}
use Rattle.type_core.specs.declared.names.TypeName.{TypeName}
use Rattle.type_core.specs.declared.ty.Scheme.{Scheme}
use Rattle.type_core.specs.declared.ty.Ty.{Ty}
use Rattle.type_core.specs.NormalSize.{normal_size_of}
use Rattle.type_core.specs.Renaming.{Renaming}
use Rattle.type_core.specs.Schemes.{closed, numbered_among}
use Rattle.type_core.specs.Size.{size_of}
use Rattle.type_core.specs.ValidLibrary.{IsValidLibrary}
use Rattle.type_core.specs.Variables.{by_first_occurrence}
use Rattle.type_core.proofs.Closed.{closed_is_scheme}
use Rattle.type_core.proofs.Renamed.{variables_bounded}
use Rattle.elab_types.specs.Sources.{texts_of}
use Rattle.elab_types.proofs.spelling.Tokens.{file_texts}
use Rattle.elab_types.proofs.spelling.Types.{type_spelled}
use Rattle.elab_types.proofs.Renamed.{as_normal, over_renamed, size_renamed, type_renamed}
use Rattle.query_parser.specs.Queries.{IsQuery}
use Rattle.query_parser.specs.Types.{typed}
use Rattle.query_parser.proofs.Typed.{IsTyped, typed_sound}

pub few_variables : (t : Ty) → size_of t ≤ 200 → length (by_first_occurrence t) < 2 ^ 32
few_variables t small = omega (arith, variables_bounded t, small)

-- ---- the normal form
pub narrow : (t : Ty) (n : ℕ) → n ≡ min (normal_size_of t) 0xffff_ffff_ffff_ffff → n ≤ 8000 → normal_size_of t ≤ 8000
narrow t n is small = omega (arith, is, small)

-- ---- the scheme
module _ (names : List TypeName) (t : Ty) (typed : IsTyped names t) (fits : normal_size_of t ≤ 8000) where
  abbrev numbering : Renaming
  numbering = numbered_among (by_first_occurrence t)

  closed_is_query : IsQuery names (closed t)
  closed_is_query = record {
    scheme = closed_is_scheme t;
    type = record { is_type = type_renamed numbering t ∙ typed.made.sound.over.is_type; over = over_renamed numbering names t ∙ typed.made.sound.over.over };
    nodes = subst (λ n. n ≤ 200) (sym (size_renamed numbering t)) typed.small;
    normal = subst (λ n. n ≤ 8000) (sym ((as_normal numbering t).normal)) fits;
  }

  pub is_query : (s : Scheme) → s ≡ closed t → IsQuery names s
  is_query s is = subst (IsQuery names) (sym is) closed_is_query

-- ---- a phrase
pub phrase_typed : (library : Library) → IsValidLibrary library → (bytes : List ℕ) (tokens : List Token) → tokens_of bytes tokens → (e : TyExp) → Phrase (sorts_of bytes tokens) e → (t : Ty)
    → typed e (record { texts = texts_of bytes tokens; library = library }) ≡ Ok t → IsTyped library.names t
phrase_typed library valid bytes tokens are e phrase t is = typed_sound library valid (texts_of bytes tokens) e (type_spelled (texts_of bytes tokens) phrase (file_texts bytes tokens are)).0 t is
