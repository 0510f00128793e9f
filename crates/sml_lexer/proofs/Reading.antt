-- What each step of `lex` keeps, and what it gives at the end.
use Rattle.std.proofs.Common.{◌≡◌, ℕ, ◌+◌, ◌<◌, ◌≤◌, List, [], ◌∷◌, ◌++◌, length, slice_index, sym, subst, arith}
use Rattle.std.specs.List.{between}
use Rattle.sig_base.specs.LongIdentifiers.{HasShortParts}
use Rattle.sml_lexer.specs.declared.token.LexRefusal.TheVariants as refusal
use Rattle.sml_lexer.specs.declared.token.Token.{Token}
use Rattle.sml_lexer.specs.declared.token.TokenKind.{TokenKind}
use Rattle.sml_lexer.specs.Comments.{OpensAt, IsCommentAt, IsNeverClosed}
use Rattle.sml_lexer.specs.Refusals.{Refuses}
use Rattle.sml_lexer.specs.Steps.{NothingAt}
use Rattle.sml_lexer.specs.Tokens.{IsSeparator, IsLongestAt, IsTokenAt, IsGap, no_gap, a_separator, a_comment, Reads, text_of}
use Rattle.sml_lexer.proofs.Nesting.{comment_order, comment_within}

module _ (bytes : List ℕ) where
  pub gap_order : {from to : ℕ} → IsGap bytes from to → from ≤ to
  gap_order (no_gap _) = omega arith
  gap_order (a_separator {at} {to} _ gap) = let h : at + 1 ≤ to = gap_order gap in omega arith
  gap_order (a_comment {at} {further} {to} k gap) = let h : further ≤ to = gap_order gap in let j : at < further = comment_order bytes k in omega arith

  pub gap_within : {from to : ℕ} → IsGap bytes from to → to ≤ length bytes
  gap_within (no_gap within) = within
  gap_within (a_separator _ gap) = gap_within gap
  gap_within (a_comment _ gap) = gap_within gap

  gap_join : {from at to : ℕ} → IsGap bytes from at → IsGap bytes at to → IsGap bytes from to
  gap_join (no_gap _) more = more
  gap_join (a_separator one gap) more = a_separator one (gap_join gap more)
  gap_join (a_comment k gap) more = a_comment k (gap_join gap more)

  reads_gap : (from : ℕ) (ts : List Token) (at to : ℕ) → Reads bytes from ts at → IsGap bytes at to → Reads bytes from ts to
  reads_gap from [] at to r gap = gap_join r gap
  reads_gap from (t ∷ ts) at to r gap = (r.0, r.1, r.2, reads_gap t.span.end ts at to r.3 gap)

  pub reads_nothing : (ts : List Token) → ts ≡ [] → Reads bytes 0 ts 0
  reads_nothing ts e = subst (λ (ts : List Token). Reads bytes 0 ts 0) (sym e) (no_gap (omega arith))

  pub reads_separator : (from : ℕ) (ts : List Token) (at : ℕ) → Reads bytes from ts at → at < length bytes → IsSeparator (slice_index bytes at) → Reads bytes from ts (at + 1)
  reads_separator from ts at r fits one = reads_gap from ts at (at + 1) r (a_separator one (no_gap (omega arith)))

  pub reads_comment : (from : ℕ) (ts : List Token) (at end : ℕ) → Reads bytes from ts at → IsCommentAt bytes at end → Reads bytes from ts end
  reads_comment from ts at end r k = reads_gap from ts at end r (a_comment k (no_gap (comment_within bytes k)))

  pub reads_push : (from : ℕ) (ts : List Token) (t : Token) → Reads bytes from ts t.span.start → IsTokenAt bytes t.kind t.span.start t.span.end → HasShortParts (text_of bytes t) → Reads bytes from (ts ++ t ∷ []) t.span.end
  reads_push from [] t r token short = (r, token, short, no_gap token.0.within)
  reads_push from (u ∷ us) t r token short = (r.0, r.1, r.2, reads_push u.span.end us t r.3 token short)

  reads_within : (from : ℕ) (ts : List Token) (to : ℕ) → Reads bytes from ts to → to ≤ length bytes
  reads_within from [] to r = gap_within r
  reads_within from (t ∷ ts) to r = reads_within t.span.end ts to r.3

  pub reads_all : (from : ℕ) (ts : List Token) (to : ℕ) → Reads bytes from ts to → length bytes ≤ to → Reads bytes from ts (length bytes)
  reads_all from ts to r h =
      let P : ℕ → Type 0 = λ n. Reads bytes from ts n in
      subst P (omega (arith, reads_within from ts to r)) r

  pub bad_byte_refused : (before : List Token) (at : ℕ) → Reads bytes 0 before at → at < length bytes → (IsSeparator (slice_index bytes at) → ⊥) → (OpensAt bytes at → ⊥) → NothingAt bytes at → Refuses bytes (refusal.BadByte at)
  bad_byte_refused before at r within no_separator no_comment none = (
    (before, r),
    record {
      within = within;
      no_separator = no_separator;
      no_comment = no_comment;
      no_token = λ kind end token. none kind end token.0.within token.0.stands;
    },
  )

  pub open_comment_refused : (before : List Token) (at : ℕ) → Reads bytes 0 before at → OpensAt bytes at → IsNeverClosed bytes at → Refuses bytes (refusal.OpenComment at)
  open_comment_refused before at r opens none = ((before, r), (opens, none))

  pub long_name_refused : (before : List Token) (at : ℕ) (kind : TokenKind) (end : ℕ) → Reads bytes 0 before at → IsLongestAt bytes kind at end → (OpensAt bytes at → ⊥) → ¬ (HasShortParts (between at end bytes)) → Refuses bytes (refusal.LongName at)
  long_name_refused before at kind end r longest no_comment long = (
    (before, r),
    record {
      kind = kind;
      end = end;
      token = (longest, no_comment);
      long = long;
    },
  )
