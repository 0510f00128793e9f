-- A text has one reading: one list of tokens, or one cause at one place for which reading stops.
use Rattle.std.proofs.Common.{◌≡◌, ℕ, ◌+◌, ◌<◌, ◌≤◌, List, [], ◌∷◌, length, slice_index, refl, ap, sym, subst, arith}
use Rattle.std.specs.List.{All, between}
use Rattle.std.proofs.lemmas.List.{get_or_past}
use Rattle.std.proofs.lemmas.List.Elements.{All-nil, All-cons, All-weaker}
use Rattle.sig_base.specs.LongIdentifiers.{HasShortParts}
use Rattle.sml_lexer.specs.declared.token.LexRefusal.{LexRefusal}
use Rattle.sml_lexer.specs.declared.token.LexRefusal.TheVariants as refusal
use Rattle.sml_lexer.specs.declared.token.Token.{Token}
use Rattle.sml_lexer.specs.declared.token.TokenKind.{TokenKind}
use Rattle.sml_lexer.specs.Comments.{OpensAt, IsNeverClosed}
use Rattle.sml_lexer.specs.Refusals.{IsReached, IsBadByte, IsOpenComment, IsLongName, Refuses}
use Rattle.sml_lexer.specs.Tokens.{IsSeparator, IsTokenAt, IsGap, no_gap, a_separator, a_comment, Reads, text_of, tokens, AreInOrder}
use Rattle.sml_lexer.proofs.Sorts.{sort, sort-letter, sort-symbol, sort-digit, sort-separator}
use Rattle.sml_lexer.proofs.Shapes.{Shape, a_word, a_long, a_symbol, a_variable, a_numeral, a_mark, the_dots, stands_shape}
use Rattle.sml_lexer.proofs.Maximal.{apart}
use Rattle.sml_lexer.proofs.OneKind.{one_end, one_kind}
use Rattle.sml_lexer.proofs.Nesting.{comment_opens, comment_same, byte_within}
use Rattle.sml_lexer.proofs.Reading.{gap_order}

shape_separates : (bytes : List ℕ) (at end : ℕ) → Shape bytes at end → IsSeparator (slice_index bytes at) → ⊥
shape_separates bytes at end (a_word led) h = apart (slice_index bytes at) 0 1 (sort-separator (slice_index bytes at) h) (sort-letter (slice_index bytes at) led.head) (λ e. omega arith)
shape_separates bytes at end (a_long l _) h = apart (slice_index bytes at) 0 1 (sort-separator (slice_index bytes at) h) (sort-letter (slice_index bytes at) l) (λ e. omega arith)
shape_separates bytes at end (a_symbol led) h = apart (slice_index bytes at) 0 2 (sort-separator (slice_index bytes at) h) (sort-symbol (slice_index bytes at) led.head) (λ e. omega arith)
shape_separates bytes at end (a_variable led) h = apart (slice_index bytes at) 0 3 (sort-separator (slice_index bytes at) h) (ap sort led.head) (λ e. omega arith)
shape_separates bytes at end (a_numeral led) h = apart (slice_index bytes at) 0 4 (sort-separator (slice_index bytes at) h) (sort-digit (slice_index bytes at) led.head.0 led.head.1) (λ e. omega arith)
shape_separates bytes at end (a_mark led) h = apart (slice_index bytes at) 0 5 (sort-separator (slice_index bytes at) h) led.head (λ e. omega arith)
shape_separates bytes at end (the_dots led _) h = apart (slice_index bytes at) 0 6 (sort-separator (slice_index bytes at) h) (ap sort led.head) (λ e. omega arith)

token_separates : (bytes : List ℕ) (kind : TokenKind) (start end : ℕ) → IsTokenAt bytes kind start end → IsSeparator (slice_index bytes start) → ⊥
token_separates bytes kind start end token h = shape_separates bytes start end (stands_shape bytes start end token.0.within kind token.0.stands) h

-- no gap goes on from there
abbrev NoGapFrom : List ℕ → ℕ → Type 0
NoGapFrom bytes at = (IsSeparator (slice_index bytes at) → ⊥) × IsNeverClosed bytes at

-- nor does a token that is read
abbrev Stops : List ℕ → ℕ → Type 0
Stops bytes at = NoGapFrom bytes at × ((kind : TokenKind) (end : ℕ) → IsTokenAt bytes kind at end → ¬ (HasShortParts (between at end bytes)))

opens_no_separator : (b : ℕ) → b ≡ 40 → IsSeparator b → ⊥
opens_no_separator b e h = apart b 5 0 (ap sort e) (sort-separator b h) (λ e. omega arith)

gap_same : {bytes : List ℕ} {from a b : ℕ} → NoGapFrom bytes a → NoGapFrom bytes b → IsGap bytes from a → IsGap bytes from b → a ≡ b
gap_same no_a no_b (no_gap _) (no_gap _) = refl
gap_same no_a no_b (no_gap _) (a_separator one _) = absurd (no_a.0 one)
gap_same no_a no_b (no_gap _) (a_comment k _) = absurd (no_a.1 _ k)
gap_same no_a no_b (a_separator one _) (no_gap _) = absurd (no_b.0 one)
gap_same no_a no_b (a_separator _ gap) (a_separator _ more) = gap_same no_a no_b gap more
gap_same {bytes} no_a no_b (a_separator one _) (a_comment k _) = absurd (opens_no_separator _ (comment_opens bytes k).0 one)
gap_same no_a no_b (a_comment k _) (no_gap _) = absurd (no_b.1 _ k)
gap_same {bytes} no_a no_b (a_comment k _) (a_separator one _) = absurd (opens_no_separator _ (comment_opens bytes k).0 one)
gap_same {bytes} {from} {a} {b} no_a no_b (a_comment k gap) (a_comment l more) =
    gap_same no_a no_b gap (subst (λ (n : ℕ). IsGap bytes n b) (sym (comment_same bytes k l)) more)

token_ends_gap : (bytes : List ℕ) (kind : TokenKind) (start end : ℕ) → IsTokenAt bytes kind start end → NoGapFrom bytes start
token_ends_gap bytes kind start end token = (token_separates bytes kind start end token, λ further k. token.1 (comment_opens bytes k))

-- nothing stops before a token
no_stop : (bytes : List ℕ) (from a : ℕ) (u : Token) → IsGap bytes from a → Stops bytes a → IsGap bytes from u.span.start → IsTokenAt bytes u.kind u.span.start u.span.end → HasShortParts (text_of bytes u) → ⊥
no_stop bytes from a u gap stop more token short =
    let same : u.span.start ≡ a = gap_same (token_ends_gap bytes u.kind u.span.start u.span.end token) stop.0 more gap in
    stop.1 u.kind u.span.end
    (subst (λ (n : ℕ). IsTokenAt bytes u.kind n u.span.end) same token)
    (subst (λ (n : ℕ). HasShortParts (between n u.span.end bytes)) same short)

token_same : (bytes : List ℕ) (from : ℕ) (t u : Token) → IsGap bytes from t.span.start → IsTokenAt bytes t.kind t.span.start t.span.end → IsGap bytes from u.span.start → IsTokenAt bytes u.kind u.span.start u.span.end → t ≡ u
token_same bytes from t u s p r q =
    let start : t.span.start ≡ u.span.start = gap_same (token_ends_gap bytes t.kind t.span.start t.span.end p) (token_ends_gap bytes u.kind u.span.start u.span.end q) s r in
    let R : ℕ → Type 0 = λ n. IsTokenAt bytes u.kind n u.span.end in
    let q' = subst R (sym start) q in
    let end : t.span.end ≡ u.span.end = one_end bytes t.kind u.kind t.span.start t.span.end u.span.end p.0 q'.0 in
    let kind : t.kind ≡ u.kind = one_kind bytes t.kind u.kind t.span.start t.span.end u.span.end p.0 q'.0 in
    λ i. record { kind = kind i; span = record { start = start i; end = end i } }

one_reading : (bytes : List ℕ) (from : ℕ) (ts us : List Token) (a b : ℕ) → Reads bytes from ts a → Reads bytes from us b → Stops bytes a → Stops bytes b → (ts ≡ us) × (a ≡ b)
one_reading bytes from [] [] a b r q stop_a stop_b = (refl, gap_same stop_a.0 stop_b.0 r q)
one_reading bytes from [] (u ∷ us) a b r q stop_a stop_b = absurd (no_stop bytes from a u r stop_a q.0 q.1 q.2)
one_reading bytes from (t ∷ ts) [] a b r q stop_a stop_b = absurd (no_stop bytes from b t q stop_b r.0 r.1 r.2)
one_reading bytes from (t ∷ ts) (u ∷ us) a b r q stop_a stop_b =
    let same = token_same bytes from t u r.0 r.1 q.0 q.1 in
    let R : ℕ → Type 0 = λ n. Reads bytes n us b in
    let h = one_reading bytes t.span.end ts us a b r.3 (subst R (ap (λ (x : Token). x.span.end) (sym same)) q.3) stop_a stop_b in
    ((λ i. same i ∷ h.0 i), h.1)

zero_no_separator : (b : ℕ) → b ≡ 0 → IsSeparator b → ⊥
zero_no_separator b e h = grind arith

at_end : (bytes : List ℕ) → Stops bytes (length bytes)
at_end bytes = (
  (
    zero_no_separator (slice_index bytes (length bytes)) (get_or_past bytes (length bytes) 0 (omega arith)),
    λ end k. let h : length bytes < length bytes = byte_within bytes (length bytes) 40 (omega arith) (comment_opens bytes k).0 in omega arith,
  ),
  λ kind end token short. let begins = token.0.begins in let within = token.0.within in omega (arith, token.0.begins, token.0.within),
)

bad_byte_stops : (bytes : List ℕ) (at : ℕ) → IsBadByte bytes at → Stops bytes at
bad_byte_stops bytes at h = ((h.no_separator, λ end k. h.no_comment (comment_opens bytes k)), λ kind end token short. h.no_token kind end token)

open_comment_stops : (bytes : List ℕ) (at : ℕ) → IsOpenComment bytes at → Stops bytes at
open_comment_stops bytes at h = ((opens_no_separator (slice_index bytes at) h.0.0, h.1), λ kind end token short. token.1 h.0)

long_name_stops : (bytes : List ℕ) (at : ℕ) → IsLongName bytes at → Stops bytes at
long_name_stops bytes at h = (
  token_ends_gap bytes h.kind at h.end h.token,
  λ kind end token short.
      let end_is : end ≡ h.end = one_end bytes kind h.kind at end h.end token.0 h.token.0 in
      h.long (subst (λ (n : ℕ). HasShortParts (between at n bytes)) end_is short),
)

-- reading stops at one place
one_place : (bytes : List ℕ) (at other : ℕ) → IsReached bytes at → IsReached bytes other → Stops bytes at → Stops bytes other → at ≡ other
one_place bytes at other r q stop_r stop_q = (one_reading bytes 0 r.0 q.0 at other r.1 q.1 stop_r stop_q).1

-- a text has one list of tokens
pub one_list : (bytes : List ℕ) (ts us : List Token) → tokens bytes ts → tokens bytes us → ts ≡ us
one_list bytes ts us r q = (one_reading bytes 0 ts us (length bytes) (length bytes) r q (at_end bytes) (at_end bytes)).0

all_read : (bytes : List ℕ) (ts : List Token) (at : ℕ) → tokens bytes ts → IsReached bytes at → Stops bytes at → length bytes ≡ at
all_read bytes ts at r q stop = one_place bytes (length bytes) at (ts, r) q (at_end bytes) stop

-- a text that has tokens isn't refused
pub no_refusal : (bytes : List ℕ) (ts : List Token) (r : LexRefusal) → tokens bytes ts → Refuses bytes r → ⊥
no_refusal bytes ts (refusal.BadByte at) r h = let same = all_read bytes ts at r h.0 (bad_byte_stops bytes at h.1) in omega (arith, same, h.1.within)
no_refusal bytes ts (refusal.OpenComment at) r h =
    let same = all_read bytes ts at r h.0 (open_comment_stops bytes at h.1) in
    let within : at < length bytes = byte_within bytes at 40 (omega arith) h.1.0.0 in
    omega (arith, same)
no_refusal bytes ts (refusal.LongName at) r h =
    let same = all_read bytes ts at r h.0 (long_name_stops bytes at h.1) in
    omega (arith, same, h.1.token.0.begins, h.1.token.0.within)
no_refusal bytes ts refusal.NoMemory r h = h

-- the causes exclude each other at a place
no_comment_there : (bytes : List ℕ) (at other : ℕ) → at ≡ other → IsBadByte bytes at → IsOpenComment bytes other → ⊥
no_comment_there bytes at other same h k = h.no_comment (subst (OpensAt bytes) (sym same) k.0)

no_token_there : (bytes : List ℕ) (at other : ℕ) → at ≡ other → IsBadByte bytes at → IsLongName bytes other → ⊥
no_token_there bytes at other same h k = h.no_token k.kind k.end (subst (λ (n : ℕ). IsTokenAt bytes k.kind n k.end) (sym same) k.token)

no_comment_before : (bytes : List ℕ) (at other : ℕ) → at ≡ other → IsOpenComment bytes at → IsLongName bytes other → ⊥
no_comment_before bytes at other same h k = k.token.1 (subst (OpensAt bytes) same h.0)

-- a text is refused for one cause, at one place
pub one_refusal : (bytes : List ℕ) (r q : LexRefusal) → Refuses bytes r → Refuses bytes q → r ≡ q
one_refusal bytes (refusal.BadByte a) (refusal.BadByte b) h k = ap refusal.BadByte (one_place bytes a b h.0 k.0 (bad_byte_stops bytes a h.1) (bad_byte_stops bytes b k.1))
one_refusal bytes (refusal.BadByte a) (refusal.OpenComment b) h k = absurd (no_comment_there bytes a b (one_place bytes a b h.0 k.0 (bad_byte_stops bytes a h.1) (open_comment_stops bytes b k.1)) h.1 k.1)
one_refusal bytes (refusal.BadByte a) (refusal.LongName b) h k = absurd (no_token_there bytes a b (one_place bytes a b h.0 k.0 (bad_byte_stops bytes a h.1) (long_name_stops bytes b k.1)) h.1 k.1)
one_refusal bytes (refusal.OpenComment a) (refusal.BadByte b) h k = absurd (no_comment_there bytes b a (one_place bytes b a k.0 h.0 (bad_byte_stops bytes b k.1) (open_comment_stops bytes a h.1)) k.1 h.1)
one_refusal bytes (refusal.OpenComment a) (refusal.OpenComment b) h k = ap refusal.OpenComment (one_place bytes a b h.0 k.0 (open_comment_stops bytes a h.1) (open_comment_stops bytes b k.1))
one_refusal bytes (refusal.OpenComment a) (refusal.LongName b) h k = absurd (no_comment_before bytes a b (one_place bytes a b h.0 k.0 (open_comment_stops bytes a h.1) (long_name_stops bytes b k.1)) h.1 k.1)
one_refusal bytes (refusal.LongName a) (refusal.BadByte b) h k = absurd (no_token_there bytes b a (one_place bytes b a k.0 h.0 (bad_byte_stops bytes b k.1) (long_name_stops bytes a h.1)) k.1 h.1)
one_refusal bytes (refusal.LongName a) (refusal.OpenComment b) h k = absurd (no_comment_before bytes b a (one_place bytes b a k.0 h.0 (open_comment_stops bytes b k.1) (long_name_stops bytes a h.1)) k.1 h.1)
one_refusal bytes (refusal.LongName a) (refusal.LongName b) h k = ap refusal.LongName (one_place bytes a b h.0 k.0 (long_name_stops bytes a h.1) (long_name_stops bytes b k.1))
one_refusal bytes (refusal.BadByte a) refusal.NoMemory h k = absurd k
one_refusal bytes (refusal.OpenComment a) refusal.NoMemory h k = absurd k
one_refusal bytes (refusal.LongName a) refusal.NoMemory h k = absurd k
one_refusal bytes refusal.NoMemory q h k = absurd h

-- the token at its place, with no part of more than 255 bytes
abbrev IsRead : List ℕ → Token → Type 0
IsRead bytes t = IsTokenAt bytes t.kind t.span.start t.span.end × HasShortParts (text_of bytes t)

reads_each : (bytes : List ℕ) (from : ℕ) (ts : List Token) (to : ℕ) → Reads bytes from ts to → All (IsRead bytes) ts
reads_each bytes from [] to r = All-nil (IsRead bytes)
reads_each bytes from (t ∷ ts) to r = All-cons (IsRead bytes) t ts (r.1, r.2) (reads_each bytes t.span.end ts to r.3)

pub tokens_at_their_places : (bytes : List ℕ) (ts : List Token) → tokens bytes ts → All (IsRead bytes) ts
tokens_at_their_places bytes ts r = reads_each bytes 0 ts (length bytes) r

abbrev IsInside : List ℕ → Token → Type 0
IsInside bytes t = (t.span.start < t.span.end) × (t.span.end ≤ length bytes)

-- every token has bytes, and they lie in the text
pub spans_inside : (bytes : List ℕ) (ts : List Token) → tokens bytes ts → All (IsInside bytes) ts
spans_inside bytes ts r = All-weaker (IsRead bytes) (IsInside bytes) (λ t h. (h.0.0.begins, h.0.0.within)) ts (tokens_at_their_places bytes ts r)

-- later tokens begin behind the place from which they are read
reads_after : (bytes : List ℕ) (from before : ℕ) (ts : List Token) (to : ℕ) → before ≤ from → Reads bytes from ts to → All (λ t. before ≤ t.span.start) ts
reads_after bytes from before [] to low r = All-nil (λ (t : Token). before ≤ t.span.start)
reads_after bytes from before (t ∷ ts) to low r =
    let order : from ≤ t.span.start = gap_order bytes r.0 in
    let begins : t.span.start < t.span.end = r.1.0.begins in
    All-cons (λ (t : Token). before ≤ t.span.start) t ts (omega arith) (reads_after bytes t.span.end before ts to (omega arith) r.3)

reads_in_order : (bytes : List ℕ) (from : ℕ) (ts : List Token) (to : ℕ) → Reads bytes from ts to → AreInOrder ts
reads_in_order bytes from [] to r = tt
reads_in_order bytes from (t ∷ ts) to r = (reads_after bytes t.span.end t.span.end ts to (omega arith) r.3, reads_in_order bytes t.span.end ts to r.3)

-- they stand in order and don't overlap
pub spans_in_order : (bytes : List ℕ) (ts : List Token) → tokens bytes ts → AreInOrder ts
spans_in_order bytes ts r = reads_in_order bytes 0 ts (length bytes) r

reads_count : (bytes : List ℕ) (from : ℕ) (ts : List Token) (to : ℕ) → Reads bytes from ts to → from + length ts ≤ to
reads_count bytes from [] to r = let order : from ≤ to = gap_order bytes r in omega arith
reads_count bytes from (t ∷ ts) to r =
    let begins : t.span.start < t.span.end = r.1.0.begins in
    let order : from ≤ t.span.start = gap_order bytes r.0 in
    let rest : t.span.end + length ts ≤ to = reads_count bytes t.span.end ts to r.3 in
    omega arith

-- a text has at most as many tokens as bytes
pub tokens_count : (bytes : List ℕ) (ts : List Token) → tokens bytes ts → length ts ≤ length bytes
tokens_count bytes ts r = let h : 0 + length ts ≤ length bytes = reads_count bytes 0 ts (length bytes) r in omega arith
