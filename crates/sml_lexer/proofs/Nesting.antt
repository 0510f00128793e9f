-- The comments that are open at a place, and where the outermost of them ends.
use Rattle.std.proofs.Common.{◌≡◌, ℕ, zero, suc, ◌+◌, ◌<◌, ◌≤◌, List, length, slice_index, refl, sym, subst, ap, arith}
use Rattle.std.proofs.lemmas.List.{get_or_past}
use Rattle.sml_lexer.specs.Comments.{OpensAt, ClosesAt, IsCommentAt, brackets, IsBodyAt, no_more, one_byte, one_comment}

-- the comment around `at` ends at `end`, or, where so many more comments are around it, the outermost of them
abbrev pub Ends : List ℕ → ℕ → ℕ → ℕ → Type 0
Ends bytes zero at end = (close : ℕ) × IsBodyAt bytes at close × ClosesAt bytes close × (close + 2 ≡ end)
Ends bytes (suc around) at end = (close : ℕ) × IsBodyAt bytes at close × ClosesAt bytes close × Ends bytes around (close + 2) end

module _ (bytes : List ℕ) where
  pub opens_no_close : (at : ℕ) → OpensAt bytes at → ClosesAt bytes at → ⊥
  opens_no_close at o c = omega (arith, o.0, c.0)

  pub comment_opens : {at end : ℕ} → IsCommentAt bytes at end → OpensAt bytes at
  comment_opens (brackets o _ _) = o

  -- a byte other than 0 stands in the text
  pub byte_within : (at b : ℕ) → 0 < b → slice_index bytes at ≡ b → at < length bytes
  byte_within at b some e =
      let out : length bytes ≤ at → ⊥ = λ h. let past : slice_index bytes at ≡ 0 = get_or_past bytes at 0 h in omega (arith, past, e) in
      omega arith

  mutual
    pub comment_order : {start end : ℕ} → IsCommentAt bytes start end → start < end
    comment_order (brackets {start} {close} o b c) = let h : start + 2 ≤ close = body_order b in omega arith

    body_order : {at end : ℕ} → IsBodyAt bytes at end → at ≤ end
    body_order no_more = omega arith
    body_order (one_byte {at} {end} _ _ b) = let h : at + 1 ≤ end = body_order b in omega arith
    body_order (one_comment {at} {further} {end} k b) = let h : further ≤ end = body_order b in let j : at < further = comment_order k in omega arith

  pub comment_within : {start end : ℕ} → IsCommentAt bytes start end → end ≤ length bytes
  comment_within (brackets {start} {close} o b c) = let h : close + 1 < length bytes = byte_within (close + 1) 41 (omega arith) c.1 in omega arith

  mutual
    pub comment_same : {start end other : ℕ} → IsCommentAt bytes start end → IsCommentAt bytes start other → end ≡ other
    comment_same (brackets _ b c) (brackets _ b' c') = ap (λ (k : ℕ). k + 2) (body_same b b' c c')

    body_same : {at close other : ℕ} → IsBodyAt bytes at close → IsBodyAt bytes at other → ClosesAt bytes close → ClosesAt bytes other → close ≡ other
    body_same no_more no_more c d = refl
    body_same no_more (one_byte _ no_close _) c d = absurd (no_close c)
    body_same {at} no_more (one_comment k _) c d = absurd (opens_no_close at (comment_opens k) c)
    body_same (one_byte _ no_close _) no_more c d = absurd (no_close d)
    body_same (one_byte _ _ b) (one_byte _ _ b') c d = body_same b b' c d
    body_same (one_byte no_open _ _) (one_comment k _) c d = absurd (no_open (comment_opens k))
    body_same {at} (one_comment k _) no_more c d = absurd (opens_no_close at (comment_opens k) d)
    body_same (one_comment k _) (one_byte no_open _ _) c d = absurd (no_open (comment_opens k))
    body_same {at} {close} {other} (one_comment k b) (one_comment k' b') c d =
        body_same b (subst (λ (n : ℕ). IsBodyAt bytes n other) (sym (comment_same k k')) b') c d

  -- one byte on
  byte_past : {at close : ℕ} → (OpensAt bytes at → ⊥) → (ClosesAt bytes at → ⊥) → IsBodyAt bytes at close → ClosesAt bytes close → IsBodyAt bytes (at + 1) close
  byte_past no_open no_close no_more c = absurd (no_close c)
  byte_past no_open no_close (one_byte _ _ b) c = b
  byte_past no_open no_close (one_comment k _) c = absurd (no_open (comment_opens k))

  pub byte_on : (around at end : ℕ) → (OpensAt bytes at → ⊥) → (ClosesAt bytes at → ⊥) → Ends bytes around (at + 1) end → Ends bytes around at end
  byte_on zero at end no_open no_close (close, b, c, rest) = (close, one_byte no_open no_close b, c, rest)
  byte_on (suc around) at end no_open no_close (close, b, c, rest) = (close, one_byte no_open no_close b, c, rest)

  pub byte_back : (around at end : ℕ) → (OpensAt bytes at → ⊥) → (ClosesAt bytes at → ⊥) → Ends bytes around at end → Ends bytes around (at + 1) end
  byte_back zero at end no_open no_close (close, b, c, rest) = (close, byte_past no_open no_close b c, c, rest)
  byte_back (suc around) at end no_open no_close (close, b, c, rest) = (close, byte_past no_open no_close b c, c, rest)

  -- one comment more is open
  opening_past : {at close : ℕ} → OpensAt bytes at → IsBodyAt bytes at close → ClosesAt bytes close → (inner : ℕ) × IsBodyAt bytes (at + 2) inner × ClosesAt bytes inner × IsBodyAt bytes (inner + 2) close
  opening_past {at} o no_more c = absurd (opens_no_close at o c)
  opening_past o (one_byte no_open _ _) c = absurd (no_open o)
  opening_past o (one_comment (brackets {close = inner} _ b d) rest) c = (inner, b, d, rest)

  opening_at : (around at end : ℕ) → OpensAt bytes at → Ends bytes (suc around) (at + 2) end → Ends bytes around at end
  opening_at zero at end o (inner, b, d, (close, rest, c, e)) = (close, one_comment (brackets o b d) rest, c, e)
  opening_at (suc around) at end o (inner, b, d, (close, rest, c, e)) = (close, one_comment (brackets o b d) rest, c, e)

  opened_at : (around at end : ℕ) → OpensAt bytes at → Ends bytes around at end → Ends bytes (suc around) (at + 2) end
  opened_at zero at end o (close, b, c, e) = let p = opening_past o b c in (p.0, p.1, p.2, (close, p.3, c, e))
  opened_at (suc around) at end o (close, b, c, e) = let p = opening_past o b c in (p.0, p.1, p.2, (close, p.3, c, e))

  pub opening_on : (around more at end : ℕ) → more ≡ suc around → OpensAt bytes at → Ends bytes more (at + 2) end → Ends bytes around at end
  opening_on around more at end e o ends = opening_at around at end o (subst (λ (n : ℕ). Ends bytes n (at + 2) end) e ends)

  pub opening_back : (around more at end : ℕ) → more ≡ suc around → OpensAt bytes at → Ends bytes around at end → Ends bytes more (at + 2) end
  opening_back around more at end e o ends = subst (λ (n : ℕ). Ends bytes n (at + 2) end) (sym e) (opened_at around at end o ends)

  -- the innermost comment is closed
  closing_past : {at close : ℕ} → ClosesAt bytes at → IsBodyAt bytes at close → at ≡ close
  closing_past d no_more = refl
  closing_past d (one_byte _ no_close _) = absurd (no_close d)
  closing_past {at} d (one_comment k _) = absurd (opens_no_close at (comment_opens k) d)

  pub closing_on : (around outer at end : ℕ) → around ≡ suc outer → ClosesAt bytes at → Ends bytes outer (at + 2) end → Ends bytes around at end
  closing_on around outer at end e d rest = subst (λ (n : ℕ). Ends bytes n at end) (sym e) (at, no_more, d, rest)

  closing_at : (outer at end : ℕ) → ClosesAt bytes at → Ends bytes (suc outer) at end → Ends bytes outer (at + 2) end
  closing_at outer at end d (close, b, c, rest) = subst (λ (k : ℕ). Ends bytes outer (k + 2) end) (sym (closing_past d b)) rest

  pub closing_back : (around outer at end : ℕ) → around ≡ suc outer → ClosesAt bytes at → Ends bytes around at end → Ends bytes outer (at + 2) end
  closing_back around outer at end e d ends = closing_at outer at end d (subst (λ (n : ℕ). Ends bytes n at end) e ends)

  pub last_on : (around at : ℕ) → around ≡ 0 → ClosesAt bytes at → Ends bytes around at (at + 2)
  last_on around at e d = subst (λ (n : ℕ). Ends bytes n at (at + 2)) (sym e) (at, no_more, d, refl)

  -- the comment that begins at a place, told by what is open behind its first bracket
  pub comment_on : (start end : ℕ) → OpensAt bytes start → Ends bytes 0 (start + 2) end → IsCommentAt bytes start end
  comment_on start end o (close, b, c, e) = subst (IsCommentAt bytes start) e (brackets o b c)

  pub comment_back : (start end : ℕ) → IsCommentAt bytes start end → Ends bytes 0 (start + 2) end
  comment_back start end (brackets {close = close} _ b c) = (close, b, c, refl)

  -- behind the text nothing ends
  past_end : {at close : ℕ} → length bytes ≤ at → IsBodyAt bytes at close → ClosesAt bytes close → ⊥
  past_end {at} {close} past b c = let h : close < length bytes = byte_within close 42 (omega arith) c.0 in let o : at ≤ close = body_order b in omega arith

  pub never_past : (around at end : ℕ) → length bytes ≤ at → Ends bytes around at end → ⊥
  never_past zero at end past (close, b, c, rest) = past_end past b c
  never_past (suc around) at end past (close, b, c, rest) = past_end past b c
