-- What no type has, the machine refuses.
use Rattle.std.proofs.Common.{◌≡◌, ℕ, Bool, true, false, None, refl}
use Rattle.sig_base.specs.declared.word.Word.TheVariants as w
use Rattle.ty_parser.specs.declared.sort.Sort.{Sort}
use Rattle.ty_parser.specs.declared.sort.Sort.TheVariants as s
use Rattle.ty_parser.specs.machine.Machine.{State, Want, Have, Brace, Label, Colon, Tycon, begin, want, leave, have, no_fields, brace, label, colon, tycon, step}

-- a type has tokens of this sort
abbrev pub is_type_sort : Sort → Bool
is_type_sort (s.Reserved w.KwLParen) = true
is_type_sort (s.Reserved w.KwRParen) = true
is_type_sort (s.Reserved w.KwLBrace) = true
is_type_sort (s.Reserved w.KwRBrace) = true
is_type_sort (s.Reserved w.KwComma) = true
is_type_sort (s.Reserved w.KwColon) = true
is_type_sort (s.Reserved w.KwArrow) = true
is_type_sort (s.Reserved word) = false
is_type_sort s.LongStar = false
is_type_sort _ = true

pub other_refused : (st : State) (i : ℕ) (so : Sort) → is_type_sort so ≡ false → step st (i, so) ≡ None
unfolding begin want leave have no_fields brace label colon tycon
other_refused (Want k) i (s.Reserved w.KwLParen) e = cc
other_refused (Want k) i (s.Reserved w.KwLBrace) e = cc
other_refused (Want k) i s.Variable e = cc
other_refused (Want k) i s.Alphanumeric e = cc
other_refused (Want k) i s.Symbolic e = cc
other_refused (Want k) i s.LongAlphanumeric e = cc
other_refused (Want k) i s.LongSymbolic e = cc
other_refused (Want k) i _ e = refl
other_refused (Have k a) i (s.Reserved w.KwArrow) e = cc
other_refused (Have k a) i (s.Reserved w.KwComma) e = cc
other_refused (Have k a) i (s.Reserved w.KwRParen) e = cc
other_refused (Have k a) i (s.Reserved w.KwRBrace) e = cc
other_refused (Have k a) i s.Star e = cc
other_refused (Have k a) i s.Alphanumeric e = cc
other_refused (Have k a) i s.Symbolic e = cc
other_refused (Have k a) i s.LongAlphanumeric e = cc
other_refused (Have k a) i s.LongSymbolic e = cc
other_refused (Have k a) i _ e = refl
other_refused (Brace k) i (s.Reserved w.KwRBrace) e = cc
other_refused (Brace k) i s.Star e = cc
other_refused (Brace k) i s.Alphanumeric e = cc
other_refused (Brace k) i s.Symbolic e = cc
other_refused (Brace k) i s.Numeral e = cc
other_refused (Brace k) i _ e = refl
other_refused (Label k fs) i s.Star e = cc
other_refused (Label k fs) i s.Alphanumeric e = cc
other_refused (Label k fs) i s.Symbolic e = cc
other_refused (Label k fs) i s.Numeral e = cc
other_refused (Label k fs) i _ e = refl
other_refused (Colon k fs j) i (s.Reserved w.KwColon) e = cc
other_refused (Colon k fs j) i _ e = refl
other_refused (Tycon k es) i s.Alphanumeric e = cc
other_refused (Tycon k es) i s.Symbolic e = cc
other_refused (Tycon k es) i s.LongAlphanumeric e = cc
other_refused (Tycon k es) i s.LongSymbolic e = cc
other_refused (Tycon k es) i _ e = refl
