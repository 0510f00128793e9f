-- What letters deal and sort is all there; and lists that agree with others in parts are dealt and sorted into these.
use Rattle.std.proofs.Common.{◌≡◌, ◌⊎◌, inl, inr, ℕ, zero, suc, ◌+◌, ◌-◌, ◌<◌, ◌%◌, List, [], ◌∷◌, ◌++◌, length, replicate, refl, sym, ap, ◌∙◌, subst, arith}
use Rattle.std.proofs.Math.Nat.{add-mod_right, mod-eq_of_lt}
use Rattle.std.proofs.lemmas.List.{length-replicate}
use Rattle.type_core.specs.Lists.{concatenated}
use Rattle.iso_normal.specs.declared.factor.Factor.{Factor}
use Rattle.iso_normal.specs.declared.factor.Factor.TheViews.{out-Factor}
use Rattle.iso_normal.specs.Agreement.{Agree, AreAlike, Takes, first, later, none, more}
use Rattle.iso_normal.proofs.Agreeing.{agree_of_eq, alike_refl}
use Rattle.linear_match.specs.Splits.{Dealt, Sorted, dealt_more, dealt_none, keep, put_at, send, sorted_none}

pub no_more : {A : Type 0} {x : A} {xs : List A} → [] ≡ x ∷ xs → ⊥
no_more e = cc e

takes_middle : (f : Factor) (fs gs : List Factor) → Takes f (fs ++ f ∷ gs) (fs ++ gs)
takes_middle f [] gs = first gs
takes_middle f (g ∷ fs) gs = later g (takes_middle f fs gs)

takes_after : (gs : List Factor) {f : Factor} {fs rest : List Factor} → Takes f fs rest
    → Takes f (gs ++ fs) (gs ++ rest)
takes_after [] t = t
takes_after (g ∷ gs) t = later g (takes_after gs t)

-- what is sorted is all there
pub sorted_agrees : {letters : List ℕ} {fs sent kept : List Factor} → Sorted letters fs sent kept
    → Agree fs (sent ++ kept)
sorted_agrees sorted_none = none
sorted_agrees (send f s) = more (first _) (alike_refl f) (sorted_agrees s)
sorted_agrees (keep {sent} {kept} f s) = more (takes_middle f sent kept) (alike_refl f) (sorted_agrees s)

-- what is dealt is all there
length_put : (k : ℕ) (f : Factor) (pieces : List (List Factor)) → length (put_at k f pieces) ≡ length pieces
length_put k f [] = refl
length_put zero f (piece ∷ pieces) = refl
length_put (suc k) f (piece ∷ pieces) = ap suc (length_put k f pieces)

pub dealt_length : {n j : ℕ} {letters : List ℕ} {fs : List Factor} {pieces : List (List Factor)}
    → Dealt n j letters fs pieces → length pieces ≡ n
dealt_length {n} (dealt_none j) = length-replicate n []
dealt_length (dealt_more l f b d) = length_put _ f _ ∙ dealt_length d

put_takes : (k : ℕ) (f : Factor) (pieces : List (List Factor)) → k < length pieces
    → Takes f (concatenated (put_at k f pieces)) (concatenated pieces)
put_takes k f [] b = absurd (omega (b, arith))
put_takes zero f (piece ∷ pieces) b = first _
put_takes (suc k) f (piece ∷ pieces) b = takes_after piece (put_takes k f pieces (omega (b, arith)))

below : (j l n : ℕ) → l < n → (j + l) % n < n
below j l n b = grind (arith, b)

none_there : (n : ℕ) → ◌≡◌ {A = List Factor} [] (concatenated (replicate n []))
none_there zero = refl
none_there (suc n) = none_there n

pub dealt_agrees : {n j : ℕ} {letters : List ℕ} {fs : List Factor} {pieces : List (List Factor)}
    → Dealt n j letters fs pieces → Agree fs (concatenated pieces)
dealt_agrees {n} (dealt_none j) = agree_of_eq (none_there n)
dealt_agrees {n} {j} (dealt_more {pieces} l f b d) =
    more (put_takes _ f pieces (subst (λ m. (j + l) % n < m) (sym (dealt_length d)) (below j l n b)))
    (alike_refl f) (dealt_agrees d)

-- what is taken from two lists is taken from the one or the other
record FromFirst (g : Factor) (xs ys rest : List Factor) : Type 0 where
  left : List Factor
  taken : Takes g xs left
  is : rest ≡ left ++ ys

record FromSecond (g : Factor) (xs ys rest : List Factor) : Type 0 where
  left : List Factor
  taken : Takes g ys left
  is : rest ≡ xs ++ left

from_either : {g : Factor} (xs : List Factor) {ys rest : List Factor} → Takes g (xs ++ ys) rest
    → FromFirst g xs ys rest ⊎ FromSecond g xs ys rest
from_either [] {ys} {rest} t = inr (record { left = rest; taken = t; is = refl })
from_either (x ∷ xs) (first _) = inl (record { left = xs; taken = first xs; is = refl })
from_either (x ∷ xs) (later _ t) = elim (from_either xs t) [
  | inl a ↦ inl (record { left = x ∷ a.left; taken = later x a.taken; is = ap (λ r. x ∷ r) a.is })
  | inr b ↦ inr (record { left = b.left; taken = b.taken; is = ap (λ r. x ∷ r) b.is })
]

-- letters that sort a list into two that agree with these
pub record Sorting (fs xs ys : List Factor) : Type 0 where
  pub letters : List ℕ
  pub sent : List Factor
  pub kept : List Factor
  pub sorted : Sorted letters fs sent kept
  pub left : Agree sent xs
  pub right : Agree kept ys

sort_step : {f g : Factor} {fs xs ys rest : List Factor} → AreAlike (out-Factor f) (out-Factor g)
    → ((us vs : List Factor) → rest ≡ us ++ vs → Sorting fs us vs)
    → FromFirst g xs ys rest ⊎ FromSecond g xs ys rest → Sorting (f ∷ fs) xs ys
sort_step {f} {ys} s go (inl a) = let r = go a.left ys a.is in
    record {
      letters = 0 ∷ r.letters;
      sent = f ∷ r.sent;
      kept = r.kept;
      sorted = send f r.sorted;
      left = more a.taken s r.left;
      right = r.right;
    }
sort_step {f} {xs} s go (inr b) = let r = go xs b.left b.is in
    record {
      letters = 1 ∷ r.letters;
      sent = r.sent;
      kept = f ∷ r.kept;
      sorted = keep f r.sorted;
      left = r.left;
      right = more b.taken s r.right;
    }

sorting_none : (us vs : List Factor) → [] ≡ us ++ vs → Sorting [] us vs
sorting_none [] vs e = record {
  letters = [];
  sent = [];
  kept = [];
  sorted = sorted_none;
  left = none;
  right = agree_of_eq e;
}
sorting_none (u ∷ us) vs e = absurd (no_more e)

pub sorting : {fs gs : List Factor} → Agree fs gs → (xs ys : List Factor) → gs ≡ xs ++ ys → Sorting fs xs ys
sorting none xs ys e = sorting_none xs ys e
sorting (more {g} {rest} t s others) xs ys e =
    sort_step s (sorting others) (from_either xs (subst (λ l. Takes g l rest) e t))

-- list by list they agree
pub data AllAgree : List (List Factor) → List (List Factor) → Type 0 where
  all_none : AllAgree [] []
  all_more : {fs gs : List Factor} {pieces lists : List (List Factor)} → Agree fs gs → AllAgree pieces lists
      → AllAgree (fs ∷ pieces) (gs ∷ lists)

-- the list from which a factor is taken
record FromSome (g : Factor) (lists : List (List Factor)) (rest : List Factor) : Type 0 where
  place : ℕ
  bound : place < length lists
  left : List (List Factor)
  is : rest ≡ concatenated left
  same_length : length left ≡ length lists
  putting : (f : Factor) (pieces : List (List Factor)) → AreAlike (out-Factor f) (out-Factor g) → AllAgree pieces left
      → AllAgree (put_at place f pieces) lists

put_first : {g : Factor} {xs left : List Factor} {lists : List (List Factor)} → Takes g xs left
    → (f : Factor) (pieces : List (List Factor))
    → AreAlike (out-Factor f) (out-Factor g) → AllAgree pieces (left ∷ lists)
    → AllAgree (put_at zero f pieces) (xs ∷ lists)
put_first t f _ s (all_more a rest) = all_more (more t s a) rest

put_later : (g : Factor) {xs : List Factor} {left lists : List (List Factor)} (k : ℕ)
    → ((f : Factor) (pieces : List (List Factor)) → AreAlike (out-Factor f) (out-Factor g) → AllAgree pieces left
    → AllAgree (put_at k f pieces) lists)
    → (f : Factor) (pieces : List (List Factor)) → AreAlike (out-Factor f) (out-Factor g) → AllAgree pieces (xs ∷ left)
    → AllAgree (put_at (suc k) f pieces) (xs ∷ lists)
put_later g k p f _ s (all_more {pieces} a rest) = all_more a (p f pieces s rest)

from_which : {g : Factor} (xs : List Factor) (lists : List (List Factor)) {rest : List Factor}
    → ((left : List Factor) → Takes g (concatenated lists) left → FromSome g lists left)
    → FromFirst g xs (concatenated lists) rest ⊎ FromSecond g xs (concatenated lists) rest
    → FromSome g (xs ∷ lists) rest
from_which xs lists go (inl a) = record {
  place = zero;
  bound = omega arith;
  left = a.left ∷ lists;
  is = a.is;
  same_length = refl;
  putting = put_first a.taken;
}
from_which {g} xs lists go (inr b) = let r = go b.left b.taken in let l = r.bound in
    record {
      place = suc r.place;
      bound = omega (l, arith);
      left = xs ∷ r.left;
      is = b.is ∙ ap (λ fs. xs ++ fs) r.is;
      same_length = ap suc r.same_length;
      putting = put_later g r.place r.putting;
    }

from_some : {g : Factor} (lists : List (List Factor)) {rest : List Factor} → Takes g (concatenated lists) rest
    → FromSome g lists rest
from_some [] t = elim t [ ]
from_some (xs ∷ lists) t = from_which xs lists (λ left u. from_some lists u) (from_either xs t)

-- the letter by which factor number j goes to piece number k
pub record Letter (j n k : ℕ) : Type 0 where
  pub letter : ℕ
  pub bound : letter < n
  pub goes : (j + letter) % n ≡ k

pub letter_from : (j n k l : ℕ) → l < n → (j + l) % n ≡ k → Letter (suc j) n k
letter_from j n k zero b g = record {
  letter = n - 1;
  bound = omega (b, arith);
  goes = ap (λ m. m % n) (omega (b, arith)) ∙ add-mod_right j n ∙ ap (λ m. m % n) (omega arith) ∙ g;
}
letter_from j n k (suc l) b g = record {
  letter = l;
  bound = omega (b, arith);
  goes = ap (λ m. m % n) (omega arith)
      ∙ g;
}

letter_for : (j n k : ℕ) → k < n → Letter j n k
letter_for zero n k b = record { letter = k; bound = b; goes = ap (λ m. m % n) (omega arith) ∙ mod-eq_of_lt b }
letter_for (suc j) n k b = let r = letter_for j n k b in letter_from j n k r.letter r.bound r.goes

-- letters that deal a list to pieces that agree with these
pub record Dealing (n j : ℕ) (fs : List Factor) (lists : List (List Factor)) : Type 0 where
  pub letters : List ℕ
  pub pieces : List (List Factor)
  pub dealt : Dealt n j letters fs pieces
  pub agree : AllAgree pieces lists

all_empty : (lists : List (List Factor)) → [] ≡ concatenated lists → AllAgree (replicate (length lists) []) lists
all_empty [] e = all_none
all_empty ([] ∷ lists) e = all_more none (all_empty lists e)
all_empty ((x ∷ xs) ∷ lists) e = absurd (no_more e)

deal_step : {n j : ℕ} {f g : Factor} {fs rest : List Factor} {lists : List (List Factor)} → n ≡ length lists
    → AreAlike (out-Factor f) (out-Factor g)
    → ((left : List (List Factor)) → n ≡ length left → rest ≡ concatenated left → Dealing n (suc j) fs left)
    → FromSome g lists rest → Dealing n j (f ∷ fs) lists
deal_step {n} {j} {f} {lists} e s go a =
    let r = go a.left (e ∙ sym a.same_length) a.is in
    let l = letter_for j n a.place (subst (λ m. a.place < m) (sym e) a.bound) in
    record {
      letters = l.letter ∷ r.letters;
      pieces = put_at ((j + l.letter) % n) f r.pieces;
      dealt = dealt_more l.letter f l.bound r.dealt;
      agree = subst (λ k. AllAgree (put_at k f r.pieces) lists) (sym l.goes) (a.putting f r.pieces s r.agree);
    }

dealing_none : (n j : ℕ) (lists : List (List Factor)) → n ≡ length lists → [] ≡ concatenated lists
    → Dealing n j [] lists
dealing_none n j lists e x = record {
  letters = [];
  pieces = replicate n [];
  dealt = dealt_none j;
  agree = subst (λ m. AllAgree (replicate m []) lists) (sym e) (all_empty lists x);
}

pub dealing : {fs gs : List Factor} → Agree fs gs → (n j : ℕ) (lists : List (List Factor)) → n ≡ length lists
    → gs ≡ concatenated lists → Dealing n j fs lists
dealing none n j lists e x = dealing_none n j lists e x
dealing (more {g} {rest} t s others) n j lists e x =
    deal_step e s (dealing others n (suc j)) (from_some lists (subst (λ l. Takes g l rest) x t))
