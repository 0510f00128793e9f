-- Reading values one after the other, as a loop does.
use Rattle.std.proofs.Common.{◌≡◌, ℕ, suc, ◌-◌, ◌+◌, ◌≤◌, ◌<◌, List, [], ◌∷◌, ◌++◌, Option, Some, None, refl, sym, ap, ◌∙◌, append_assoc, arith}
use Rattle.std.proofs.lemmas.List.{append-nil}
use Rattle.lib_index.specs.declared.refusal.IndexRefusal.{IndexRefusal}
use Rattle.lib_index.specs.declared.refusal.IndexRefusal.TheVariants as refusal
use Rattle.lib_index.specs.Reading.{◌>>=◌, Fails, Reader, Rest, many, with_front}

regroup : {A : Type 0} (front : List A) (x : A) (read : Option (List A × Rest)) → with_front front (read >>= λ xs.
    Some (x ∷ xs.0, xs.1)) ≡ with_front (front ++ x ∷ []) read
regroup front x (Some xs) = ap (λ ys. Some (ys, xs.1)) (simp append_assoc)
regroup front x None = refl

module _ {A : Type 0} (read : Reader A) where
  pub goes_on : (front : List A) (count i : ℕ) (at : Rest) (x : A) (after : Rest) (total : Option (List A × Rest))
      → i < count → read at ≡ Some (x, after)
      → with_front front (many read (count - i) at) ≡ total → with_front (front ++ x ∷ [])
      (many read (count - (i + 1)) after) ≡ total
  unfolding many
  goes_on front count i at x after total lt h so_far =
      let k : count - i ≡ suc (count - (i + 1)) = omega arith in
      let one : with_front front (many read (count - i) at) ≡ with_front (front ++ x ∷ [])
      (many read (count - (i + 1)) after) = rw (k, h) (regroup front x (many read (count - (i + 1)) after)) in
      sym one ∙ so_far

  pub ends : (e : IndexRefusal) (front : List A) (count i : ℕ) (at : Rest) (total : Option (List A × Rest))
      → i < count → Fails e (read at)
      → with_front front (many read (count - i) at) ≡ total → Fails e total
  unfolding many
  ends refusal.NoMemory front count i at total lt h so_far = tt
  ends refusal.NotAnIndex front count i at total lt h so_far =
      let k : count - i ≡ suc (count - (i + 1)) = omega arith in
      let one : with_front front (many read (count - i) at) ≡ None = rw (k, h) refl in
      sym so_far ∙ one

  pub is_done : (front : List A) (count i : ℕ) (at : Rest) (total : Option (List A × Rest)) → count ≤ i
      → with_front front (many read (count - i) at) ≡ total → total ≡ Some (front, at)
  unfolding many
  is_done front count i at total le so_far =
      let k : count - i ≡ 0 = omega arith in
      let one : with_front front (many read (count - i) at) ≡ Some (front, at) = rw k (ap (λ xs. Some (xs, at))
      (append-nil front)) in
      sym so_far ∙ one
