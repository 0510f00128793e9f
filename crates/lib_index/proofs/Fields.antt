-- What is read is spelled so, and what is spelled so is read: numbers, bytes, and values of one byte.
use Rattle.std.proofs.Common.{◌≡◌, ℕ, suc, ◌+◌, ◌-◌, ◌^◌, ◌<◌, ◌≤◌, Bool, true, false, cond, nat_lt, List, [], ◌∷◌, ◌++◌, length, get_or, take, drop, Option, Some, None, refl, sym, ap, ap₂, subst, ◌∙◌, append_assoc, arith, inl, inr}
use Rattle.std.specs.Int.{w32, from_be_bytes}
use Rattle.std.proofs.lemmas.Bool.{cases_lt, ltb-false, le-ltb}
use Rattle.std.proofs.lemmas.List.{take_at, drop_at, take-append-drop, length-append, length-take, get_or-drop, get_or-take, get_or_past}
use Rattle.std.proofs.lemmas.Nat.{be_bytes_4, from_be_bytes-to_be_bytes_4}
use Rattle.lib_index.specs.IndexText.{bytes_text, number_text}
use Rattle.lib_index.specs.Reading.{◌>>=◌, Reader, Rest, bytes_at, bytes_of, charged, coded, front, number_at, spent}

-- what is still to be read, by what is left and the bytes
abbrev pub ahead : ℕ → List ℕ → Rest
ahead left bytes = record { left = left; bytes = bytes }

abbrev pub IsBytes : List ℕ → Type 0
IsBytes bytes = (i : ℕ) → get_or bytes i 0 < 256

bytes_dropped : (n : ℕ) (bytes : List ℕ) → IsBytes bytes → IsBytes (drop n bytes)
bytes_dropped n bytes h i = rw get_or-drop (h (n + i))

bytes_taken : (n : ℕ) (bytes : List ℕ) → IsBytes bytes → IsBytes (take n bytes)
bytes_taken n bytes h i =
    elim (cases_lt i n) [
      | inl lt ↦ rw (get_or-take n bytes i 0 lt) (h i)
      | inr le ↦ rw (get_or_past (take n bytes) i 0 (omega (arith, length-take n bytes))) (omega arith)
    ]

bytes_behind : (b : ℕ) (bytes : List ℕ) → IsBytes (b ∷ bytes) → IsBytes bytes
bytes_behind b bytes h i = h (suc i)

-- the value of a step that gave one
pub bind_some : {A B : Type 0} {f : A → Option B} (o : Option A) (y : B) → (o >>= f) ≡ Some y
    → (x : A) × (o ≡ Some x) × (f x ≡ Some y)
bind_some (Some x) y e = (x, refl, e)
bind_some None y e = absurd cc

-- a test that did not fail
guard_some : {A : Type 0} (b : Bool) (x y : A) → cond b None (Some x) ≡ Some y → (b ≡ false) × (x ≡ y)
guard_some true x y e = absurd cc
guard_some false x y e = (refl, cc)

abbrev done : {A : Type 0} → A → Option A
done x = Some x

pub some_is : {A : Type 0} (x y : A) → done x ≡ done y → x ≡ y
some_is x y e = cc

-- nothing is asked
abbrev pub Anything : {A : Type 0} → A → Type 0
Anything x = Unit {0}

-- reading took x off the front: the fact holds of it, and where it is good its text stood there
pub record Takes {A : Type 0} (text : A → List ℕ) (Fact Good : A → Type 0) (from to : List ℕ) (x : A) : Type 0 where
  pub rest : IsBytes to
  pub fact : Fact x
  pub spelled : Good x → from ≡ text x ++ to

-- what is read is spelled so
abbrev pub IsSound : {A : Type 0} → Reader A → (A → List ℕ) → (A → Type 0) → (A → Type 0) → Type 0
IsSound {A} read text Fact Good = (from : Rest) (x : A) (to : Rest) → IsBytes from.bytes → read from ≡ Some (x, to)
    → Takes text Fact Good from.bytes to.bytes x

-- what is spelled so is read, where its cost is left
abbrev pub IsComplete : {A : Type 0} → Reader A → (A → List ℕ) → (A → ℕ) → (A → Type 0) → Type 0
IsComplete {A} read text cost Fits = (x : A) (left after : ℕ) (bytes : List ℕ) → Fits x → left ≡ cost x + after
    → read (ahead left (text x ++ bytes)) ≡ Some (x, ahead after bytes)

pub appended : (a x b y c : List ℕ) → a ≡ x ++ b → b ≡ y ++ c → a ≡ (x ++ y) ++ c
appended a x b y c e f = e ∙ ap (λ t. x ++ t) f ∙ sym (append_assoc x y c)

-- ---- numbers

pub number_sound : IsSound number_at number_text (λ n. n < 2 ^ 32) Anything
unfolding number_at
number_sound from n to fits e =
    let g = guard_some (nat_lt (length from.bytes) 4) (
      from_be_bytes w32 (take 4 from.bytes),
      ahead from.left (drop 4 from.bytes),
    ) (n, to) e in
    let long : 4 ≤ length from.bytes = ltb-false _ _ g.0 in
    let n-is : from_be_bytes w32 (take 4 from.bytes) ≡ n = ap (λ (p : ℕ × Rest). p.0) g.1 in
    let rest-is : drop 4 from.bytes ≡ to.bytes = ap (λ (p : ℕ × Rest). p.1.bytes) g.1 in
    let taken = bytes_taken 4 from.bytes fits in
    let text : number_text n ≡ take 4 from.bytes = be_bytes_4 (take 4 from.bytes) n
    (omega (arith, length-take 4 from.bytes)) taken (sym n-is) in
    record {
      rest = subst IsBytes rest-is (bytes_dropped 4 from.bytes fits);
      fact = subst (λ k. k < 2 ^ 32) n-is (omega (arith, taken 0, taken 1, taken 2, taken 3));
      spelled = λ _. sym (take-append-drop 4 from.bytes) ∙ ap₂ ◌++◌ (sym text) rest-is;
    }

number_of : (text : List ℕ) (left : ℕ) (bytes : List ℕ) → length text ≡ 4
    → number_at (ahead left (text ++ bytes)) ≡ Some (from_be_bytes w32 text, ahead left bytes)
unfolding number_at
number_of text left bytes len =
    let long : nat_lt (length (text ++ bytes)) 4 ≡ false = le-ltb _ _ (omega (arith, length-append text bytes, len)) in
    rw (long, take_at text bytes 4 len, drop_at text bytes 4 len) refl

pub number_complete : (n left : ℕ) (bytes : List ℕ) → n < 2 ^ 32
    → number_at (ahead left (number_text n ++ bytes)) ≡ Some
    (n, ahead left bytes)
number_complete n left bytes lt = number_of (number_text n) left bytes refl
    ∙ ap (λ k. Some (k, ahead left bytes)) (from_be_bytes-to_be_bytes_4 n lt)

-- ---- bytes

pub bytes_sound : IsSound bytes_at bytes_text Anything Anything
unfolding bytes_at bytes_of
bytes_sound from text to fits e =
    let b = bind_some (number_at from) (text, to) e in
    let n = b.0 in
    let t = number_sound from n.0 n.1 fits b.1 in
    let g = guard_some (nat_lt (length n.1.bytes) n.0) (take n.0 n.1.bytes, ahead n.1.left (drop n.0 n.1.bytes))
    (text, to) b.2 in
    let long : n.0 ≤ length n.1.bytes = ltb-false _ _ g.0 in
    let text-is : take n.0 n.1.bytes ≡ text = ap (λ (p : List ℕ × Rest). p.0) g.1 in
    let rest-is : drop n.0 n.1.bytes ≡ to.bytes = ap (λ (p : List ℕ × Rest). p.1.bytes) g.1 in
    let len : n.0 ≡ length text = omega (arith, length-take n.0 n.1.bytes, ap length text-is) in
    let last : n.1.bytes ≡ text ++ to.bytes = sym (take-append-drop n.0 n.1.bytes) ∙ (λ i. text-is i ++ rest-is i) in
    record {
      rest = subst IsBytes rest-is (bytes_dropped n.0 n.1.bytes t.rest);
      fact = tt;
      spelled = λ _. appended from.bytes (number_text (length text)) n.1.bytes text to.bytes (t.spelled tt
          ∙ ap (λ k. number_text k ++ n.1.bytes) len) last;
    }

pub bytes_complete : (text : List ℕ) (left : ℕ) (bytes : List ℕ) → length text < 2 ^ 32
    → bytes_at (ahead left (bytes_text text ++ bytes)) ≡ Some (text, ahead left bytes)
unfolding bytes_at bytes_of
bytes_complete text left bytes lt =
    let long : nat_lt (length (text ++ bytes)) (length text) ≡ false = le-ltb _ _
    (omega (arith, length-append text bytes)) in
    let given = number_complete (length text) left (text ++ bytes) lt in
    rw (given, long, take_at text bytes (length text) refl, drop_at text bytes (length text) refl) refl

-- ---- one byte

module _ {A : Type 0} (value : ℕ → Option A) (code : A → ℕ) where
  pub coded_sound : ((b : ℕ) (x : A) → value b ≡ Some x → b ≡ code x) → IsSound (coded value)
      (λ x. code x ∷ []) Anything Anything
  unfolding coded
  coded_sound is from x to fits e = cases from.bytes fits (bind_some (front from.left from.bytes) (x, to) e)
    where
      cases : (bytes : List ℕ) → IsBytes bytes → (byte : ℕ × Rest) × (front from.left bytes ≡ Some byte)
          × ((value byte.0 >>= λ y. done {A = A × Rest} (y, byte.1)) ≡ Some (x, to))
          → Takes (λ y. code y ∷ []) Anything Anything bytes to.bytes x
      cases [] fits b = absurd cc
      cases (first ∷ bytes) fits b =
          let byte-is = some_is (first, ahead from.left bytes) b.0 b.1 in
          let c = bind_some (value b.0.0) (x, to) b.2 in
          let got = some_is (c.0, b.0.1) (x, to) c.2 in
          let first-is : first ≡ b.0.0 = ap (λ (p : ℕ × Rest). p.0) byte-is in
          let x-is : c.0 ≡ x = ap (λ (p : A × Rest). p.0) got in
          let rest-is : bytes ≡ to.bytes = ap (λ (p : ℕ × Rest). p.1.bytes) byte-is
          ∙ ap (λ (p : A × Rest). p.1.bytes) got in
          record {
            rest = subst IsBytes rest-is (bytes_behind first bytes fits);
            fact = tt;
            spelled = λ _. (λ i. (first-is ∙ is b.0.0 c.0 c.1 ∙ ap code x-is) i ∷ rest-is i);
          }

  pub coded_complete : (x : A) (left : ℕ) (bytes : List ℕ) → value (code x) ≡ Some x → coded value
      (ahead left (code x ∷ bytes)) ≡ Some (x, ahead left bytes)
  unfolding coded
  coded_complete x left bytes e = rw e refl

-- ---- costs

pub spent_complete : (cost left after : ℕ) (bytes : List ℕ) → left ≡ cost + after → spent cost
    (ahead left bytes) ≡ Some (ahead after bytes)
unfolding spent
spent_complete cost left after bytes e =
    let enough : nat_lt left cost ≡ false = le-ltb _ _ (omega (arith, e)) in
    let k : left - cost ≡ after = omega (arith, e) in
    rw (enough, k) refl

pub spent_rest : (cost : ℕ) (from to : Rest) → spent cost from ≡ Some to → from.bytes ≡ to.bytes
unfolding spent
spent_rest cost from to e = ap (λ (r : Rest). r.bytes) (guard_some (nat_lt from.left cost)
    (ahead (from.left - cost) from.bytes) to e).1

module _ {A : Type 0} (cost : A → ℕ) (read : Reader A) (text : A → List ℕ) where
  pub charged_sound : (Fact Good : A → Type 0) → IsSound read text Fact Good
      → IsSound (charged cost read) text Fact Good
  unfolding charged
  charged_sound Fact Good sound from x to fits e =
      let b = bind_some (read from) (x, to) e in
      let c = bind_some (spent (cost b.0.0) b.0.1) (x, to) b.2 in
      let got = some_is (b.0.0, c.0) (x, to) c.2 in
      let t = sound from b.0.0 b.0.1 fits b.1 in
      let rest-is : b.0.1.bytes ≡ to.bytes = spent_rest (cost b.0.0) b.0.1 c.0 c.1
      ∙ ap (λ (p : A × Rest). p.1.bytes) got in
      subst (λ y. Takes text Fact Good from.bytes to.bytes y) (ap (λ (p : A × Rest). p.0) got)
      (subst (λ r. Takes text Fact Good from.bytes r b.0.0) rest-is t)

  pub charged_complete : (Fits : A → Type 0) → ((x : A) (left : ℕ) (bytes : List ℕ) → Fits x
      → read (ahead left (text x ++ bytes)) ≡ Some (x, ahead left bytes))
      → IsComplete (charged cost read) text cost Fits
  unfolding charged
  charged_complete Fits complete x left after bytes fits e = rw (
    complete x left bytes fits,
    spent_complete
        (cost x) left after bytes e,
  ) refl
