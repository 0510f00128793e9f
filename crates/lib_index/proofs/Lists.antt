-- What is read is spelled so, and what is spelled so is read: lists.
use Rattle.std.proofs.Common.{◌≡◌, ℕ, zero, suc, ◌+◌, ◌^◌, ◌<◌, List, [], ◌∷◌, ◌++◌, length, map, Some, refl, sym, ap, subst, ◌∙◌, append_assoc, arith}
use Rattle.lib_index.specs.IndexText.{list_text, number_text}
use Rattle.lib_index.specs.Reading.{Reader, Rest, list_at, many, number_at}
use Rattle.lib_index.proofs.Fields.{ahead, IsComplete, IsSound, Takes, appended, bind_some, number_complete, number_sound, some_is}
use Rattle.type_core.specs.Lists.{concatenated, sum_of}
use Rattle.type_core.proofs.Trees.{EachOf}

abbrev pub texts : {A : Type 0} → (A → List ℕ) → List A → List ℕ
texts text xs = concatenated (map text xs)

module _ {A : Type 0} (read : Reader A) (text : A → List ℕ) where
  pub many_sound : (Fact Good : A → Type 0) → IsSound read text Fact Good → (n : ℕ)
      → IsSound (many read n) (texts text) (λ xs. (length xs ≡ n) × EachOf Fact xs) (EachOf Good)
  unfolding many
  many_sound Fact Good sound zero from xs to fits e =
      let got = some_is ([], from) (xs, to) e in
      let taken : Takes (texts text) (λ xs. (length xs ≡ 0) × EachOf Fact xs) (EachOf Good) from.bytes from.bytes [] =
      record { rest = fits; fact = (refl, tt); spelled = λ _. refl } in
      subst (λ (p : List A × Rest). Takes (texts text) (λ xs. (length xs ≡ 0) × EachOf Fact xs)
      (EachOf Good) from.bytes p.1.bytes p.0) got taken
  many_sound Fact Good sound (suc n) from xs to fits e =
      let b = bind_some (read from) (xs, to) e in
      let c = bind_some (many read n b.0.1) (xs, to) b.2 in
      let got = some_is (b.0.0 ∷ c.0.0, c.0.1) (xs, to) c.2 in
      let s = sound from b.0.0 b.0.1 fits b.1 in
      let t = many_sound Fact Good sound n b.0.1 c.0.0 c.0.1 s.rest c.1 in
      let taken : Takes (texts text) (λ xs. (length xs ≡ suc n) × EachOf Fact xs) (EachOf Good) from.bytes c.0.1.bytes
      (b.0.0 ∷ c.0.0) = record {
        rest = t.rest;
        fact = (ap suc t.fact.0, (s.fact, t.fact.1));
        spelled = λ good. appended from.bytes (text b.0.0) b.0.1.bytes (texts text c.0.0) c.0.1.bytes
            (s.spelled good.0) (t.spelled good.1);
      } in
      subst (λ (p : List A × Rest). Takes (texts text) (λ xs. (length xs ≡ suc n) × EachOf Fact xs)
      (EachOf Good) from.bytes p.1.bytes p.0) got taken

  pub many_complete : (cost : A → ℕ) (Fits : A → Type 0) → IsComplete read text cost Fits → (xs : List A)
      (left after : ℕ) (bytes : List ℕ) → EachOf Fits xs → left ≡ sum_of (map cost xs) + after
      → many read (length xs) (ahead left (texts text xs ++ bytes)) ≡ Some
      (xs, ahead after bytes)
  unfolding many
  many_complete cost Fits complete [] left after bytes fits e =
      ap (λ k. Some ([], ahead k bytes)) (omega (arith, e))
  many_complete cost Fits complete (x ∷ xs) left after bytes fits e =
      let first = complete x left (sum_of (map cost xs) + after) (texts text xs ++ bytes) fits.0 (omega (arith, e)) in
      let others = many_complete cost Fits complete xs (sum_of (map cost xs) + after) after bytes fits.1 refl in
      ap (λ t. many read (suc (length xs)) (ahead left t)) (append_assoc (text x)
      (texts text xs) bytes) ∙ rw (first, others) refl

  pub list_sound : (Fact Good : A → Type 0) → IsSound read text Fact Good
      → IsSound (list_at read) (list_text text) (λ xs. (length xs < 2 ^ 32) × EachOf Fact xs) (EachOf Good)
  unfolding list_at
  list_sound Fact Good sound from xs to fits e =
      let b = bind_some (number_at from) (xs, to) e in
      let s = number_sound from b.0.0 b.0.1 fits b.1 in
      let t = many_sound Fact Good sound b.0.0 b.0.1 xs to s.rest b.2 in
      record {
        rest = t.rest;
        fact = (subst (λ k. k < 2 ^ 32) (sym t.fact.0) s.fact, t.fact.1);
        spelled = λ good. appended from.bytes (number_text (length xs)) b.0.1.bytes (texts text xs) to.bytes
            (s.spelled tt ∙ ap (λ k. number_text k ++ b.0.1.bytes) (sym t.fact.0)) (t.spelled good);
      }

  pub list_complete : (cost : A → ℕ) (Fits : A → Type 0) → IsComplete read text cost Fits → (xs : List A)
      (left after : ℕ) (bytes : List ℕ) → length xs < 2 ^ 32 → EachOf Fits xs → left ≡ sum_of (map cost xs) + after
      → list_at read (ahead left (list_text text xs ++ bytes)) ≡ Some
      (xs, ahead after bytes)
  unfolding list_at
  list_complete cost Fits complete xs left after bytes short fits e =
      let first = number_complete (length xs) left (texts text xs ++ bytes) short in
      let others = many_complete cost Fits complete xs left after bytes fits e in
      ap (λ t. list_at read (ahead left t)) (append_assoc (number_text (length xs))
      (texts text xs) bytes) ∙ rw (first, others) refl
