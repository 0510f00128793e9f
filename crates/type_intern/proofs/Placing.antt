-- Tables that grow by one top.
use Rattle.std.proofs.Common.{◌≡◌, ◌<◌, ◌≤◌, ℕ, List, [], ◌∷◌, ◌++◌, Some, length, slice_get, refl, sym, ap, ◌∙◌, subst, arith, inl, inr, length-append}
use Rattle.std.proofs.lemmas.Option.{none-some, same_Some, slice_get_within}
use Rattle.type_intern.specs.Numbering.{StandsOnce}
use Rattle.type_intern.specs.Tables.{IsTableOf, values_from, values_of}
use Rattle.type_intern.proofs.Places.{get_append, get_last, get_push, get_within, once_empty}

-- the values with one more top
pub values_push : {N T : Type 0} (tree : List T → N → T) (done : List T) (ns : List N) (n : N)
    → values_from tree done (ns ++ n ∷ []) ≡ values_from tree done ns ++ tree (values_from tree done ns) n ∷ []
unfolding values_from
values_push tree done [] n = refl
values_push tree done (m ∷ ns) n = values_push tree (done ++ tree done m ∷ []) ns n

pub empty_values : {N T : Type 0} (tree : List T → N → T) → values_of tree [] ≡ []
unfolding values_from
empty_values tree = refl

-- what a kind of tops has to give
pub record AreTops {N T : Type 0} (tree : List T → N → T) (Fits : ℕ → N → Type 0) : Type 0 where
  pub weaker : (k n : ℕ) (node : N) → k ≤ n → Fits k node → Fits n node
  pub grows : (values more : List T) (node : N) → Fits (length values) node
      → tree (values ++ more) node ≡ tree values node
  pub apart : (values : List T) → StandsOnce values → (n m : N) → Fits (length values) n → Fits (length values) m
      → tree values n ≡ tree values m → n ≡ m

module _ {N T : Type 0} (tree : List T → N → T) (Fits : ℕ → N → Type 0) (tops : AreTops tree Fits) where
  -- a table of which no top has this value, as it isn't among the tops
  not_there : (ns : List N) (ts : List T) (n : N) → IsTableOf tree Fits ns ts → Fits (length ts) n
      → ((i : ℕ) → slice_get ns i ≡ Some n → ⊥) → (i : ℕ) → slice_get ts i ≡ Some (tree ts n) → ⊥
  not_there ns ts n table fits absent i e =
      let within : i < length ts = slice_get_within ts i (tree ts n) e in
      let there : (m : N) × (slice_get ns i ≡ Some m) = get_within ns i (omega (arith, table.long)) in
      let parts : Fits (length ts) there.0 = tops.weaker i (length ts) there.0 (omega arith)
      (table.fits i there.0 there.1) in
      let trees : tree ts there.0 ≡ tree ts n = same_Some _ _ (sym (table.reads i there.0 there.1) ∙ e) in
      absent i (there.1 ∙ ap Some (tops.apart ts table.once there.0 n parts fits trees))

  pub push_table : (ns : List N) (ts : List T) (n : N) → IsTableOf tree Fits ns ts → Fits (length ts) n
      → ((i : ℕ) → slice_get ns i ≡ Some n → ⊥) → IsTableOf tree Fits (ns ++ n ∷ []) (ts ++ tree ts n ∷ [])
  push_table ns ts n table fits absent = record {
    long = simp length-append (omega (arith, table.long));
    reads = λ i m e. elim (get_push ns n i m e) [
      | inl p ↦
          let within : i < length ns = slice_get_within ns i m p in
          get_append ts (tree ts n ∷ []) i _ (table.reads i m p) ∙ ap Some
          (sym (tops.grows ts (tree ts n ∷ []) m (tops.weaker i (length ts) m (omega (arith, table.long))
          (table.fits i m p))))
      | inr p ↦
          ap (slice_get (ts ++ tree ts n ∷ [])) (p.0 ∙ sym table.long) ∙ get_last ts (tree ts n) ∙ ap Some
          (sym (tops.grows ts (tree ts n ∷ []) n fits) ∙ ap (tree (ts ++ tree ts n ∷ [])) p.1)
    ];
    fits = λ i m e. elim (get_push ns n i m e) [
      | inl p ↦ table.fits i m p
      | inr p ↦ subst (λ k. Fits k m) (table.long ∙ sym p.0) (subst (Fits (length ts)) p.1 fits)
    ];
    once = λ i j t d e. elim (get_push ts (tree ts n) i t d) [
      | inl p ↦ elim (get_push ts (tree ts n) j t e) [
        | inl q ↦ table.once i j t p q
        | inr q ↦ absurd (not_there ns ts n table fits absent i (p ∙ ap Some (sym q.1)))
      ]
      | inr p ↦ elim (get_push ts (tree ts n) j t e) [
        | inl q ↦ absurd (not_there ns ts n table fits absent j (q ∙ ap Some (sym p.1)))
        | inr q ↦ p.0 ∙ sym q.0
      ]
    ];
  }

  pub empty_table : IsTableOf tree Fits [] (values_of tree [])
  unfolding values_from
  empty_table = record {
    long = refl;
    reads = λ i n e. absurd (none-some n e);
    fits = λ i n e. absurd (none-some n e);
    once = once_empty;
  }

-- no top stands twice
pub tops_once : {N T : Type 0} (tree : List T → N → T) (Fits : ℕ → N → Type 0) (ns : List N) (ts : List T)
    → IsTableOf tree Fits ns ts → StandsOnce ns
tops_once tree Fits ns ts table = λ i j n p q. table.once i j (tree ts n) (table.reads i n p) (table.reads j n q)
