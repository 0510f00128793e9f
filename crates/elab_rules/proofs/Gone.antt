-- Which names are gone, by a table of names and by a state.
use Rattle.std.proofs.Common.{◌≡◌, ℕ, zero, suc, ◌+◌, ◌<◌, ◌==◌, ◌&&◌, ◌||◌, Bool, true, false, not, List, [], ◌∷◌, ◌++◌, length, map, slice_index_or, refl, ap, ap₂, ◌∙◌, arith}
use Rattle.std.proofs.lemmas.Bool.{eq-eqb, ne_eqb}
use Rattle.elab_env.specs.declared.realization.Realization.{Realization}
use Rattle.elab_env.specs.Names.{is_described}
use Rattle.elab_env.specs.Table.{is_free, is_realized}
use Rattle.elab_env.proofs.Kept.{described_within}
use Rattle.elab_rules.specs.declared.progress.Progress.{Progress}
use Rattle.elab_rules.specs.Copies.{numbers_from}
use Rattle.elab_rules.specs.Sharing.{with_gone}
use Rattle.elab_rules.specs.States.{is_free as is_free_in}
use Rattle.elab_rules.specs.Views.{gone_of, state_of}
use Rattle.elab_env.proofs.Equations.{map_same}

-- ---- the flag of a number
pub at_number : (f : ℕ → Bool) (from count n : ℕ) → n < count → slice_index_or (map f (numbers_from from count)) n false ≡ f (from + n)
at_number f from zero n l = absurd (omega (arith, l))
at_number f from (suc count) zero l = ap f (let e : from ≡ from + 0 = omega arith in e)
at_number f from (suc count) (suc n) l = at_number f (from + 1) count n (omega (arith, l)) ∙ ap f (let e : (from + 1) + n ≡ from + suc n = omega arith in e)

-- a name is free in the state where it is free in the table
pub free_is : (p : Progress) (n : ℕ) → is_free_in (state_of p) n ≡ is_free p.table n
free_is p n = by_case (is_described p.table.names n) refl
  where
    by_case : (b : Bool) → is_described p.table.names n ≡ b → (b && not (slice_index_or (gone_of p.table) n false)) ≡ (b && not (is_realized p.table.realizations n))
    by_case false is = refl
    by_case true is =
        ap not (at_number (is_realized p.table.realizations) 0 (length p.table.names) n (described_within p.table.names n is) ∙ ap (is_realized p.table.realizations) (let e : 0 + n ≡ n = omega arith in e))

-- ---- one name more
pub numbers_more : (from count : ℕ) → numbers_from from (suc count) ≡ numbers_from from count ++ (from + count) ∷ []
numbers_more from zero = ap (λ n. n ∷ []) (let e : from ≡ from + 0 = omega arith in e)
numbers_more from (suc count) = ap (λ ns. from ∷ ns) (numbers_more (from + 1) count) ∙ ap (λ n. from ∷ (numbers_from (from + 1) count ++ n ∷ [])) (let e : (from + 1) + count ≡ from + suc count = omega arith in e)

map_more : {A B : Type 0} (f : A → B) (xs : List A) (x : A) → map f (xs ++ x ∷ []) ≡ map f xs ++ f x ∷ []
map_more f [] x = refl
map_more f (y ∷ xs) x = ap (λ rest. f y ∷ rest) (map_more f xs x)

-- the flags of a name more, which isn't gone
pub flags_more : (rs : List Realization) (count : ℕ) → is_realized rs count ≡ false → map (is_realized rs) (numbers_from 0 (suc count)) ≡ map (is_realized rs) (numbers_from 0 count) ++ false ∷ []
flags_more rs count other =
    ap (map (is_realized rs)) (numbers_more 0 count)
    ∙ map_more (is_realized rs) (numbers_from 0 count) (0 + count)
    ∙ ap (λ b. map (is_realized rs) (numbers_from 0 count) ++ b ∷ []) (ap (is_realized rs) (let e : 0 + count ≡ count = omega arith in e) ∙ other)

-- ---- one realization more
or_assoc : (a b c : Bool) → (a || (b || c)) ≡ ((a || b) || c)
or_assoc true b c = refl
or_assoc false b c = refl

or_nothing : (b : Bool) → (b || false) ≡ b
or_nothing true = refl
or_nothing false = refl

or_all : (b : Bool) → (b || true) ≡ true
or_all true = refl
or_all false = refl

pub realized_more : (rs : List Realization) (r : Realization) (n : ℕ) → is_realized (rs ++ r ∷ []) n ≡ (is_realized rs n || (n == r.name.0))
realized_more [] r n = or_nothing (n == r.name.0)
realized_more (s ∷ rs) r n = ap (λ b. (n == s.name.0) || b) (realized_more rs r n) ∙ or_assoc (n == s.name.0) (is_realized rs n) (n == r.name.0)

others : (f : ℕ → Bool) (from count m : ℕ) → m < from → map (λ k. f k || (k == m)) (numbers_from from count) ≡ map f (numbers_from from count)
others f from zero m l = refl
others f from (suc count) m l =
    ap₂ ◌∷◌ (ap (λ b. f from || b) (ne_eqb from m (λ e. omega (arith, l, e))) ∙ or_nothing (f from)) (others f (from + 1) count m (omega (arith, l)))

flagged : (f : ℕ → Bool) (from count n m : ℕ) → n < count → m ≡ from + n → map (λ k. f k || (k == m)) (numbers_from from count) ≡ with_gone n (map f (numbers_from from count))
flagged f from zero n m l e = absurd (omega (arith, l))
flagged f from (suc count) zero m l e =
    ap₂ ◌∷◌ (ap (λ b. f from || b) (eq-eqb from m (omega (arith, e))) ∙ or_all (f from)) (others f (from + 1) count m (omega (arith, e)))
flagged f from (suc count) (suc n) m l e =
    ap₂ ◌∷◌ (ap (λ b. f from || b) (ne_eqb from m (λ same. omega (arith, e, same))) ∙ or_nothing (f from)) (flagged f (from + 1) count n m (omega (arith, l)) (omega (arith, e)))

-- the flags after a name was realized or joined away
pub flags_set : (rs : List Realization) (r : Realization) (count : ℕ) → r.name.0 < count → map (is_realized (rs ++ r ∷ [])) (numbers_from 0 count) ≡ with_gone r.name.0 (map (is_realized rs) (numbers_from 0 count))
flags_set rs r count l = map_same _ (λ n. is_realized rs n || (n == r.name.0)) (realized_more rs r) (numbers_from 0 count) ∙ flagged (is_realized rs) 0 count r.name.0 r.name.0 l (omega arith)
