-- Rounds in which names lose equality.
use Rattle.std.proofs.Common.{◌≡◌, ℕ, zero, suc, ◌+◌, ◌-◌, ◌<◌, ◌≤◌, Bool, true, false, if◌then◌else◌, inl, inr, List, [], ◌∷◌, length, replicate, set, get_or, sym, ap, ◌∙◌, subst, arith}
use Rattle.std.proofs.Math.ListN.{length-set}
use Rattle.std.proofs.lemmas.Bool.{and_parts, false_from_ne_true, or_cases, true≢false}
use Rattle.std.proofs.lemmas.List.{length-replicate}
use Rattle.elab_env.specs.Names.{equality_at, with_equality}
use Rattle.type_core.specs.declared.names.Equality.TheVariants.{Never}
use Rattle.type_core.specs.declared.names.TypeName.{TypeName}
use Rattle.elab_rules.specs.declared.entry.Entry.{Entry, out-Entry}
use Rattle.elab_rules.specs.Environments.{Environment}
use Rattle.elab_rules.specs.Equality.{admits, all_fit, entry_fits, greatest, is_never, with_choice, with_greatest}
use Rattle.elab_rules.specs.Settling.{IsBound, IsMisfit, live_count}
use Rattle.elab_phrases.proofs.AdmittedLess.{AreLess, less_chosen, less_same, still_admits}
use Rattle.elab_phrases.proofs.Choices.{chosen_there, length-with_choice, settled_there, union_is, within_all, within_without}

-- ---- names that admit equality
live_within : (names : List TypeName) (n : ℕ) → is_never (equality_at names n) ≡ false → n < length names
live_within [] n live = absurd (true≢false live)
live_within (name ∷ names) zero live = omega arith
live_within (name ∷ names) (suc n) live = omega (arith, live_within names n live)

fewer_live : (names : List TypeName) (n : ℕ) → is_never (equality_at names n) ≡ false → live_count (with_equality n Never names) < live_count names
fewer_live [] n live = absurd (true≢false live)
fewer_live (name ∷ names) zero live = subst (λ (b : Bool). 0 + live_count names < (if b then 0 else 1) + live_count names) (sym live) (omega arith)
fewer_live (name ∷ names) (suc n) live = omega (arith, fewer_live names n live)

pub fewer_after : (old now after : List TypeName) (n : ℕ) (entry : Entry) → after ≡ with_equality n Never now → IsMisfit now n entry → live_count now ≤ live_count old → live_count after < live_count old
fewer_after old now after n entry is misfit l = omega (arith, ap live_count is, fewer_live now n misfit.live, l)

-- ---- entries that fit
fits_there : (names : List TypeName) (entries : Environment) (i : ℕ) (entry d : Entry) → i < length entries → entry ≡ get_or entries i d → all_fit names entries ≡ true → entry_fits names (out-Entry entry) ≡ true
fits_there names [] i entry d within is fit = absurd (omega (arith, within))
fits_there names (e ∷ entries) zero entry d within is fit = ap (λ x. entry_fits names (out-Entry x)) is ∙ (and_parts _ _ fit).0
fits_there names (e ∷ entries) (suc i) entry d within is fit = fits_there names entries i entry d (omega (arith, within)) is (and_parts (entry_fits names (out-Entry e)) _ fit).1

-- ---- at first all names are chosen
pub bound_at_first : (n count : ℕ) (entries : Environment) (names now : List TypeName) → now ≡ with_choice n (replicate count true) names → IsBound n count entries names now
bound_at_first n count entries names now is = record {
  choice = replicate count true;
  whole = length-replicate count true;
  settled = is;
  above = λ other e fits. within_all other count e;
}

-- ---- no choice that fits has the name of a constructor that doesn't fit
lacks : (names now fitting : List TypeName) (n : ℕ) (entry : Entry) → IsMisfit now n entry → AreLess fitting now → entry_fits fitting (out-Entry entry) ≡ true → is_never (equality_at fitting n) ≡ false → ⊥
lacks names now fitting n entry misfit are fits live = elim (or_cases (is_never (equality_at fitting n)) (admits fitting misfit.argument) (sym (misfit.made fitting) ∙ fits)) [
  | inl never ↦ true≢false (sym never ∙ live)
  | inr passes ↦ true≢false (sym (still_admits fitting now are misfit.argument passes) ∙ misfit.refused)
]

module _ (n end : ℕ) (entries : Environment) (names now : List TypeName) (j : ℕ) (later : n ≤ j) (earlier : j < end) (bound : IsBound n (end - n) entries names now) where
  same_number : n + (j - n) ≡ j
  same_number = omega (arith, later)

  pub bound_without : (after : List TypeName) (i : ℕ) (entry d : Entry) → after ≡ with_equality j Never now → i < length entries → entry ≡ get_or entries i d → IsMisfit now j entry → IsBound n (end - n) entries names after
  bound_without after i entry d denied within is misfit = record {
    choice = set bound.choice (j - n) false;
    whole = length-set bound.choice (j - n) false ∙ bound.whole;
    settled =
        denied
        ∙ ap (with_equality j Never) bound.settled
        ∙ ap (λ k. with_equality k Never (with_choice n bound.choice names)) (sym same_number)
        ∙ sym (settled_there n (j - n) false bound.choice names (omega (arith, bound.whole, later, earlier)));
    above = λ other e fit. within_without other bound.choice (j - n) (bound.above other e fit) (false_from_ne_true _ (λ has.
        let are : AreLess (with_choice n other names) now = subst (AreLess (with_choice n other names)) (sym bound.settled) (less_chosen n other bound.choice names names (bound.above other e fit) (less_same names)) in
        let room : j < length names = omega (arith, live_within now j misfit.live, ap length bound.settled, length-with_choice n bound.choice names) in
        let live : is_never (equality_at (with_choice n other names) j) ≡ false =
        ap (λ k. is_never (equality_at (with_choice n other names) k)) (sym same_number)
        ∙ ap is_never (chosen_there n (j - n) other names has (omega (arith, same_number, room))) in
        lacks names now (with_choice n other names) j entry misfit are (fits_there (with_choice n other names) entries i entry d within is fit) live));
  }

-- ---- at last all constructors fit
pub bound_is_greatest : (n count : ℕ) (entries : Environment) (names now : List TypeName) → IsBound n count entries names now → all_fit now entries ≡ true → now ≡ with_greatest n count entries names
unfolding greatest
bound_is_greatest n count entries names now bound fit =
    bound.settled
    ∙ ap (λ choice. with_choice n choice names)
    (sym (union_is bound.choice count (λ choice. all_fit (with_choice n choice names) entries) bound.whole (ap (λ xs. all_fit xs entries) (sym bound.settled) ∙ fit) bound.above))
