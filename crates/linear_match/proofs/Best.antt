-- From the best of some words to the best of others.
use Rattle.std.proofs.Common.{◌≡◌, ℕ, zero, suc, ◌+◌, ◌<◌, ◌⊎◌, inl, inr, List, [], ◌∷◌, ◌++◌, refl, sym, ap, ◌∙◌, subst, append_assoc, append-nil, arith}
use Rattle.type_core.specs.declared.names.TypeName.{TypeName}
use Rattle.iso_normal.specs.WordOrder.{IsNotAfter, ends, less, same}
use Rattle.linear_match.specs.declared.bindings.Met.{Met}
use Rattle.linear_match.specs.Meetings.{Meeting}
use Rattle.linear_match.specs.search.Bindings.{AreGood, Leads, meetings_of}
use Rattle.linear_match.specs.search.Cutting.{NoneBefore}
use Rattle.linear_match.specs.search.Tasks.{Beginning, Finds, HasNone, IsBest, Wanted}
use Rattle.linear_match.proofs.Good.{good_front}

-- the same words
abbrev pub Within : Wanted → Wanted → Type 0
Within W V = (w : List ℕ) (ns : List Meeting) → W w ns → V w ns

pub best_iff : {names : List TypeName} {ms now : List Meeting} {W V : Wanted} {w : List ℕ} → Within W V → Within V W
    → IsBest names ms now W w → IsBest names ms now V w
best_iff to from b = record {
  meetings = b.meetings;
  wanted = to _ _ b.wanted;
  leads = b.leads;
  good = b.good;
  least = λ v ns x g. b.least v ns (from v ns x) g;
}

pub none_iff : {names : List TypeName} (ms : List Meeting) {W V : Wanted} → Within V W → HasNone names ms W
    → HasNone names ms V
none_iff ms from none w ns x g = none w ns (from w ns x) g

pub finds_iff : {names : List TypeName} {old new : List Met} {before after : List ℕ} {W V : Wanted} → Within W V
    → Within V W → Finds names old new before after W → Finds names old new before after V
finds_iff to from f = record { word = f.word; added = f.added; best = best_iff to from f.best }

-- nothing is left
pub best_nothing : {names : List TypeName} {ms : List Meeting} {W : Wanted} → W [] [] → AreGood names ms
    → IsBest names ms ms W []
best_nothing {ms} x g = record {
  meetings = [];
  wanted = x;
  leads = sym (append-nil ms);
  good = g;
  least =
      λ v ns y h. ends v;
}

-- words that make these meetings first
pub record After (ks : List Meeting) (W : Wanted) (word : List ℕ) (ns : List Meeting) : Type 0 where
  pub rest : List Meeting
  pub is : ns ≡ ks ++ rest
  pub wanted : W word rest

joined : (ms ks rest : List Meeting) {ns : List Meeting} → ns ≡ ks ++ rest → ms ++ ns ≡ (ms ++ ks) ++ rest
joined ms ks rest e = ap (λ x. ms ++ x) e ∙ sym (append_assoc ms ks rest)

module _ {names : List TypeName} (ms ks : List Meeting) {W : Wanted} where
  pub best_after : {now : List Meeting} {w : List ℕ} → IsBest names (ms ++ ks) now W w
      → IsBest names ms now (After ks W) w
  best_after b = record {
    meetings = ks ++ b.meetings;
    wanted = record { rest = b.meetings; is = refl; wanted = b.wanted };
    leads = b.leads ∙ append_assoc ms ks b.meetings;
    good = b.good;
    least = λ v ns x g. b.least v x.rest x.wanted (subst (AreGood names) (joined ms ks x.rest x.is) g);
  }

  pub none_after : HasNone names (ms ++ ks) W → HasNone names ms (After ks W)
  none_after none w ns x g = none w x.rest x.wanted (subst (AreGood names) (joined ms ks x.rest x.is) g)

  pub none_apart : (AreGood names (ms ++ ks) → ⊥) → HasNone names ms (After ks W)
  none_apart bad w ns x g = bad (good_front (ms ++ ks) x.rest (subst (AreGood names) (joined ms ks x.rest x.is) g))

pub finds_after : {names : List TypeName} {old mid new : List Met} {before after : List ℕ} {ks : List Meeting}
    {W : Wanted} → Leads names old mid ks → Finds names mid new before after W
    → Finds names old new before after (After ks W)
finds_after {names} {old} {new} {ks} {W} l f = record {
  word = f.word;
  added = f.added;
  best = best_after (meetings_of old) ks (subst (λ ms. IsBest names ms (meetings_of new) W f.word) l.noted f.best);
}

pub none_after_leads : {names : List TypeName} {old mid : List Met} {ks : List Meeting} {W : Wanted}
    → Leads names old mid ks → HasNone names (meetings_of mid) W → HasNone names (meetings_of old) (After ks W)
none_after_leads {names} {old} {ks} {W} l none =
    none_after (meetings_of old) ks (subst (λ ms. HasNone names ms W) l.noted none)

-- letters in order
order : (j k : ℕ) → (j < k) ⊎ ((j ≡ k) ⊎ (k < j))
order zero zero = inr (inl refl)
order zero (suc k) = inl (omega arith)
order (suc j) zero = inr (inr (omega arith))
order (suc j) (suc k) = elim (order j k) [
  | inl l ↦ inl (omega (l, arith))
  | inr (inl e) ↦ inr (inl (ap suc e))
  | inr (inr g) ↦ inr (inr (omega (g, arith)))
]

abbrev pub BeginsBelow : ℕ → List ℕ → Type 0
BeginsBelow n w = (l : ℕ) × (rest : List ℕ) × (l < n) × (w ≡ l ∷ rest)

module _ (names : List TypeName) (ms : List Meeting) (W : Wanted) where
  pub none_at_first : NoneBefore names ms W 0
  none_at_first j l = absurd (omega (l, arith))

  pub none_at_next : (k : ℕ) → NoneBefore names ms W k → HasNone names ms (Beginning k W) → NoneBefore names ms W (k + 1)
  none_at_next k before here j l = go (order j k)
    where
      go : (j < k) ⊎ ((j ≡ k) ⊎ (k < j)) → HasNone names ms (Beginning j W)
      go (inl m) = before j m
      go (inr (inl e)) = subst (λ j. HasNone names ms (Beginning j W)) (sym e) here
      go (inr (inr g)) = absurd (omega (l, g, arith))

  module _ (n : ℕ) (begins : (w : List ℕ) (ns : List Meeting) → W w ns → BeginsBelow n w) where
    pub none_at_all : NoneBefore names ms W n → HasNone names ms W
    none_at_all before w ns x g = let b = begins w ns x in before b.0 b.2 w ns (b.1, b.3, x) g

    not_after : (k j : ℕ) {w v rest : List ℕ} (u : List ℕ) {ns : List Meeting} → NoneBefore names ms W k → w ≡ k ∷ rest
        → v ≡ j ∷ u → W v ns → AreGood names (ms ++ ns) → (Beginning k W v ns → IsNotAfter w v)
        → (j < k) ⊎ ((j ≡ k) ⊎ (k < j)) → IsNotAfter w v
    not_after k j {v} u {ns} before e f x g least (inl m) = absurd (before j m v ns (u, f, x) g)
    not_after k j u before e f x g least (inr (inl one)) = least (u, f ∙ ap (λ l. l ∷ u) one, x)
    not_after k j {w} {v} {rest} u before e f x g least (inr (inr m)) =
        subst (λ w. IsNotAfter w v) (sym e) (subst (IsNotAfter (k ∷ rest)) (sym f) (less rest u m))

    pub best_at : (k : ℕ) → NoneBefore names ms W k → {now : List Meeting} {w : List ℕ} → IsBest names ms now (Beginning k W) w
        → IsBest names ms now W w
    best_at k before {w} b = record {
      meetings = b.meetings;
      wanted = b.wanted.2;
      leads = b.leads;
      good = b.good;
      least = λ v ns x g. let r = begins v ns x in
          not_after k r.0 r.1 before b.wanted.1 r.3 x g (λ y. b.least v ns y g) (order r.0 k);
    }

    pub finds_at : (k : ℕ) → NoneBefore names ms W k → {old new : List Met} {before after : List ℕ} → ms ≡ meetings_of old
        → Finds names old new before after (Beginning k W) → Finds names old new before after W
    finds_at k none {new} e f = record {
      word = f.word;
      added = f.added;
      best = subst (λ ms. IsBest names ms (meetings_of new) W f.word) e
          (best_at k none (subst (λ ms. IsBest names ms (meetings_of new) (Beginning k W) f.word) (sym e) f.best));
    }

-- one letter before words
module _ (l : ℕ) (W V : Wanted) (to : (w : List ℕ) (ns : List Meeting) → W w ns → V (l ∷ w) ns)
    (from : (w : List ℕ) (ns : List Meeting) → V (l ∷ w) ns → W w ns) where
  back : (v : List ℕ) (ns : List Meeting) (x : Beginning l V v ns) → W x.0 ns
  back v ns x = from x.0 ns (subst (λ v. V v ns) x.1 x.2)

  pub best_next : {names : List TypeName} {ms now : List Meeting} {w : List ℕ} → IsBest names ms now W w
      → IsBest names ms now (Beginning l V) (l ∷ w)
  best_next {w} b = record {
    meetings = b.meetings;
    wanted = (w, refl, to w b.meetings b.wanted);
    leads = b.leads;
    good = b.good;
    least = λ v ns x g. subst (IsNotAfter (l ∷ w)) (sym x.1) (same l (b.least x.0 ns (back v ns x) g));
  }

  pub none_next : {names : List TypeName} (ms : List Meeting) → HasNone names ms W → HasNone names ms (Beginning l V)
  none_next ms none v ns x g = none x.0 ns (back v ns x) g

  pub finds_next : {names : List TypeName} {old new : List Met} {before mid after : List ℕ} → mid ≡ before ++ l ∷ []
      → Finds names old new mid after W → Finds names old new before after (Beginning l V)
  finds_next {before} e f = record {
    word = l ∷ f.word;
    added = f.added ∙ ap (λ x. x ++ f.word) e ∙ append_assoc before (l ∷ []) f.word;
    best = best_next f.best;
  }
