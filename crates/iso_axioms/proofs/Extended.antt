-- A renaming that is one to one on some variables goes on to one that is so on all, and has an inverse.
use Rattle.std.proofs.Common.{◌≡◌, ℕ, ◌+◌, ◌≤◌, ◌||◌, ◌⊎◌, inl, inr, Bool, true, false, if◌then◌else◌, List, [], ◌∷◌, map, refl, sym, ap, ◌∙◌, subst, arith}
use Rattle.type_core.specs.declared.ty.VarId.{VarId}
use Rattle.type_core.specs.declared.ty.Ty.{Ty}
use Rattle.type_core.specs.Lists.{sum_of}
use Rattle.type_core.specs.Renaming.{IsOneToOne, KeepsMarks, Renaming, renamed}
use Rattle.type_core.specs.Variables.{occurs, same_variable, variables}
use Rattle.type_core.proofs.Places.{Within, occurs_here, occurs_later, same_is, same_itself, variable_eq}
use Rattle.type_core.proofs.Renamed.{renamed_alike, renamed_kept, renamed_renamed}

pub or_cases : (a b : Bool) → (a || b) ≡ true → (a ≡ true) ⊎ (b ≡ true)
or_cases true b e = inl refl
or_cases false b e = inr e

-- variables that aren't among the first ones get numbers past those that are used
module _ (r : Renaming) (vs : List VarId) where
  used : ℕ
  used = sum_of (map (λ v. (r v).n) vs)

  abbrev extended_if : VarId → Bool → VarId
  extended_if v b = if b then r v else record { n = used + 1 + v.n; eq = v.eq }

  pub extended : Renaming
  extended v = extended_if v (occurs v vs)

  pub extended_among : (v : VarId) → occurs v vs ≡ true → extended v ≡ r v
  unfolding extended
  extended_among v e = ap (extended_if v) e

  extended_other : (v : VarId) → occurs v vs ≡ false → extended v ≡ record { n = used + 1 + v.n; eq = v.eq }
  unfolding extended
  extended_other v e = ap (extended_if v) e

  used_bounds : (ws : List VarId) (v : VarId) → occurs v ws ≡ true → (r v).n ≤ sum_of (map (λ v. (r v).n) ws)
  used_bounds [] v e = absurd (cc e)
  used_bounds (w ∷ ws) v e = elim (or_cases (same_variable v w) (occurs v ws) e) [
    | inl a ↦ at_first (r v).n (r w).n _ (ap (λ v. (r v).n) (same_is v w a))
    | inr b ↦ later (r v).n (r w).n _ (used_bounds ws v b)
  ]
    where
      at_first : (m n k : ℕ) → m ≡ n → m ≤ n + k
      at_first m n k e = omega (arith, e)

      later : (m n k : ℕ) → m ≤ k → m ≤ n + k
      later m n k l = omega (arith, l)

  past_used : (v w : VarId) → occurs v vs ≡ true → occurs w vs ≡ false → extended v ≡ extended w → ⊥
  unfolding used
  past_used v w a b e =
      let bound = used_bounds vs v a in
      let same : (r v).n ≡ sum_of (map (λ v. (r v).n) vs) + 1 + w.n = ap (λ (u : VarId). u.n) (sym (extended_among v a) ∙ e ∙ extended_other w b) in
      omega (arith, bound, same)

  decide : (b : Bool) → (b ≡ true) ⊎ (b ≡ false)
  decide true = inl refl
  decide false = inr refl

  same_number : (m v w : ℕ) → m + 1 + v ≡ m + 1 + w → v ≡ w
  same_number m v w e = omega (arith, e)

  pub extended_one_to_one : IsOneToOne r vs → (v w : VarId) → extended v ≡ extended w → v ≡ w
  extended_one_to_one one v w e = cases (decide (occurs v vs)) (decide (occurs w vs))
    where
      cases : (occurs v vs ≡ true) ⊎ (occurs v vs ≡ false) → (occurs w vs ≡ true) ⊎ (occurs w vs ≡ false) → v ≡ w
      cases (inl a) (inl b) = one v w a b (sym (extended_among v a) ∙ e ∙ extended_among w b)
      cases (inl a) (inr b) = absurd (past_used v w a b e)
      cases (inr a) (inl b) = absurd (past_used w v b a (sym e))
      cases (inr a) (inr b) =
          let same = sym (extended_other v a) ∙ e ∙ extended_other w b in
          variable_eq v w (same_number used v.n w.n (ap (λ (u : VarId). u.n) same)) (ap (λ (u : VarId). u.eq) same)

  pub extended_keeps_marks : KeepsMarks r vs → (v : VarId) → (extended v).eq ≡ v.eq
  extended_keeps_marks keeps v = cases (decide (occurs v vs))
    where
      cases : (occurs v vs ≡ true) ⊎ (occurs v vs ≡ false) → (extended v).eq ≡ v.eq
      cases (inl a) = ap (λ (u : VarId). u.eq) (extended_among v a) ∙ keeps v a
      cases (inr a) = ap (λ (u : VarId). u.eq) (extended_other v a)

  -- it does to a type of the first variables what the renaming does
  pub renamed_extended : (t : Ty) → Within vs (variables t) → renamed extended t ≡ renamed r t
  renamed_extended t inside = renamed_alike extended r t (λ v e. extended_among v (inside v e))

-- the first variable that is sent to v, where there is one
module _ (r : Renaming) where
  abbrev source : List VarId → VarId → VarId
  source [] v = v
  source (w ∷ ws) v = if same_variable (r w) v then w else source ws v

  record Source (vs : List VarId) (v : VarId) : Type 0 where
    from : VarId
    among : occurs from vs ≡ true
    sent : r from ≡ v

  source_of : (vs : List VarId) (v : VarId) → occurs v (map r vs) ≡ true → Source vs v
  source_of [] v e = absurd (cc e)
  source_of (w ∷ vs) v e = elim (or_cases (same_variable v (r w)) (occurs v (map r vs)) e) [
    | inl a ↦ record { from = w; among = occurs_here w vs; sent = sym (same_is v (r w) a) }
    | inr b ↦ let s = source_of vs v b in record { from = s.from; among = occurs_later s.from w vs s.among; sent = s.sent }
  ]

module _ (r : Renaming) (vs : List VarId) (one : IsOneToOne r vs) where
  source_is : (ws : List VarId) → Within vs ws → (v : VarId) → occurs v vs ≡ true → occurs v ws ≡ true → source r ws (r v) ≡ v
  source_is [] inside v e f = absurd (cc f)
  source_is (w ∷ ws) inside v e f =
      cases (same_variable (r w) (r v)) refl (or_cases (same_variable v w) (occurs v ws) f)
      (λ g. source_is ws (λ u o. inside u (occurs_later u w ws o)) v e g)
    where
      cases : (b : Bool) → same_variable (r w) (r v) ≡ b → (same_variable v w ≡ true) ⊎ (occurs v ws ≡ true)
          → (occurs v ws ≡ true → source r ws (r v) ≡ v) → (if b then w else source r ws (r v)) ≡ v
      cases true s at next = one w v (inside w (occurs_here w ws)) e (same_is (r w) (r v) s)
      cases false s (inl a) next = absurd (cc (sym s ∙ ap (λ u. same_variable (r w) (r u)) (same_is v w a) ∙ same_itself (r w)))
      cases false s (inr b) next = next b

  here : (v : VarId) → occurs v vs ≡ true → source r vs (r v) ≡ v
  here v e = source_is vs (λ u g. g) v e e

  source_at : (v : VarId) (s : Source r vs v) → source r vs v ≡ s.from
  source_at v s = ap (source r vs) (sym s.sent) ∙ here s.from s.among

  -- the inverse of the renaming, on all variables
  pub inverse : Renaming
  inverse = extended (source r vs) (map r vs)

  pub inverse_one_to_one : (v w : VarId) → inverse v ≡ inverse w → v ≡ w
  unfolding inverse
  inverse_one_to_one = extended_one_to_one (source r vs) (map r vs)
      (λ v w p q e. let s = source_of r vs v p in let t = source_of r vs w q in
      sym s.sent ∙ ap r (sym (source_at v s) ∙ e ∙ source_at w t) ∙ t.sent)

  pub inverse_keeps_marks : KeepsMarks r vs → (v : VarId) → (inverse v).eq ≡ v.eq
  unfolding inverse
  inverse_keeps_marks keeps = extended_keeps_marks (source r vs) (map r vs)
      (λ v p. let s = source_of r vs v p in
      ap (λ (u : VarId). u.eq) (source_at v s) ∙ sym (keeps s.from s.among) ∙ ap (λ (u : VarId). u.eq) s.sent)

  sent_among : (ws : List VarId) (v : VarId) → occurs v ws ≡ true → occurs (r v) (map r ws) ≡ true
  sent_among [] v e = absurd (cc e)
  sent_among (w ∷ ws) v e = elim (or_cases (same_variable v w) (occurs v ws) e) [
    | inl a ↦ subst (λ u. occurs (r u) (map r (w ∷ ws)) ≡ true) (sym (same_is v w a)) (occurs_here (r w) (map r ws))
    | inr b ↦ occurs_later (r v) (r w) (map r ws) (sent_among ws v b)
  ]

  inverse_is : (v : VarId) → occurs v vs ≡ true → inverse (r v) ≡ v
  unfolding inverse
  inverse_is v e = extended_among (source r vs) (map r vs) (r v) (sent_among vs v e) ∙ here v e

  -- it undoes the renaming
  pub inverse_undoes : (t : Ty) → Within vs (variables t) → renamed inverse (renamed r t) ≡ t
  inverse_undoes t inside = renamed_renamed inverse r t ∙ renamed_alike (λ v. inverse (r v)) (λ v. v) t (λ v e. inverse_is v (inside v e)) ∙ renamed_kept t
