-- Bindings of some variables are those of a renaming of all.
use Rattle.std.proofs.Common.{◌≡◌, ℕ, ◌+◌, ◌<◌, ◌≤◌, Bool, true, false, if◌then◌else◌, [], ◌∷◌, max, Option, Some, None, refl, sym, ap, ◌∙◌, arith}
use Rattle.type_core.specs.declared.ty.VarId.{VarId}
use Rattle.type_core.specs.Renaming.{Renaming}
use Rattle.type_core.specs.Variables.{same_variable}
use Rattle.type_core.proofs.Places.{same_is, variable_eq}
use Rattle.coord_match.specs.declared.bindings.Bound.{Bound}
use Rattle.coord_match.specs.search.Bindings.{AreMatching, Allows, Bindings, IsIn, at, past}
use Rattle.coord_match.specs.search.Partners.{partner}
use Rattle.coord_match.proofs.Meeting.{differs}

-- what the look-up gives
pub data IsPartner (v : VarId) (s : Bindings) : Option VarId → Type 0 where
  bound_to : (b : Bound) → IsIn b s → b.from ≡ v → IsPartner v s (Some b.to)
  unbound : ((b : Bound) → IsIn b s → b.from ≡ v → ⊥) → IsPartner v s None

not_here : {v : VarId} (c : Bound) {s : Bindings} → (c.from ≡ v → ⊥) → ((b : Bound) → IsIn b s → b.from ≡ v → ⊥) → (b : Bound) → IsIn b (c ∷ s) → b.from ≡ v → ⊥
not_here c h k _ (at rest) e = h e
not_here c h k b (past _ i) e = k b i e

later : {v : VarId} (c : Bound) {s : Bindings} {o : Option VarId} → (c.from ≡ v → ⊥) → IsPartner v s o → IsPartner v (c ∷ s) o
later c h (bound_to b i e) = bound_to b (past c i) e
later c h (unbound k) = unbound (not_here c h k)

looked : (v : VarId) (c : Bound) (s : Bindings) (x : Bool) → same_variable c.from v ≡ x → IsPartner v s (partner v s) → IsPartner v (c ∷ s) (if x then Some c.to else partner v s)
looked v c s true e p = bound_to c (at s) (same_is _ _ e)
looked v c s false e p = later c (differs _ _ e) p

pub partner_is : (v : VarId) (s : Bindings) → IsPartner v s (partner v s)
partner_is v [] = unbound (λ b i e. elim i [ ])
partner_is v (c ∷ s) = looked v c s (same_variable c.from v) refl (partner_is v s)

-- a variable that isn't bound takes a number after those of all partners
abbrev pub or_fresh : ℕ → VarId → Option VarId → VarId
or_fresh k v (Some w) = w
or_fresh k v None = record { n = v.n + k; eq = v.eq }

abbrev pub extended : ℕ → Bindings → Renaming
extended k s v = or_fresh k v (partner v s)

abbrev AreBelow : ℕ → Bindings → Type 0
AreBelow k s = (b : Bound) → IsIn b s → b.to.n < k

abbrev pub after_all : Bindings → ℕ
after_all [] = 0
after_all (b ∷ s) = max (b.to.n + 1) (after_all s)

below_all : (b : Bound) {s : Bindings} → IsIn b s → (k : ℕ) → after_all s ≤ k → b.to.n < k
below_all b (at rest) k l = omega (arith, l)
below_all b (past {rest} c i) k l = below_all b i k (omega (arith, l))

pub all_below : (s : Bindings) → AreBelow (after_all s) s
all_below s b i = below_all b i (after_all s) (omega arith)

pub all_below_next : (s : Bindings) → AreBelow (after_all s + 1) s
all_below_next s b i = below_all b i (after_all s + 1) (omega arith)

module _ (s : Bindings) (m : AreMatching s) (k : ℕ) (below : AreBelow k s) where
  obeyed : (b : Bound) → IsIn b s → {o : Option VarId} → IsPartner b.from s o → or_fresh k b.from o ≡ b.to
  obeyed b i (bound_to c j e) = m.one_partner c b j i e
  obeyed b i (unbound h) = absurd (h b i refl)

  marked : (v : VarId) {o : Option VarId} → IsPartner v s o → (or_fresh k v o).eq ≡ v.eq
  marked v (bound_to b i e) = m.marks b i ∙ ap (λ (x : VarId). x.eq) e
  marked v (unbound h) = refl

  apart : (b : Bound) (n : ℕ) → IsIn b s → b.to.n ≡ n + k → ⊥
  apart b n i e = omega (arith, below b i, e)

  injective : (v w : VarId) {o p : Option VarId} → IsPartner v s o → IsPartner w s p → or_fresh k v o ≡ or_fresh k w p → v ≡ w
  injective v w (bound_to b i e) (bound_to c j f) h = sym e ∙ m.one_source b c i j h ∙ f
  injective v w (bound_to b i e) (unbound g) h = absurd (apart b w.n i (ap (λ (x : VarId). x.n) h))
  injective v w (unbound g) (bound_to c j f) h = absurd (apart c v.n j (ap (λ (x : VarId). x.n) (sym h)))
  injective v w (unbound g) (unbound g') h = variable_eq v w (omega (arith, ap (λ (x : VarId). x.n) h)) (ap (λ (x : VarId). x.eq) h)

  pub extended_allowed : Allows s (extended k s)
  extended_allowed = record {
    one_to_one = λ v w e. injective v w (partner_is v s) (partner_is w s) e;
    keeps_marks = λ v. marked v (partner_is v s);
    obeys = λ b i. obeyed b i (partner_is b.from s);
  }
