-- The least pairing where variables are bound to themselves is the least with identical heads.
use Rattle.std.proofs.Common.{◌≡◌, ℕ, true, inl, inr, List, [], ◌∷◌, Option, Some, None, Result, Ok, Err, IfOk, IfSome, refl, sym, ap, ◌∙◌, subst}
use Rattle.sig_base.specs.declared.no_memory.NoMemory.{NoMemory}
use Rattle.type_core.specs.declared.coordinate.Coordinate.{Coordinate}
use Rattle.type_core.specs.declared.ty.Ty.{Ty}
use Rattle.type_core.specs.declared.ty.VarId.{VarId}
use Rattle.type_core.specs.Renaming.{Renaming, renamed}
use Rattle.type_core.specs.Variables.{occurs, same_variable, variables}
use Rattle.type_core.proofs.Places.{Within, same_is}
use Rattle.type_core.proofs.Renamed.{renamed_alike, renamed_kept}
use Rattle.iso_axioms.proofs.Extended.{or_cases}
use Rattle.iso_normal.specs.declared.pair_tree.PairTree.{PairTree}
use Rattle.iso_normal.specs.Consistency.{Turns, variables_among}
use Rattle.iso_normal.specs.PairTrees.{word_of}
use Rattle.iso_normal.specs.Pairings.{Pairs}
use Rattle.iso_normal.specs.WordOrder.{IsNotAfter}
use Rattle.iso_normal.proofs.CoordinateVariables.{pairs_over}
use Rattle.coord_match.specs.LeastPairing.{IsLeastIdentical}
use Rattle.coord_match.specs.declared.bindings.Bound.{Bound}
use Rattle.coord_match.specs.search.Bindings.{AreMatching, Allows, Bindings, IsIn}
use Rattle.coord_match.specs.search.Partners.{or_itself, partner, with_themselves}
use Rattle.coord_match.specs.search.Tasks.{HasNone, IsBest, Pairing}
use Rattle.coord_match.proofs.Consistent.{pairs_under}
use Rattle.coord_match.proofs.Extending.{IsPartner, after_all, all_below, bound_to, extended, extended_allowed, partner_is, unbound}
use Rattle.coord_match.proofs.Whole.{best_handed, none_handed}
use Rattle.coord_match.proofs.Meeting.{in_end, in_front, was_in}

abbrev itself : VarId → Bound
itself v = record { from = v; to = v }

-- each binds a variable to itself
abbrev AreTheirOwn : Bindings → Type 0
AreTheirOwn s = (b : Bound) → IsIn b s → b.to ≡ b.from

module _ (v : VarId) (s : Bindings) where
  stays_at : {b : Bound} (o : Option VarId) → IsIn b s → IsIn b (or_itself s v o)
  stays_at (Some w) i = i
  stays_at None i = in_front (itself v ∷ []) i

  own_at : (o : Option VarId) → AreTheirOwn s → AreTheirOwn (or_itself s v o)
  own_at (Some w) own b i = own b i
  own_at None own b i = elim (was_in s i) [ inl j ↦ own b j | inr e ↦ ap (λ (c : Bound). c.to) e ∙ sym (ap (λ (c : Bound). c.from) e) ]

  bound_at : {o : Option VarId} → IsPartner v s o → AreTheirOwn s → IsIn (itself v) (or_itself s v o)
  bound_at (bound_to b i e) own = subst (λ c. IsIn c s) (is_itself b e (own b i)) i
    where
      is_itself : (b : Bound) → b.from ≡ v → b.to ≡ b.from → b ≡ itself v
      is_itself b e f = λ i. record { from = e i; to = (f ∙ e) i }
  bound_at (unbound g) own = in_end (itself v) s

stays : {b : Bound} (vs : List VarId) (s : Bindings) → IsIn b s → IsIn b (with_themselves s vs)
stays [] s i = i
stays (v ∷ vs) s i = stays vs (or_itself s v (partner v s)) (stays_at v s (partner v s) i)

own_after : (vs : List VarId) (s : Bindings) → AreTheirOwn s → AreTheirOwn (with_themselves s vs)
own_after [] s own = own
own_after (v ∷ vs) s own = own_after vs (or_itself s v (partner v s)) (own_at v s (partner v s) own)

bound_after : (vs : List VarId) (s : Bindings) → AreTheirOwn s → (v : VarId) → occurs v vs ≡ true → IsIn (itself v) (with_themselves s vs)
bound_after [] s own v o = absurd (cc o)
bound_after (w ∷ vs) s own v o = elim (or_cases (same_variable v w) (occurs v vs) o) [
  | inl e ↦ stays vs (or_itself s w (partner w s)) (subst (λ u. IsIn (itself u) (or_itself s w (partner w s))) (sym (same_is v w e)) (bound_at w s (partner_is w s) own))
  | inr f ↦ bound_after vs (or_itself s w (partner w s)) (own_at w s (partner w s) own) v f
]

themselves_own : (vs : List VarId) → AreTheirOwn (with_themselves [] vs)
themselves_own vs = own_after vs [] (λ b i. elim i [ ])

pub themselves_match : {s : Bindings} (vs : List VarId) → s ≡ with_themselves [] vs → AreMatching s
themselves_match vs e = subst AreMatching (sym e) (record {
  one_partner = λ b c i j f. own b i ∙ f ∙ sym (own c j);
  one_source = λ b c i j f. sym (own b i) ∙ f ∙ own c j;
  marks = λ b i. ap (λ (v : VarId). v.eq) (own b i);
})
  where
    own : AreTheirOwn (with_themselves [] vs)
    own = themselves_own vs

module _ (a b : List Coordinate) where
  abbrev themselves : Bindings
  themselves = with_themselves [] (variables_among a)

  -- the identity is allowed
  identity_allowed : Allows themselves (λ v. v)
  identity_allowed = record {
    one_to_one = λ v w e. e;
    keeps_marks = λ v. refl;
    obeys = λ b i. sym (themselves_own (variables_among a) b i);
  }

  -- and each renaming that is allowed is the identity on the variables
  fixed : (r : Renaming) → Allows themselves r → (v : VarId) → occurs v (variables_among a) ≡ true → r v ≡ v
  fixed r al v o = al.obeys (itself v) (bound_after (variables_among a) [] (λ b i. elim i [ ]) v o)

  heads_fixed : (r : Renaming) → Allows themselves r → (t : Ty) → Within (variables_among a) (variables t) → renamed r t ≡ t
  heads_fixed r al t inside = renamed_alike r (λ v. v) t (λ v o. fixed r al v (inside v o)) ∙ renamed_kept t

  is_wanted : {p : PairTree} → Pairs ◌≡◌ a b p → Pairing a b (Turns (λ v. v)) (word_of p)
  is_wanted {p} same = (p, pairs_over (variables_among a) (λ h k inside e. renamed_kept h ∙ e) same (λ v o. o), refl)

  none_identical : HasNone themselves (Pairing a b) → (p : PairTree) → Pairs ◌≡◌ a b p → ⊥
  none_identical h p same = h (λ v. v) identity_allowed (word_of p) (is_wanted same)

  module _ {now : Bindings} {w : List ℕ} (best : IsBest themselves now (Pairing a b) w) where
    allowed : Allows now (extended (after_all now) now)
    allowed = extended_allowed now best.matching (after_all now) (all_below now)

    least_identical : (p : PairTree) × IsLeastIdentical a b p × (w ≡ word_of p)
    least_identical = (
      best.fills.0,
      record {
        pairs = pairs_over (variables_among a) (λ h k inside e. sym (heads_fixed (extended (after_all now) now) (best.narrower (extended (after_all now) now) allowed) h inside) ∙ e)
            (pairs_under (extended (after_all now) now) allowed best.fills.1) (λ v o. o);
        least = λ q same. subst (λ w. IsNotAfter w (word_of q)) best.fills.2 (best.least (λ v. v) identity_allowed (word_of q) (is_wanted same));
      },
      best.fills.2,
    )

  -- so the search gives the least, or says that there is none
  module _ {s : Bindings} (now : Bindings) {left right : List Coordinate} (e : s ≡ themselves) (f : left ≡ a) (g : right ≡ b) where
    pub is_least : (found : Result (Option (List ℕ)) NoMemory) → IfOk found (λ answer. IfSome answer (IsBest s now (Pairing left right)))
        → IfOk found (λ answer. IfSome answer (λ w. (p : PairTree) × IsLeastIdentical a b p × (w ≡ word_of p)))
    is_least (Err _) is = tt
    is_least (Ok None) is = tt
    is_least (Ok (Some w)) is = least_identical (best_handed e f g is)

    pub is_none : (found : Result (Option (List ℕ)) NoMemory) → IfOk found (λ answer. answer ≡ None → HasNone s (Pairing left right))
        → IfOk found (λ answer. answer ≡ None → (p : PairTree) → ¬ (Pairs ◌≡◌ a b p))
    is_none (Err _) is = tt
    is_none (Ok answer) is = λ none. none_identical (none_handed e f g (is none))
