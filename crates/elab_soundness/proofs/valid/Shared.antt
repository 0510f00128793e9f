-- Sharing specifications keep a body sound.
use Rattle.std.proofs.Common.{◌≡◌, ℕ, ◌==◌, Bool, true, false, if◌then◌else◌, List, [], ◌∷◌, ◌++◌, length, slice_get, Option, Some, None, Ok, eqb-true, refl, subst}
use Rattle.std.proofs.lemmas.List.Elements.{All-cons, All-nil}
use Rattle.std.specs.List.{All}
use Rattle.type_core.specs.declared.type_fn.TypeFn.{TypeFn}
use Rattle.elab_env.specs.Names.{arity_of}
use Rattle.elab_rules.specs.declared.refusal.Why.TheVariants.{ArityClash, NotFlexible}
use Rattle.elab_rules.specs.Bodies.{Described, Site}
use Rattle.elab_rules.specs.Environments.{Environment}
use Rattle.sig_base.specs.LongIdentifiers.{parts}
use Rattle.elab_rules.specs.LongIdentifiers.{Found, structure_along, type_along}
use Rattle.elab_rules.specs.Outcome.{Outcome}
use Rattle.elab_types.specs.Outcome.{and_then, checked, required}
use Rattle.elab_rules.specs.Replacing.{flexible}
use Rattle.elab_rules.specs.Sharing.{entries_of, first_shared, flexible_at, functions_shared, if_both, joined, others_flexible, pair_joined, pairs_shared, paths_shared, same_function, shared, structures_found, structures_shared, type_paths, types_shared}
use Rattle.elab_types.specs.Sources.{text_at}
use Rattle.elab_rules.specs.States.{State}
use Rattle.elab_soundness.proofs.valid.Body.{IsSoundBody, IsSoundSite}
use Rattle.elab_soundness.proofs.valid.Joins.{IsFlexible, MayJoin, flexible_parts, joined_names_body}
use Rattle.elab_types.proofs.Outcomes.{checked_parts, ok_is, required_parts, then_parts}

module _ (tops : List (List ℕ)) (base : State) (site : Site) (seen : IsSoundSite tops base site) (begun : site.base ≡ length base.names) where
  abbrev Body : Environment × State → Type 0
  Body r = IsSoundBody tops base site.path r.0 r.1

  abbrev May : ℕ → State → ℕ → Type 0
  May = MayJoin tops base site.path seen.counted seen.later

  abbrev Flexible : State → ℕ → Type 0
  Flexible s n = IsFlexible (length base.names) s n

  is_flexible : (s : State) (f : TypeFn) (n : ℕ) → flexible site.base s f ≡ Some n → Flexible s n
  is_flexible s f n e = subst (λ k. IsFlexible k s n) begun (flexible_parts site.base s f n e)

  at_token : (token : ℕ) (own : Environment) (s : State) (n : ℕ) → flexible_at token site own s ≡ Ok n → Flexible s n
  at_token token own s n e =
      let last : ℕ → Outcome ℕ = λ k. Ok k in
      let next : Found → Outcome ℕ = λ found. required (flexible site.base s found.entry.fun) NotFlexible token last in
      let a = required_parts (type_along (parts (text_at site.texts token)) own) _ token next n e in
      let b = required_parts (flexible site.base s a.0.entry.fun) _ token last n a.2 in
      subst (Flexible s) (ok_is b.0 n b.2) (is_flexible s a.0.entry.fun b.0 b.1)

  may_join : (s : State) (n arity : ℕ) → Flexible s n → arity_of (slice_get s.names n) ≡ arity → May arity s n
  may_join s n arity f e = record { flexible = f; same = e }

  others : (arity : ℕ) (tokens : List ℕ) (own : Environment) (s : State) (ns : List ℕ) → others_flexible arity tokens site own s ≡ Ok ns → All (May arity s) ns
  others arity [] own s ns e = subst (All (May arity s)) (ok_is [] ns e) (All-nil _)
  others arity (token ∷ tokens) own s ns e =
      let last : ℕ → List ℕ → Outcome (List ℕ) = λ n ms. Ok (n ∷ ms) in
      let next : ℕ → Outcome (List ℕ) = λ n. checked (arity_of (slice_get s.names n) == arity) ArityClash token (and_then (others_flexible arity tokens site own s) (last n)) in
      let a = then_parts (flexible_at token site own s) next ns e in
      let b = checked_parts (arity_of (slice_get s.names a.0) == arity) _ token _ ns a.2 in
      let c = then_parts (others_flexible arity tokens site own s) (last a.0) ns b.1 in
      subst (All (May arity s)) (ok_is (a.0 ∷ c.0) ns c.2)
      (All-cons (May arity s) a.0 c.0 (may_join s a.0 arity (at_token token own s a.0 a.1) (eqb-true (arity_of (slice_get s.names a.0)) arity b.0)) (others arity tokens own s c.0 c.1))

  joined_kept : (arity n : ℕ) (ns : List ℕ) (own : Environment) (s : State) → Body (own, s) → May arity s n → All (May arity s) ns → Body (joined (n ∷ ns) own s)
  joined_kept arity n ns own s h m ms = joined_names_body tops base site.path seen.counted seen.later arity n ns own s h (All-cons (May arity s) n ns m ms)

  pub types_shared_kept : (tokens : List ℕ) (own : Environment) (s : State) (r : Environment × State) → Body (own, s) → types_shared tokens site own s ≡ Ok r → Body r
  types_shared_kept [] own s r h e = subst Body (ok_is (own, s) r e) h
  types_shared_kept (token ∷ tokens) own s r h e =
      let last : ℕ → List ℕ → Described = λ n ns. Ok (joined (n ∷ ns) own s) in
      let next : ℕ → Described = λ n. and_then (others_flexible (arity_of (slice_get s.names n)) tokens site own s) (last n) in
      let a = then_parts (flexible_at token site own s) next r e in
      let arity = arity_of (slice_get s.names a.0) in
      let b = then_parts (others_flexible arity tokens site own s) (last a.0) r a.2 in
      subst Body (ok_is (joined (a.0 ∷ b.0) own s) r b.2) (joined_kept arity a.0 b.0 own s h (may_join s a.0 arity (at_token token own s a.0 a.1) refl) (others arity tokens own s b.0 b.1))

  -- ---- structures
  functions_kept : (f g : TypeFn) (token : ℕ) (own : Environment) (s : State) (r : Environment × State) → Body (own, s) → functions_shared f g token site own s ≡ Ok r → Body r
  functions_kept f g token own s r h e = by_case (same_function f g) e
    where
      last : ℕ → ℕ → Described
      last n m = pair_joined n m token own s

      apart : required (flexible site.base s f) NotFlexible token (λ n. required (flexible site.base s g) NotFlexible token (last n)) ≡ Ok r → Body r
      apart e' =
          let a = required_parts (flexible site.base s f) NotFlexible token (λ n. required (flexible site.base s g) NotFlexible token (last n)) r e' in
          let b = required_parts (flexible site.base s g) _ token (last a.0) r a.2 in
          let c = checked_parts (arity_of (slice_get s.names a.0) == arity_of (slice_get s.names b.0)) ArityClash token (Ok (joined (a.0 ∷ b.0 ∷ []) own s)) r b.2 in
          let arity = arity_of (slice_get s.names b.0) in
          let first = may_join s a.0 arity (is_flexible s f a.0 a.1) (eqb-true (arity_of (slice_get s.names a.0)) arity c.0) in
          let second = may_join s b.0 arity (is_flexible s g b.0 b.1) refl in
          subst Body (ok_is (joined (a.0 ∷ b.0 ∷ []) own s) r c.1) (joined_kept arity a.0 (b.0 ∷ []) own s h first (All-cons (May arity s) b.0 [] second (All-nil (May arity s))))

      by_case : (b : Bool) → (if b then Ok (own, s) else required (flexible site.base s f) NotFlexible token (λ n. required (flexible site.base s g) NotFlexible token (λ m. pair_joined n m token own s))) ≡ Ok r → Body r
      by_case true e' = subst Body (ok_is (own, s) r e') h
      by_case false e' = apart e'

  both_kept : (f g : Option Found) (token : ℕ) (own : Environment) (s : State) (r : Environment × State) → Body (own, s) → if_both f g token site own s ≡ Ok r → Body r
  both_kept None g token own s r h e = subst Body (ok_is (own, s) r e) h
  both_kept (Some f) None token own s r h e = subst Body (ok_is (own, s) r e) h
  both_kept (Some f) (Some g) token own s r h e = functions_kept f.entry.fun g.entry.fun token own s r h e

  paths_kept : (a b : List (List ℕ)) (token : ℕ) (paths : List (List (List ℕ))) (own : Environment) (s : State) (r : Environment × State) → Body (own, s) → paths_shared a b token paths site own s ≡ Ok r → Body r
  paths_kept a b token [] own s r h e = subst Body (ok_is (own, s) r e) h
  paths_kept a b token (path ∷ paths) own s r h e =
      let next : Environment × State → Described = λ q. paths_shared a b token paths site q.0 q.1 in
      let p = then_parts (if_both (type_along (a ++ path) own) (type_along (b ++ path) own) token site own s) next r e in
      paths_kept a b token paths p.0.0 p.0.1 r (both_kept (type_along (a ++ path) own) (type_along (b ++ path) own) token own s p.0 h p.1) p.2

  first_kept : (i : ℕ) (js : List ℕ) (own : Environment) (s : State) (r : Environment × State) → Body (own, s) → first_shared i js site own s ≡ Ok r → Body r
  first_kept i [] own s r h e = subst Body (ok_is (own, s) r e) h
  first_kept i (j ∷ js) own s r h e =
      let next : Environment × State → Described = λ q. first_shared i js site q.0 q.1 in
      let p = then_parts (structures_shared i j site own s) next r e in
      first_kept i js p.0.0 p.0.1 r (paths_kept (parts (text_at site.texts i)) (parts (text_at site.texts j)) j (type_paths (entries_of (structure_along (parts (text_at site.texts i)) own))) own s p.0 h p.1) p.2

  pairs_kept : (tokens : List ℕ) (own : Environment) (s : State) (r : Environment × State) → Body (own, s) → pairs_shared tokens site own s ≡ Ok r → Body r
  pairs_kept [] own s r h e = subst Body (ok_is (own, s) r e) h
  pairs_kept (i ∷ js) own s r h e =
      let next : Environment × State → Described = λ q. pairs_shared js site q.0 q.1 in
      let p = then_parts (first_shared i js site own s) next r e in
      pairs_kept js p.0.0 p.0.1 r (first_kept i js own s p.0 h p.1) p.2

  pub shared_kept : (tokens : List ℕ) (own : Environment) (s : State) (r : Environment × State) → Body (own, s) → shared tokens site own s ≡ Ok r → Body r
  shared_kept tokens own s r h e = let p = then_parts (structures_found tokens site own) (λ done. pairs_shared tokens site own s) r e in pairs_kept tokens own s r h p.2
