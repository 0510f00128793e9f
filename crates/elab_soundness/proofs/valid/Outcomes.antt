-- What phrases in turn keep.
use Rattle.std.proofs.Common.{◌≡◌, List, [], ◌∷◌, Ok, subst}
use Rattle.std.proofs.lemmas.List.Elements.{All-head, All-tail}
use Rattle.std.specs.List.{All}
use Rattle.elab_types.proofs.Outcomes.{ok_is, then_parts}
use Rattle.elab_rules.specs.Bodies.{Site, Specified, in_turn}
use Rattle.elab_rules.specs.Environments.{Environment}
use Rattle.elab_rules.specs.States.{State}

-- what each phrase keeps, phrases in turn keep
pub kept_in_turn : {A : Type 0} (Spelled : A → Type 0) (Keeps : Environment → State → Type 0) (step : A → Specified) (site : Site)
    → ((x : A) (own : Environment) (s : State) (r : Environment × State) → Spelled x → Keeps own s → step x site own s ≡ Ok r → Keeps r.0 r.1)
    → (xs : List A) (own : Environment) (s : State) (r : Environment × State) → All Spelled xs → Keeps own s → in_turn step xs site own s ≡ Ok r → Keeps r.0 r.1
kept_in_turn Spelled Keeps step site one [] own s r spelled keeps e = subst_pair Keeps (ok_is (own, s) r e) keeps
  where
    subst_pair : (P : Environment → State → Type 0) {a b : Environment × State} → a ≡ b → P a.0 a.1 → P b.0 b.1
    subst_pair P e k = subst (λ (x : Environment × State). P x.0 x.1) e k
kept_in_turn Spelled Keeps step site one (x ∷ xs) own s r spelled keeps e =
    let p = then_parts (step x site own s) (λ q. in_turn step xs site q.0 q.1) r e in
    kept_in_turn Spelled Keeps step site one xs p.0.0 p.0.1 r (All-tail Spelled x xs spelled) (one x own s p.0 (All-head Spelled x xs spelled) keeps p.1) p.2
