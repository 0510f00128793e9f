-- Phrases that are elaborated in turn.
use Rattle.std.proofs.Common.{◌≡◌, ℕ, ◌+◌, ◌<◌, List, length, drop, get_or, Result, Ok, Err, IsErrAnd, sym, ap, ◌∙◌, subst}
use Rattle.elab_rules.specs.declared.body.Body.{Body}
use Rattle.elab_rules.specs.declared.progress.Progress.{Progress}
use Rattle.elab_rules.specs.declared.refusal.ElabRefusal.{ElabRefusal}
use Rattle.elab_rules.specs.declared.refusal.ElabRefusal.TheVariants.{Refused, NoMemory}
use Rattle.elab_rules.specs.Bodies.{Described, Site, Specified, in_turn}
use Rattle.elab_rules.specs.Environments.{Environment}
use Rattle.elab_types.specs.Outcome.{and_then}
use Rattle.elab_rules.specs.States.{State}
use Rattle.elab_rules.specs.Views.{GivesBody}
use Rattle.elab_types.proofs.Lists.{dropped}
use Rattle.elab_rules.proofs.Outcomes.{handed_on}

-- an answer for one outcome is one for another that is the same
pub body_same : (o p : Described) (result : Result Body ElabRefusal) (s : Progress) → o ≡ p → GivesBody p result s → GivesBody o result s
body_same o p result s same gives = subst (λ q. GivesBody q result s) (sym same) gives

-- a step that fails ends what follows it
body_fails : (o : Described) (next : Environment × State → Described) (e : ElabRefusal) (s : Progress) → GivesBody o (Err e) s → GivesBody (and_then o next) (Err e) s
body_fails o next (Refused why token) s gives = ap (λ q. and_then q next) gives
body_fails o next NoMemory s gives = tt

pub ends : (o : Described) (next : Environment × State → Described) (whole : Described) (result : Result Body ElabRefusal) (e : ElabRefusal) (s : Progress)
    → and_then o next ≡ whole → IsErrAnd result (λ other. other ≡ e) → GivesBody o (Err e) s → GivesBody whole result s
ends o next whole result e s is handed gives =
    subst (λ r. GivesBody whole r s) (sym (handed_on result e handed)) (subst (λ q. GivesBody q (Err e) s) is (body_fails o next e s gives))

turn : {A : Type 0} (step : A → Specified) (xs : List A) (i : ℕ) (x d : A) (site : Site) (env : Environment) (s : State) → i < length xs → x ≡ get_or xs i d
    → in_turn step (drop i xs) site env s ≡ and_then (step x site env s) (λ r. in_turn step (drop (i + 1) xs) site r.0 r.1)
turn step xs i x d site env s within is = ap (λ rest. in_turn step rest site env s) (dropped xs i x d within is)

-- the one whose turn it is fails
pub turn_ends : {A : Type 0} (step : A → Specified) (xs : List A) (i : ℕ) (x d : A) (site : Site) (env : Environment) (s : State) (t : Progress) (whole : Described) (result : Result Body ElabRefusal) (e : ElabRefusal)
    → i < length xs → x ≡ get_or xs i d → in_turn step (drop i xs) site env s ≡ whole → IsErrAnd result (λ other. other ≡ e) → GivesBody (step x site env s) (Err e) t → GivesBody whole result t
turn_ends step xs i x d site env s t whole result e within is so_far handed gives =
    ends (step x site env s) _ whole result e t (sym (turn step xs i x d site env s within is) ∙ so_far) handed gives

-- it doesn't
pub turn_goes_on : {A : Type 0} (step : A → Specified) (xs : List A) (i : ℕ) (x d : A) (site : Site) (env more : Environment) (s t : State) (whole : Described)
    → i < length xs → x ≡ get_or xs i d → in_turn step (drop i xs) site env s ≡ whole → step x site env s ≡ Ok (more, t) → in_turn step (drop (i + 1) xs) site more t ≡ whole
turn_goes_on step xs i x d site env more s t whole within is so_far ok =
    sym (ap (λ o. and_then o (λ r. in_turn step (drop (i + 1) xs) site r.0 r.1)) ok) ∙ sym (turn step xs i x d site env s within is) ∙ so_far

-- the same where the next one stands at a site that is no other
pub turn_moves_on : {A : Type 0} (step : A → Specified) (xs : List A) (i : ℕ) (x d : A) (site next : Site) (env more : Environment) (s t : State) (whole : Described)
    → next ≡ site → i < length xs → x ≡ get_or xs i d → in_turn step (drop i xs) site env s ≡ whole → step x site env s ≡ Ok (more, t) → in_turn step (drop (i + 1) xs) next more t ≡ whole
turn_moves_on step xs i x d site next env more s t whole same within is so_far ok =
    ap (λ at. in_turn step (drop (i + 1) xs) at more t) same ∙ turn_goes_on step xs i x d site env more s t whole within is so_far ok
