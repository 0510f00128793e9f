-- One binding: its right side, its weight, its unit and the limits of the library.
use Rattle.std.proofs.Common.{◌≡◌, ℕ, ◌+◌, ◌≤◌, ◌&&◌, nat_le, List, [], ◌∷◌, ◌++◌, length, take, Result, Ok, Err, IsErrAnd, sym, ap, ◌∙◌, subst, arith}
use Rattle.std.proofs.lemmas.List.{append_assoc, append_cancel_left, length-append, take-append-le}
use Rattle.type_core.specs.declared.library.UnitKind.{UnitKind}
use Rattle.type_core.specs.Weight.{library_weight}
use Rattle.sig_elab.specs.declared.draft.Draft.{Draft}
use Rattle.sig_elab.specs.declared.totals.Totals.{Totals}
use Rattle.elab_env.specs.Table.{Table}
use Rattle.elab_rules.specs.declared.entry.UnitEntry.{UnitEntry}
use Rattle.elab_rules.specs.declared.progress.Progress.{Progress}
use Rattle.elab_rules.specs.declared.refusal.ElabRefusal.{ElabRefusal}
use Rattle.elab_rules.specs.declared.refusal.ElabRefusal.TheVariants.{Refused, NoMemory}
use Rattle.elab_rules.specs.Bodies.{Described}
use Rattle.sig_elab.specs.Elaborators.{GivesBasis}
use Rattle.elab_rules.specs.Environments.{Environment}
use Rattle.elab_rules.specs.Files.{bound, library_limited, normal_sum, top_site, unit_made}
use Rattle.elab_rules.specs.Library.{Basis, library}
use Rattle.elab_rules.specs.Outcome.{Agrees, Outcome}
use Rattle.elab_types.specs.Outcome.{and_then, failed}
use Rattle.elab_types.specs.Sources.{text_at}
use Rattle.elab_rules.specs.Specifications.{Signature}
use Rattle.elab_rules.specs.States.{State, weighed}
use Rattle.sig_elab.specs.Totals.{AreTotals}
use Rattle.elab_rules.specs.Views.{body_at, entries_at}
use Rattle.elab_rules.proofs.Outcomes.{handed_on}
use Rattle.elab_types.proofs.Outcomes.{checked_parts, ok_is, then_parts}

-- ---- outcomes that a refusal answers
abbrev pub Fails : {A : Type 0} → Outcome A → ElabRefusal → Type 0
Fails outcome (Refused why token) = outcome ≡ failed why token
Fails outcome NoMemory = Unit {0}

fails_then : {A B : Type 0} (o : Outcome A) (next : A → Outcome B) (e : ElabRefusal) → Fails o e → Fails (and_then o next) e
fails_then o next (Refused why token) fails = ap (λ q. and_then q next) fails
fails_then o next NoMemory fails = tt

fails_same : {A : Type 0} (o p : Outcome A) (e : ElabRefusal) → o ≡ p → Fails p e → Fails o e
fails_same o p e same fails = subst (λ q. Fails q e) (sym same) fails

pub step_failed : {A : Type 0} (o : Outcome A) (e : ElabRefusal) (a : A) → Agrees o (Err e) a → Fails o e
step_failed o (Refused why token) a gives = gives
step_failed o NoMemory a gives = tt

basis_failed : (o : Outcome Basis) (e : ElabRefusal) → Fails o e → GivesBasis o (Err e)
basis_failed o (Refused why token) fails = fails
basis_failed o NoMemory fails = tt

pub refused_with : (o : Outcome Basis) (result : Result Draft ElabRefusal) (e : ElabRefusal) → IsErrAnd result (λ other. other ≡ e) → Fails o e → GivesBasis o result
refused_with o result e handed fails = subst (λ r. GivesBasis o r) (sym (handed_on result e handed)) (basis_failed o e fails)

-- ---- the steps of a binding
module _ (kind : UnitKind) (texts : List (List ℕ)) (seen : List UnitEntry) (declaring : List (List ℕ)) (bind : ℕ × Signature) (token : ℕ) (is : bind.0 ≡ token) (units : List UnitEntry) (s : State) where
  abbrev next_limit : Environment → State → Outcome Basis
  next_limit entries after = library_limited token (record { units = units ++ unit_made kind (text_at texts token) entries (length s.names) (length after.names) ∷ []; state = after })

  abbrev next_weight : Environment × State → Outcome Basis
  next_weight r = and_then (weighed (1 + length (text_at texts token)) token r.1) (next_limit r.0)

  abbrev whole : Outcome Basis
  whole = bound kind texts seen declaring bind (record { units = units; state = s })

  abbrev first : Described
  first = bind.1.elaborated (top_site texts seen declaring (text_at texts token)) s

  steps : whole ≡ and_then first next_weight
  steps = ap (λ t. bound kind texts seen declaring (t, bind.1) (record { units = units; state = s })) is

  module _ (entries : Environment) (t : State) (ok : first ≡ Ok (entries, t)) where
    second : whole ≡ next_weight (entries, t)
    second = steps ∙ ap (λ o. and_then o next_weight) ok

    -- its weight is too much
    pub second_fails : (e : ElabRefusal) → Fails (weighed (1 + length (text_at texts token)) token t) e → Fails whole e
    second_fails e fails = fails_same _ _ e second (fails_then _ _ e fails)

    module _ (after : State) (weight : weighed (1 + length (text_at texts token)) token t ≡ Ok after) (unit : UnitEntry) (u : unit ≡ unit_made kind (text_at texts token) entries (length s.names) (length after.names)) where
      third : whole ≡ library_limited token (record { units = units ++ unit ∷ []; state = after })
      third =
          second
          ∙ ap (λ o. and_then o (next_limit entries)) weight
          ∙ ap (λ (x : UnitEntry). library_limited token (record { units = units ++ x ∷ []; state = after })) (sym u)

      -- the library is beyond its limits
      pub third_fails : (e : ElabRefusal) → Fails (library_limited token (record { units = units ++ unit ∷ []; state = after })) e → Fails whole e
      third_fails e fails = fails_same _ _ e third fails

      -- nothing fails
      pub bound_is : (before added more : List UnitEntry) → units ≡ before ++ added → more ≡ added ++ unit ∷ []
          → library_limited token (record { units = units ++ unit ∷ []; state = after }) ≡ Ok (record { units = units ++ unit ∷ []; state = after }) → whole ≡ Ok (record { units = before ++ more; state = after })
      bound_is before added more e m fits =
          third ∙ fits
          ∙ ap (λ (us : List UnitEntry). Ok (record { units = us; state = after }))
          (ap (λ us. us ++ unit ∷ []) e ∙ append_assoc before added (unit ∷ []) ∙ ap (λ us. before ++ us) (sym m))

-- it sees the same units
pub seen_as : (texts : List (List ℕ)) (now seen : List UnitEntry) (declaring : List (List ℕ)) (id : List ℕ) (bind : ℕ × Signature) (s : State) (o : Described) → now ≡ seen → bind.1.elaborated (top_site texts now declaring id) s ≡ o
    → bind.1.elaborated (top_site texts seen declaring id) s ≡ o
seen_as texts now seen declaring id bind s o same is = ap (λ us. bind.1.elaborated (top_site texts us declaring id) s) (sym same) ∙ is

-- ---- the unit
pub unit_is : (kind : UnitKind) (id text : List ℕ) (p q : Progress) (entries : Environment) (first begun after : ℕ) (unit : UnitEntry) → unit ≡ unit_made kind id (body_at q entries) first after → id ≡ text → q.table ≡ p.table → first ≡ begun
    → unit ≡ unit_made kind text (body_at p entries) begun after
unit_is kind id text p q entries first begun after unit is t same f =
    is
    ∙ ap (λ i. unit_made kind i (body_at q entries) first after) t
    ∙ ap (λ (table : Table). unit_made kind text (entries_at table entries) first after) same
    ∙ ap (λ n. unit_made kind text (body_at p entries) n after) f

-- ---- what a binding leaves
limited_is : (token : ℕ) (basis after : Basis) → library_limited token basis ≡ Ok after → after ≡ basis
limited_is token basis after e =
    let many = checked_parts (nat_le (length (library basis).members) 100000) _ token _ after e in
    let heavy = checked_parts (nat_le (library_weight (library basis)) 8000000 && nat_le (normal_sum basis) 4000000) _ token (Ok basis) after many.1 in
    sym (ok_is basis after heavy.1)

-- the units, and one more
pub bound_adds : (kind : UnitKind) (texts : List (List ℕ)) (seen : List UnitEntry) (declaring : List (List ℕ)) (bind : ℕ × Signature) (basis after : Basis) → bound kind texts seen declaring bind basis ≡ Ok after
    → (unit : UnitEntry) × (after.units ≡ basis.units ++ unit ∷ [])
bound_adds kind texts seen declaring bind basis after e =
    let id = text_at texts bind.0 in
    let limits : Environment × State → State → Outcome Basis = λ r now. library_limited bind.0 (record { units = basis.units ++ unit_made kind id r.0 (length basis.state.names) (length now.names) ∷ []; state = now }) in
    let a = then_parts (bind.1.elaborated (top_site texts seen declaring id) basis.state) (λ r. and_then (weighed (1 + length id) bind.0 r.1) (limits r)) after e in
    let b = then_parts (weighed (1 + length id) bind.0 a.0.1) (limits a.0) after a.2 in
    (unit_made kind id a.0.0 (length basis.state.names) (length b.0.names), ap (λ (x : Basis). x.units) (limited_is bind.0 _ after b.2))

-- what a declaration sees of a file's units stays, as units come after them
pub seen_stays : (n : ℕ) (before front added more : List UnitEntry) (unit : UnitEntry) → front ++ more ≡ (before ++ added) ++ unit ∷ [] → front ≡ before → n ≤ length added → (take n more ≡ take n added) × (n ≤ length more)
seen_stays n before front added more unit e same within =
    let grown : more ≡ added ++ unit ∷ []
    = append_cancel_left before more (added ++ unit ∷ []) (ap (λ us. us ++ more) (sym same) ∙ e ∙ append_assoc before added (unit ∷ [])) in (
      ap (take n) grown ∙ take-append-le n added (unit ∷ []) within,
      omega (arith, within, ap length grown, length-append added (unit ∷ [])),
    )

-- ---- the totals with one unit more
pub totals_stay : (totals : Totals) (before added more : List UnitEntry) (unit : UnitEntry) (s : State) → more ≡ added ++ unit ∷ [] → AreTotals totals (record { units = (before ++ added) ++ unit ∷ []; state = s })
    → AreTotals totals (record { units = before ++ more; state = s })
totals_stay totals before added more unit s m are = subst (λ units. AreTotals totals (record { units = units; state = s })) (append_assoc before added (unit ∷ []) ∙ ap (λ xs. before ++ xs) (sym m)) are
