-- Outcomes of steps, and the answers that give them.
use Rattle.std.proofs.Common.{◌≡◌, Result, Err, IsErrAnd, sym, ap, ◌∙◌, subst}
use Rattle.std.proofs.lemmas.Result.{err_from_is_err_and}
use Rattle.elab_rules.specs.declared.refusal.ElabRefusal.{ElabRefusal}
use Rattle.elab_rules.specs.declared.refusal.ElabRefusal.TheVariants.{Refused, NoMemory}
use Rattle.elab_rules.specs.Outcome.{Outcome, GivesWith}
use Rattle.elab_types.specs.Outcome.{and_then}

-- what the exit of a `?` hands on
pub handed_on : {A : Type 0} (result : Result A ElabRefusal) (e : ElabRefusal) → IsErrAnd result (λ other. other ≡ e) → result ≡ Err e
handed_on result e is = let found = err_from_is_err_and result is in found.1 ∙ ap Err found.2

-- an answer for one outcome is one for another that is the same
pub gives_same : {A S : Type 0} (o p : Outcome (A × S)) (result : Result A ElabRefusal) (s : S) → o ≡ p → GivesWith p result s → GivesWith o result s
gives_same o p result s same gives = subst (λ q. GivesWith q result s) (sym same) gives

-- a step that fails ends what follows it
pub fails_then : {A B S : Type 0} (o : Outcome (A × S)) (next : A × S → Outcome (B × S)) (e : ElabRefusal) (s t : S) → GivesWith {A = A} o (Err e) s → GivesWith {A = B} (and_then o next) (Err e) t
fails_then o next (Refused why token) s t gives = ap (λ q. and_then q next) gives
fails_then o next NoMemory s t gives = tt

pub fails_whole : {A B S : Type 0} (o : Outcome (A × S)) (next : A × S → Outcome (B × S)) (whole : Outcome (B × S)) (result : Result B ElabRefusal) (e : ElabRefusal) (s t : S)
    → and_then o next ≡ whole → result ≡ Err e → GivesWith {A = A} o (Err e) s → GivesWith whole result t
fails_whole o next whole result e s t is handed gives =
    subst (λ r. GivesWith whole r t) (sym handed) (subst (λ q. GivesWith q (Err e) t) is (fails_then o next e s t gives))
