-- Answers that give outcomes.
use Rattle.std.proofs.Common.{◌≡◌, Result, Err, IsErrAnd, sym, ap, ◌∙◌, subst}
use Rattle.std.proofs.lemmas.Result.{err_from_is_err_and}
use Rattle.elab_types.specs.Outcome.{Outcome, and_then}
use Rattle.query_parser.specs.declared.refusal.QueryWhy.{QueryWhy}
use Rattle.query_parser.specs.declared.refusal.Stop.{Stop}
use Rattle.query_parser.specs.declared.refusal.Stop.TheVariants as stop
use Rattle.query_parser.specs.Views.{Gives}

-- what the exit of a `?` hands on
pub handed_on : {A : Type 0} (result : Result A Stop) (e : Stop) → IsErrAnd result (λ other. other ≡ e) → result ≡ Err e
handed_on result e is = let found = err_from_is_err_and result is in found.1 ∙ ap Err found.2

-- an answer for one outcome is one for another that is the same
pub gives_same : {A : Type 0} (o p : Outcome QueryWhy A) (result : Result A Stop) → o ≡ p → Gives p result → Gives o result
gives_same o p result same gives = subst (λ q. Gives q result) (sym same) gives

-- a step that fails ends what follows it
pub fails_then : {A B : Type 0} (o : Outcome QueryWhy A) (next : A → Outcome QueryWhy B) (e : Stop) → Gives {A = A} o (Err e) → Gives {A = B} (and_then o next) (Err e)
fails_then o next (stop.Failed why token) gives = ap (λ q. and_then q next) gives
fails_then o next stop.NoMemory gives = tt
