-- Answers of steps that share, and what follows a step that fails.
use Rattle.std.proofs.Common.{◌≡◌, ℕ, Result, Err, IsErrAnd, List, sym, ap, ◌∙◌, subst}
use Rattle.type_core.specs.declared.ty.NameId.{NameId}
use Rattle.elab_rules.specs.declared.progress.Progress.{Progress}
use Rattle.elab_rules.specs.declared.refusal.ElabRefusal.{ElabRefusal}
use Rattle.elab_rules.specs.declared.refusal.ElabRefusal.TheVariants.{Refused, NoMemory}
use Rattle.elab_rules.specs.Bodies.{Described}
use Rattle.elab_rules.specs.Environments.{Environment}
use Rattle.elab_rules.specs.Outcome.{Outcome}
use Rattle.elab_types.specs.Outcome.{and_then, failed}
use Rattle.elab_rules.specs.Views.{AgreesBody, GivesName, GivesNames, Passes}
use Rattle.elab_rules.proofs.Outcomes.{handed_on}

-- the outcome is this refusal; want of memory is free
abbrev pub FailsWith : {A : Type 0} → Outcome A → ElabRefusal → Type 0
FailsWith o (Refused why token) = o ≡ failed why token
FailsWith o NoMemory = Unit {0}

-- a step that fails ends what follows it
pub fails_on : {A B : Type 0} (o : Outcome A) (next : A → Outcome B) (whole : Outcome B) (e : ElabRefusal) → and_then o next ≡ whole → FailsWith o e → FailsWith whole e
fails_on o next whole (Refused why token) is gives = sym is ∙ ap (λ q. and_then q next) gives
fails_on o next whole NoMemory is gives = tt

-- an outcome that is the same is the same refusal
pub fails_same : {A : Type 0} (o p : Outcome A) (e : ElabRefusal) → o ≡ p → FailsWith p e → FailsWith o e
fails_same o p e same gives = subst (λ q. FailsWith q e) (sym same) gives

-- ---- answers that are refusals
pub body_fails : (o : Described) (e : ElabRefusal) (entries : Environment) (q : Progress) → AgreesBody o (Err e) entries q → FailsWith o e
body_fails o (Refused why token) entries q gives = gives
body_fails o NoMemory entries q gives = tt

pub name_fails : (o : Outcome ℕ) (e : ElabRefusal) → GivesName o (Err e) → FailsWith o e
name_fails o (Refused why token) gives = gives
name_fails o NoMemory gives = tt

pub names_fail : (o : Outcome (List ℕ)) (e : ElabRefusal) → GivesNames o (Err e) → FailsWith o e
names_fail o (Refused why token) gives = gives
names_fail o NoMemory gives = tt

pub passes_fail : (A : Type 0) (o : Outcome (Unit {0})) (e : ElabRefusal) → Passes {A = A} o (Err e) → FailsWith o e
passes_fail A o (Refused why token) gives = gives
passes_fail A o NoMemory gives = tt

fails_body : (o : Described) (e : ElabRefusal) (entries : Environment) (q : Progress) → FailsWith o e → AgreesBody o (Err e) entries q
fails_body o (Refused why token) entries q gives = gives
fails_body o NoMemory entries q gives = tt

fails_names : (o : Outcome (List ℕ)) (e : ElabRefusal) → FailsWith o e → GivesNames o (Err e)
fails_names o (Refused why token) gives = gives
fails_names o NoMemory gives = tt

-- ---- what the exit of a `?` hands on
pub agrees_failed : (o : Described) (result : Result (Unit {0}) ElabRefusal) (e : ElabRefusal) (entries : Environment) (q : Progress) → IsErrAnd result (λ other. other ≡ e) → FailsWith o e → AgreesBody o result entries q
agrees_failed o result e entries q handed gives = subst (λ r. AgreesBody o r entries q) (sym (handed_on result e handed)) (fails_body o e entries q gives)

pub names_failed : (o : Outcome (List ℕ)) (result : Result (List NameId) ElabRefusal) (e : ElabRefusal) → IsErrAnd result (λ other. other ≡ e) → FailsWith o e → GivesNames o result
names_failed o result e handed gives = subst (GivesNames o) (sym (handed_on result e handed)) (fails_names o e gives)

-- an answer for one outcome is one for another that is the same
pub agrees_same : (o p : Described) (result : Result (Unit {0}) ElabRefusal) (entries : Environment) (q : Progress) → o ≡ p → AgreesBody p result entries q → AgreesBody o result entries q
agrees_same o p result entries q same gives = subst (λ r. AgreesBody r result entries q) (sym same) gives
