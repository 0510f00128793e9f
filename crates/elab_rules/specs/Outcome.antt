-- What elaboration comes to, and the answers that give it.
use Rattle.std.specs.Prelude.{◌≡◌, Result, Ok, Err}
use Rattle.elab_types.specs.Outcome as general
use Rattle.elab_types.specs.Outcome.{failed}
use Rattle.elab_rules.specs.declared.refusal.Why.{Why}
use Rattle.elab_rules.specs.declared.refusal.ElabRefusal.{ElabRefusal}
use Rattle.elab_rules.specs.declared.refusal.ElabRefusal.TheVariants.{Refused, NoMemory}

-- a value, or the first condition that failed
abbrev pub Outcome : Type 0 → Type 0
Outcome A = general.Outcome Why A

-- the answer is the outcome; want of memory is free
abbrev pub Gives : {A : Type 0} → Outcome A → Result A ElabRefusal → Type 0
Gives outcome (Ok a) = outcome ≡ Ok a
Gives outcome (Err (Refused why token)) = outcome ≡ failed why token
Gives outcome (Err NoMemory) = Unit {0}

-- the same where a state goes along
abbrev pub GivesWith : {A S : Type 0} → Outcome (A × S) → Result A ElabRefusal → S → Type 0
GivesWith outcome (Ok a) state = outcome ≡ Ok (a, state)
GivesWith outcome (Err (Refused why token)) state = outcome ≡ failed why token
GivesWith outcome (Err NoMemory) state = Unit {0}

-- the same where the value is what a thing is afterwards
abbrev pub Agrees : {A : Type 0} → Outcome A → Result (Unit {0}) ElabRefusal → A → Type 0
Agrees outcome (Ok done) a = outcome ≡ Ok a
Agrees outcome (Err (Refused why token)) a = outcome ≡ failed why token
Agrees outcome (Err NoMemory) a = Unit {0}
