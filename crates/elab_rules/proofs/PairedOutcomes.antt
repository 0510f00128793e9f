-- Outcomes that are pairs, and their parts.
use Rattle.std.proofs.Common.{◌≡◌, Ok, Err, ap}
use Rattle.elab_rules.specs.Outcome.{Outcome}

abbrev first_or : {A S : Type 0} → A → Outcome (A × S) → A
first_or a (Ok r) = r.0
first_or a (Err failure) = a

abbrev second_or : {A S : Type 0} → S → Outcome (A × S) → S
second_or s (Ok r) = r.1
second_or s (Err failure) = s

pub first_same : {A S : Type 0} (a b : A) (s t : S) → (let o : Outcome (A × S) = Ok (a, s) in o) ≡ Ok (b, t) → a ≡ b
first_same a b s t e = ap (first_or a) e

pub second_same : {A S : Type 0} (a b : A) (s t : S) → (let o : Outcome (A × S) = Ok (a, s) in o) ≡ Ok (b, t) → s ≡ t
second_same a b s t e = ap (second_or s) e
