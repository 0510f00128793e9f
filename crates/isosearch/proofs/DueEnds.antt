-- What a run ends with is due of what was read.
use Rattle.std.proofs.Common.{◌≡◌, ◌⊎◌, ◌≤◌, inl, inr, ℕ, List, refl, sym, subst, arith}
use Rattle.std.specs.Prelude.{Option, Some, None}
use Rattle.sig_base.specs.FileMap.{FileMap}
use Rattle.sig_base.specs.FileWrites.{Changes}
use Rattle.sig_base.specs.declared.files.Files.{Ghosts as AreFiles}
use Rattle.query_cli.specs.declared.command.Command.{Command}
use Rattle.lib_load.specs.Given.{FromGiven, Given, held}
use Rattle.isosearch.specs.Asked.{OfHeld, limit_of, paths_of}
use Rattle.isosearch.specs.Ending.{Completes, EndsAsDue, EndsWith, IsAnswered, IsDecided, OfGiven, Writes, WritesPart}
use Rattle.isosearch.specs.Indexed.{ChangesNoByte}
use Rattle.isosearch.specs.Outcome.{Due, Outcome, Write}
use Rattle.isosearch.specs.Outside.{Outside}

-- at most one outcome is due of what was read
abbrev pub OneOutcome : Type 0
OneOutcome = (asked : Command) (givens : List Given) (a b : Outcome) → Due asked givens a → Due asked givens b → a ≡ b

-- an index file changes no byte of what is due
abbrev pub NoByteChanges : Type 0
NoByteChanges = (asked : Command) (givens : List Given) (outcome : Outcome) → Due asked givens outcome → ChangesNoByte asked givens outcome

-- what follows of what files hold that are told
pub from_held : (told : Option FileMap) (asked : Command) (P Q : List Given → Type 0) → ((givens : List Given) → P givens → Q givens) → OfHeld told asked P → OfHeld told asked Q
from_held None asked P Q step holds = tt
from_held (Some files) asked P Q step holds = step (held (limit_of asked) files (paths_of asked)) holds

pub of_held : (told : Option FileMap) (asked : Command) (Q : List Given → Type 0) → ((givens : List Given) → Q givens) → OfHeld told asked Q
of_held None asked Q holds = tt
of_held (Some files) asked Q holds = holds (held (limit_of asked) files (paths_of asked))

-- files that are told and stay are as they were
pub stays : (before now : Option FileMap) (write : Option Write) → now ≡ before → write ≡ None → Changes before now (Writes write)
stays None now write same none = tt
stays (Some files) now write same none = rw (same, none) refl

pub stays_part : (before now : Option FileMap) (write : Option Write) → now ≡ before → write ≡ None → Changes before now (WritesPart write)
stays_part None now write same none = tt
stays_part (Some files) now write same none = rw (same, none) refl

-- a run that ends with the outcome that is due of what was read has done what is due
pub completes : (F : Type 0) (asked : Command) (status : ℕ) (before now : Outside F) (givens : List Given) → EndsAsDue asked status before now givens → Completes asked status before now givens
completes F asked status before now givens ends = λ outcome due done sound.
    inl (subst (λ o. EndsWith o status before now) (sym (ends.only outcome due)) ends.ends)

-- a run that ends with an outcome that is due
pub as_due : (F : Type 0) (asked : Command) (status : ℕ) (before now : Outside F) (one : OneOutcome) (unchanged : NoByteChanges) (outcome : Outcome) → EndsWith outcome status before now → (givens : List Given) → Due asked givens outcome
    → EndsAsDue asked status before now givens
as_due F asked status before now one unchanged outcome ends givens due = record {
  outcome = outcome;
  due = due;
  only = λ other also. one asked givens other outcome also due;
  ends = ends;
  index = unchanged asked givens outcome due;
}

-- numbers of statuses
pub answered_not : (status n : ℕ) → IsAnswered status → status ≡ n → 2 ≤ n → ⊥
answered_not status n (inl is) also large = omega (arith, is, also, large)
answered_not status n (inr is) also large = omega (arith, is, also, large)

pub decided_not : (status n : ℕ) → IsDecided status → (n ≡ 6) ⊎ (n ≡ 7) → status ≡ n → ⊥
decided_not status n decided which is = by decided (within which)
  where
    within : (n ≡ 6) ⊎ (n ≡ 7) → (6 ≤ n) × (n ≤ 7)
    within (inl e) = (omega (arith, e), omega (arith, e))
    within (inr e) = (omega (arith, e), omega (arith, e))

    by : IsDecided status → (6 ≤ n) × (n ≤ 7) → ⊥
    by (inl e) (low, high) = omega (arith, e, is, low, high)
    by (inr (inl e)) (low, high) = omega (arith, e, is, low, high)
    by (inr (inr (inl e))) (low, high) = omega (arith, e, is, low, high)
    by (inr (inr (inr (inl e)))) (low, high) = omega (arith, e, is, low, high)
    by (inr (inr (inr (inr (inl e))))) (low, high) = omega (arith, e, is, low, high)
    by (inr (inr (inr (inr (inr e))))) (low, high) = omega (arith, e, is, low, high)

-- reading ended, and no file was touched afterwards
pub read_only : (F : Type 0) (files : AreFiles F) (asked : Command) (status : ℕ) (before now : Outside F) (P Q : List Given → Type 0) → now.read_faults ≡ files.read_faults now.files
    → ((givens : List Given) → P givens → Q givens) → FromGiven (limit_of asked) files.gives files.read_faults (paths_of asked) before.files now.files P → OfGiven files asked status before now Q
read_only F files asked status before now P Q counts step found = record {
  read = now.files;
  given = record { givens = found.givens; gave = found.gave; follows = step found.givens found.follows };
  no_read = counts;
  kept = λ not. refl;
}
