-- Counts that don't fall, over calls that follow one another.
use Rattle.std.proofs.Common.{◌≡◌, ℕ, ◌≤◌, List, ap, arith}
use Rattle.std.specs.Prelude.{IsErrOf, Result}
use Rattle.sig_base.specs.Faults.{HasCauseAt, NoneFell, Rose}
use Rattle.sig_base.specs.declared.files.Trouble.{Trouble}
use Rattle.sig_base.specs.declared.files.Trouble.TheVariants.{Failed}

pub NoneFell-refl : (counts : List ℕ → ℕ) → NoneFell counts counts
NoneFell-refl counts path = omega arith

pub NoneFell-trans : (first then last : List ℕ → ℕ) → NoneFell first then → NoneFell then last → NoneFell first last
NoneFell-trans first then last early late path = omega (arith, early path, late path)

-- what rose since a later moment rose since an earlier one
pub Rose-since : (first then last : ℕ) → first ≤ then → Rose then last → Rose first last
Rose-since first then last early late = omega arith

-- counts that stay are the cause of nothing
pub cause-same : {T : Type 0} {path : List ℕ} {result : Result T Trouble} (before now : List ℕ → ℕ) → ¬ (IsErrOf result Failed) → now ≡ before → HasCauseAt path before now result
cause-same before now unfailed same = record {
  kept = λ path. omega (arith, ap (λ counts. counts path) same);
  failed = λ failed. absurd (unfailed failed);
}
