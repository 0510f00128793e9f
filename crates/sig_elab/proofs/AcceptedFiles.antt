-- Files that are accepted leave a sound basis.
use Rattle.std.proofs.Common.{◌≡◌, Result, Ok, Err, IfOk}
use Rattle.sig_elab.specs.declared.draft.Draft.{Draft}
use Rattle.elab_rules.specs.declared.refusal.ElabRefusal.{ElabRefusal}
use Rattle.sig_elab.specs.Elaborators.{GivesBasis, basis_of}
use Rattle.elab_rules.specs.Library.{Basis}
use Rattle.elab_rules.specs.Outcome.{Outcome}
use Rattle.elab_soundness.specs.Soundness.{IsSoundBasis}

pub accepted_sound : (o : Outcome Basis) (result : Result Draft ElabRefusal) → ((now : Basis) → o ≡ Ok now → IsSoundBasis now) → GivesBasis o result → IfOk result (λ after. IsSoundBasis (basis_of after))
accepted_sound o (Ok draft) sound given = sound (basis_of draft) given
accepted_sound o (Err refusal) sound given = tt
