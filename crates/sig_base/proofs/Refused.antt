-- Which trouble a refusal came from.
use Rattle.std.proofs.Common.{◌≡◌, refl}
use Rattle.std.specs.Prelude.{Result, Err}
use Rattle.sig_base.specs.Refusals.{refusal_of}
use Rattle.sig_base.specs.declared.files.Trouble.{Trouble}
use Rattle.sig_base.specs.declared.files.Trouble.TheVariants.{Failed, NoMemory as no_memory}
use Rattle.sig_base.specs.declared.read.ReadRefusal.{ReadRefusal}
use Rattle.sig_base.specs.declared.read.ReadRefusal.TheVariants.{ReadFault, TooLong}

pub never_too_long : {T : Type 0} (trouble : Trouble) → ◌≡◌ {A = Result T ReadRefusal} (Err (refusal_of trouble)) (Err TooLong) → ⊥
never_too_long Failed same = cc
never_too_long no_memory same = cc

pub fault_is_failed : {T : Type 0} (trouble : Trouble) → ◌≡◌ {A = Result T ReadRefusal} (Err (refusal_of trouble)) (Err ReadFault) → trouble ≡ Failed
fault_is_failed Failed same = refl
fault_is_failed no_memory same = cc
