-- Types of many fields are too large.
use Rattle.std.proofs.Common.{◌≡◌, ℕ, ◌<◌, ◌≤◌, refl, List, length, arith}
use Rattle.std.proofs.lemmas.Bool.{lt-leb}
use Rattle.type_core.specs.declared.ty.Field.{Field}
use Rattle.type_core.specs.Size.{size_of}
use Rattle.elab_types.specs.Outcome.{failed}
use Rattle.elab_types.specs.Records.{in_label_order, record_of}
use Rattle.elab_rules.specs.declared.refusal.Why.TheVariants.{TypeTooLarge}
use Rattle.elab_rules.specs.States.{State}
use Rattle.elab_rules.specs.Types.{limited}

pub too_many : (first : ℕ) (fields : List Field) (s : State) → length fields < size_of (record_of (in_label_order fields)) → 2000 ≤ length fields → limited first (record_of (in_label_order fields)) s ≡ failed TypeTooLarge first
too_many first fields s less many =
    rw (lt-leb (size_of (record_of (in_label_order fields))) 2000 (let more : 2000 < size_of (record_of (in_label_order fields)) = omega (arith, less, many) in more)) refl
