-- What holds of all units holds of a signature that was found among them.
use Rattle.std.proofs.Common.{◌≡◌, ℕ, Bool, true, false, if◌then◌else◌, bytes_eq, List, [], ◌∷◌, Option, Some, None, refl, sym, subst}
use Rattle.std.specs.List.{All}
use Rattle.std.specs.Option.{option_and_then, option_or}
use Rattle.std.proofs.lemmas.List.Elements.{All-head, All-tail}
use Rattle.type_core.specs.declared.library.UnitKind.{UnitKind}
use Rattle.type_core.specs.declared.library.UnitKind.TheVariants.{Sig, Str}
use Rattle.elab_rules.specs.declared.entry.UnitEntry.{UnitEntry}
use Rattle.elab_rules.specs.Copies.{if_signature, signature_in}
use Rattle.elab_rules.specs.LookUps.{unit_in}

module _ (P : UnitEntry → Type 0) (id : List ℕ) where
  unit_holds : (units : List UnitEntry) (unit : UnitEntry) → All P units → unit_in id units ≡ Some unit → P unit
  unit_holds [] unit all e = cc
  unit_holds (u ∷ units) unit all e = by_case (unit_holds units unit (All-tail P u units all)) (bytes_eq id u.id) e
    where
      by_case : (unit_in id units ≡ Some unit → P unit) → (b : Bool) → option_or (if b then Some u else None) (unit_in id units) ≡ Some unit → P unit
      by_case later true e = let same : u ≡ unit = cc in subst P same (All-head P u units all)
      by_case later false e = later e

  pub signature_holds : (units : List UnitEntry) (unit : UnitEntry) → All P units → Some unit ≡ signature_in id units → P unit
  signature_holds units unit all e = by_unit (unit_in id units) refl (sym e)
    where
      is_unit : (kind : UnitKind) (u : UnitEntry) → if_signature kind u ≡ Some unit → u ≡ unit
      is_unit Sig u e = cc
      is_unit Str u e = cc

      by_unit : (o : Option UnitEntry) → unit_in id units ≡ o → option_and_then (λ u. if_signature u.kind u) o ≡ Some unit → P unit
      by_unit None is e = cc
      by_unit (Some u) is e = subst P (is_unit u.kind u e) (unit_holds units u all is)
