use Rattle.std.proofs.Common.{◌<◌, ◌≤◌, ◌^◌, length, ◌∙◌, subst, arith}
use Rattle.type_core.specs.declared.ty.Ty.{Ty}
use Rattle.type_core.specs.Schemes.{IsScheme}
use Rattle.type_core.specs.Size.{size_of}
use Rattle.type_core.specs.Variables.{by_first_occurrence}
use Rattle.type_core.proofs.Closed.{closed_scheme}
use Rattle.type_core.proofs.Renamed.{variables_bounded}
use Rattle.lib_valid.proofs.types.is_closed.Goals as goal

few : (t : Ty) → size_of t ≤ 2000 → length (by_first_occurrence t) < 2 ^ 32
few t small = omega (arith, variables_bounded t, small)

pub close-requires : goal.close-requires
close-requires c = record { fits = few c.args.scheme.now.body c.requires.limits.nodes }

pub returns : goal.returns
returns c =
    let same = c.is_same_scheme.ensures.exact in
    record {
      exact = (
        λ e. subst IsScheme (same.0 e) c.in_ok-closed.ensures.scheme,
        λ h. same.1 (c.in_ok-closed.ensures.value ∙ closed_scheme c.args.scheme.now h),
      );
    }
