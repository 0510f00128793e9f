-- The library of no files is valid.
use Rattle.std.proofs.Common.{◌≡◌, [], refl, arith}
use Rattle.std.specs.List.{All}
use Rattle.sig_base.proofs.Distinct.{no_pairs}
use Rattle.type_core.specs.declared.library.Library.{Library}
use Rattle.type_core.specs.InitialNames.{initial_names}
use Rattle.type_core.specs.ValidLibrary.{IsValidLibrary}
use Rattle.type_core.specs.Weight.{library_weight}

abbrev pub smallest : Library
smallest = record { units = []; names = initial_names; tycons = []; members = [] }

none : {A : Type 0} (P : A → Type 0) → All P []
none P k d l = absurd (omega arith)

weightless : library_weight smallest ≡ 0
unfolding library_weight
weightless = refl

pub smallest_is_valid : IsValidLibrary smallest
smallest_is_valid = record {
  units_distinct = no_pairs;
  units_alphanumeric = none _;
  units_short = none _;
  name_paths = none _;
  tycon_paths = none _;
  member_paths = none _;
  initial = refl;
  tycons_in_units = none _;
  members_in_units = none _;
  described_in_units = none _;
  external_outside_units = none _;
  external_equality = none _;
  described_equality = none _;
  tycons_distinct = no_pairs;
  members_distinct = no_pairs;
  described_distinct = no_pairs;
  external_distinct = no_pairs;
  described_have_tycons = none _;
  name_arities = none _;
  tycon_arities = none _;
  tycon_functions = none _;
  tycon_types = none _;
  member_schemes = none _;
  member_types = none _;
  tycon_limits = none _;
  member_limits = none _;
  normal_limits = none _;
  normal_sum = omega arith;
  member_limit = omega arith;
  weight_limit = omega (arith, weightless);
}
