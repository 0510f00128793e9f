-- The rest of the components' texts, some of which may have been written.
use Rattle.std.proofs.Common.{ℕ, Bool, List, ◌++◌, codes, if◌then◌else◌}
use Rattle.std.specs.List.{flat_map, join_by}
use Rattle.conv_print.specs.declared.place.Place.TheVariants.{Free}
use Rattle.conv_print.specs.Printing.{Placed}

abbrev pub continued : Bool → ℕ → List Placed → List ℕ
continued is_first depth parts =
    if is_first then join_by (λ part. part depth Free) (codes ", ") parts
    else flat_map (λ part. codes ", " ++ part depth Free) parts
