use Rattle.std.proofs.Common.{sym, ap, ◌∙◌}
use Rattle.type_core.specs.Coordinates.{arguments_of}
use Rattle.coord_match.proofs.SameCoordinates.{coordinate_eq}
use Rattle.coord_match.proofs.search.+same_coordinates.Goals as goal

pub same_coordinate-returns-then-same : goal.same_coordinate-returns-then-same
same_coordinate-returns-then-same t c = record {
  value = (
    λ e. coordinate_eq c.args.a.now c.args.b.now (sym c.as_slice.ensures.value ∙ c.same_coordinates.ensures.value.0 e ∙ c.as_slice-then-same.ensures.value) (c.same.ensures.value.0 c.if-same.true),
    λ e. c.same_coordinates.ensures.value.1 (c.as_slice.ensures.value ∙ ap arguments_of e ∙ sym c.as_slice-then-same.ensures.value),
  );
}
