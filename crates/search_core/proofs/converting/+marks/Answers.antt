use Rattle.search_core.specs.Converters.{marked}
use Rattle.search_core.proofs.Marks.{from_marked, to_marked}
use Rattle.search_core.proofs.converting.+marks.Goals as goal

pub has_mark-returns-then-has_mark : goal.has_mark-returns-then-has_mark
has_mark-returns-then-has_mark t c = record {
  value = from_marked (marked c.args.n) _ _ c.args.t.now _ c.has_mark.result c.in-Arrow.is
      c.get.ensures.value c.has_mark.ensures.value c.if-has_mark.true;
}

pub has_mark-returns-else-has_mark : goal.has_mark-returns-else-has_mark
has_mark-returns-else-has_mark t c = record {
  value =
      to_marked (marked c.args.n) _ _ c.args.t.now _ _ c.has_mark.result
      c.has_mark-else-has_mark.result c.in-Arrow.is c.get.ensures.value c.get-else-has_mark.ensures.value
      c.has_mark.ensures.value
      c.if-has_mark.false c.has_mark-else-has_mark.ensures.value;
}
