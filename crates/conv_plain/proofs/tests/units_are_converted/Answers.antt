use Rattle.conv_plain.proofs.Units.{unit_is_type, units_pair}
use Rattle.conv_plain.proofs.tests.units_are_converted.Goals as goal

pub redex_form-requires-clause-from : goal.redex_form-requires-clause-from
redex_form-requires-clause-from g c = unit_is_type c.unit.result c.unit.ensures.value

pub redex_form-requires-clause-to : goal.redex_form-requires-clause-to
redex_form-requires-clause-to g c = unit_is_type c.unit-2.result c.unit-2.ensures.value

pub redex_form-requires-clause-paired : goal.redex_form-requires-clause-paired
redex_form-requires-clause-paired g c = units_pair c.unit.result c.unit-2.result c.new.result c.unit.ensures.value c.unit-2.ensures.value c.new.ensures.empty
