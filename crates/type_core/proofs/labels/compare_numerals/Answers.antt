use Rattle.std.proofs.Common.{◌∙◌}
use Rattle.type_core.proofs.LabelValues.{shorter_less, longer_greater, same_length}
use Rattle.type_core.proofs.labels.compare_numerals.Goals as goal

pub returns-then-a-b : goal.returns-then-a-b
returns-then-a-b c = record { value = shorter_less c.args.a.now c.args.b.now c.requires.first c.requires.second c.if-a-b.true }

pub returns-then-b-a : goal.returns-then-b-a
returns-then-b-a c = record { value = longer_greater c.args.a.now c.args.b.now c.requires.first c.requires.second c.if-b-a.true }

pub returns-else-b-a : goal.returns-else-b-a
returns-else-b-a c = record { value = c.cmp.ensures ∙ same_length c.args.a.now c.args.b.now c.requires.first c.requires.second c.if-b-a.false c.if-a-b.false }
