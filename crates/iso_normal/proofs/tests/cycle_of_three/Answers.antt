use Rattle.iso_normal.proofs.SmallTrees.{cycle_permuted}
use Rattle.iso_normal.proofs.tests.cycle_of_three.Goals as goal

pub returns : goal.returns
returns c = record { permuted = cycle_permuted c.push.new.self c.in_ok-entries.entries c.in_ok-args.args c.leaf.result c.leaf-2.result c.in_ok-args.ensures.permuted c.in_ok-entries.ensures.value c.in_ok-push.ensures.pushed c.leaf.ensures.value c.leaf-2.ensures.value }
