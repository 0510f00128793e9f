use Rattle.iso_normal.proofs.SmallTrees.{exchange_permuted}
use Rattle.iso_normal.proofs.tests.exchange.Goals as goal

pub returns : goal.returns
returns c = record { permuted = exchange_permuted c.in_ok-entries.entries c.leaf.result c.leaf-2.result c.in_ok-entries.ensures.value c.leaf.ensures.value c.leaf-2.ensures.value }
