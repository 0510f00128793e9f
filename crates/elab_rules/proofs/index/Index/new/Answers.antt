use Rattle.elab_rules.proofs.IndexMore.{index_new}
use Rattle.elab_rules.proofs.index.Index.new.Goals as goal

pub returns : goal.returns
returns c = record { empty = index_new c.new.result c.new-2.result c.new-3.result c.new-4.result c.new.ensures.empty c.new-2.ensures.empty c.new-3.ensures.empty }
