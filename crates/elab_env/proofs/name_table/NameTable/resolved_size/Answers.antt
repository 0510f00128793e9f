use Rattle.std.proofs.Common.{◌∙◌}
use Rattle.elab_env.specs.Realizations.{resolved}
use Rattle.elab_env.proofs.Counted.{listed_nothing, no_sizes}
use Rattle.elab_env.proofs.name_table.NameTable.resolved_size.Goals as goal

pub returns : goal.returns
returns c = record { value = c.size_from.ensures.value ∙ no_sizes 0xffff_ffff_ffff_ffff _ (resolved c.args.self.now.realizations c.args.t.now) listed_nothing }
