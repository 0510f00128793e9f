use Rattle.std.proofs.Common.{Bor}
use Rattle.elab_rules.specs.declared.entry.ValueEntry.{ValueEntry}
use Rattle.elab_rules.specs.Environments.{value_of}
use Rattle.elab_rules.proofs.FoundSeen.{new_where_none}
use Rattle.elab_rules.proofs.scope.Scope.is_new_value.Goals as goal

pub returns : goal.returns
returns c = record { value = new_where_none (value_of c.args.id.now) c.args.self.now.entries.now (λ (entry : Bor ValueEntry). entry.now) _ _ c.is_none.ensures c.find_value.ensures.value }
