use Rattle.std.proofs.Common.{Bor}
use Rattle.elab_rules.specs.declared.entry.TypeEntry.{TypeEntry}
use Rattle.elab_rules.specs.Environments.{type_of}
use Rattle.elab_rules.proofs.FoundSeen.{new_where_none}
use Rattle.elab_rules.proofs.scope.Scope.is_new_type.Goals as goal

pub returns : goal.returns
returns c = record { value = new_where_none (type_of c.args.id.now) c.args.self.now.entries.now (λ (entry : Bor TypeEntry). entry.now) _ _ c.is_none.ensures c.find_type.ensures.value }
