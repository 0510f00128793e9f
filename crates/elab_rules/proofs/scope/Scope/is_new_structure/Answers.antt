use Rattle.elab_rules.specs.declared.scope.Scope.{Scope}
use Rattle.elab_rules.specs.Environments.{structure_of}
use Rattle.elab_rules.proofs.FoundSeen.{new_where_none}
use Rattle.elab_rules.proofs.scope.Scope.is_new_structure.Goals as goal

pub returns : goal.returns
returns c = record { value = new_where_none (structure_of c.args.id.now) c.args.self.now.entries.now (λ (scope : Scope). scope.entries.now) _ _ c.is_none.ensures c.find_structure.ensures.value }
