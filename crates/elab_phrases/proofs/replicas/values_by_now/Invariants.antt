use Rattle.std.proofs.Common.{◌≡◌, ◌++◌, drop}
use Rattle.std.specs.List.{All}
use Rattle.elab_env.specs.Realizations.{resolved}
use Rattle.elab_rules.specs.declared.entry.ValueEntry.{ValueEntry}
use Rattle.elab_rules.specs.Environments.{values_in}
use Rattle.elab_rules.specs.Replacing.{environment_with}
use Rattle.elab_rules.specs.Standing.{IsSettledScheme}
use Rattle.elab_phrases.proofs.replicas.values_by_now.Given as goal

abbrev pub invariant-loop-id : goal.invariant-loop-id
invariant-loop-id l = record {
  value :
      l.values ++ values_in (drop l.id-index l.ids) (environment_with (resolved l.table.realizations) l.env.entries.now)
      ≡ values_in l.ids (environment_with (resolved l.table.realizations) l.env.entries.now);
  settled : All (λ (value : ValueEntry). IsSettledScheme l.table value.scheme) l.values;
}
