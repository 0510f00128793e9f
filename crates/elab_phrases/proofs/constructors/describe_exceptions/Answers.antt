use Rattle.std.proofs.Common.{[], codes, refl, sym, subst}
use Rattle.std.specs.List.{All}
use Rattle.std.proofs.lemmas.List.Elements.{All-head}
use Rattle.type_core.specs.declared.ty.Ty.{Ty}
use Rattle.type_core.specs.Types.{IsOver}
use Rattle.elab_env.specs.Sound.{IsResolved}
use Rattle.elab_rules.specs.declared.entry.TypeEntry.{TypeEntry}
use Rattle.elab_rules.specs.Environments.{the_type}
use Rattle.elab_rules.specs.InitialEnvironment.{constant, initial_environment}
use Rattle.elab_rules.specs.Standing.{IsSettledType}
use Rattle.elab_rules.specs.Wheres.{types_of}
use Rattle.elab_rules.proofs.Entries.{all_types_parts, types_type}
use Rattle.elab_rules.proofs.FoundOver.{entry_over}
use Rattle.elab_rules.proofs.InitialTypes.{initial_over, initial_resolved}
use Rattle.elab_phrases.proofs.constructors.describe_exceptions.Goals as goal

-- what holds of all types of the initial environment holds of `exn`
abbrev exn : TypeEntry
exn = record { id = codes "exn"; fun = record { arity = 0; body = constant 6 }; constructors = [] }

holds_of_exn : (P : Ty → Type 0) → All P (types_of initial_environment) → P (constant 6)
unfolding initial_environment
holds_of_exn P all = All-head P (constant 6) [] (subst (All P) (types_type exn) (all_types_parts P (the_type exn) [] (entry_over P initial_environment 6 (the_type exn) all refl)).0)

pub describe_constructors-requires-clause-made : goal.describe_constructors-requires-clause-made
describe_constructors-requires-clause-made c =
    let table = c.args.progress.now.table in
    let sound = c.is_sound.ensures.sound in
    subst (IsSettledType table) (sym c.constant-made.ensures.value) (record {
      over = holds_of_exn (IsOver table.names) (initial_over table sound);
      resolved = holds_of_exn (IsResolved table.realizations) (initial_resolved table sound);
    })
