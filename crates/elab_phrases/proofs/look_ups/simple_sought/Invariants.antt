use Rattle.std.proofs.Common.{◌≡◌, ◌≤◌, length, take}
use Rattle.elab_rules.specs.Environments.{type_in}
use Rattle.elab_types.specs.Finding.{first_given}
use Rattle.elab_rules.specs.LongIdentifiers.{found_in}
use Rattle.elab_rules.specs.Views.{around_of}
use Rattle.elab_phrases.proofs.look_ups.simple_sought.Given as goal

abbrev pub invariant-levels : goal.invariant-levels
invariant-levels l = record {
  within : l.level ≤ length l.site.around.now;
  given : first_given (λ env. found_in env (type_in l.id env)) (around_of l.site.around.now) ≡ first_given (λ env. found_in env (type_in l.id env)) (around_of (take l.level l.site.around.now));
}

abbrev pub decreases-levels : goal.decreases-levels
decreases-levels l = l.level
