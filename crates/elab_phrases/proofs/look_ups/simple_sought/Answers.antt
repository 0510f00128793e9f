use Rattle.std.proofs.Common.{◌≡◌, ◌-◌, get_or, Some, None, sym, ap, subst, arith}
use Rattle.type_core.specs.Types.{IsOver}
use Rattle.elab_rules.specs.Environments.{type_in}
use Rattle.elab_rules.specs.InitialEnvironment.{initial_environment}
use Rattle.elab_rules.specs.LongIdentifiers.{found_in}
use Rattle.elab_rules.specs.LookUps.{known}
use Rattle.elab_rules.specs.Standing.{AreOver}
use Rattle.elab_rules.proofs.FoundOver.{type_in_over}
use Rattle.elab_phrases.proofs.SoughtLevels.{around_each, found_there, given_at_level, given_below}
use Rattle.elab_phrases.proofs.look_ups.simple_sought.Goals as goal

pub returns-in-Some-clause-over : goal.returns-in-Some-clause-over
returns-in-Some-clause-over c =
    let own = c.args.own.entries.now in
    let found : Some c.in-Some.entry.now ≡ type_in c.args.id.now own = c.in-Some.ensures.value in
    λ names sees. record { entry = type_in_over (IsOver names) c.args.id.now c.in-Some.entry.now own sees.body (sym found); env = sees.body }

pub returns-in-Some-find_type-clause-value : goal.returns-in-Some-find_type-clause-value
returns-in-Some-find_type-clause-value c =
    let id = c.args.id.now in
    let own = c.args.own.entries.now in
    let around = c.args.site.now.around.now in
    let n = c.levels.level - 1 in
    let scope = get_or around n c.index-site-level.result in
    let none : None ≡ type_in id own = c.in_default.ensures.value in
    let found : Some c.in-Some-find_type.entry.now ≡ type_in id scope.entries.now = c.in-Some-find_type.ensures.value in
    sym (ap known (given_at_level (λ env. found_in env (type_in id env)) own around (found_in initial_environment (type_in id initial_environment)) c.levels.level n scope _ (found_there id own None none) c.levels.invariant.given c.levels.invariant.within (omega (arith, c.levels-test.true))
    (ap (get_or around n) c.index-site-level.is) (found_there id scope.entries.now (Some c.in-Some-find_type.entry.now) found)))

pub returns-in-Some-find_type-clause-over : goal.returns-in-Some-find_type-clause-over
returns-in-Some-find_type-clause-over c =
    let id = c.args.id.now in
    let around = c.args.site.now.around.now in
    let n = c.levels.level - 1 in
    let scope = get_or around n c.index-site-level.result in
    let found : Some c.in-Some-find_type.entry.now ≡ type_in id scope.entries.now = c.in-Some-find_type.ensures.value in
    λ names sees.
    let over = around_each (AreOver names) around n scope (omega (arith, c.levels-test.true, c.levels.invariant.within)) (ap (get_or around n) c.index-site-level.is) sees.around in
    record { entry = type_in_over (IsOver names) id c.in-Some-find_type.entry.now scope.entries.now over (sym found); env = over }

pub levels-preserved : goal.levels-preserved
levels-preserved c =
    let id = c.args.id.now in
    let own = c.args.own.entries.now in
    let around = c.args.site.now.around.now in
    let n = c.levels.level - 1 in
    let scope = get_or around n c.index-site-level.result in
    let none : None ≡ type_in id scope.entries.now = c.in_default-find_type.ensures.value in
    record {
      within = omega (arith, c.levels.invariant.within);
      given = given_below (λ env. found_in env (type_in id env)) own around (found_in initial_environment (type_in id initial_environment)) c.levels.level n scope c.levels.invariant.given c.levels.invariant.within (omega (arith, c.levels-test.true))
          (ap (get_or around n) c.index-site-level.is) (found_there id scope.entries.now None none);
    }

pub returns-in-Some-find_type-2-clause-over : goal.returns-in-Some-find_type-2-clause-over
returns-in-Some-find_type-2-clause-over c =
    let initial = c.args.site.now.initial.entries.now in
    let found : Some c.in-Some-find_type-2.entry.now ≡ type_in c.args.id.now initial = c.in-Some-find_type-2.ensures.value in
    λ names sees.
    let over = subst (AreOver names) (sym c.args.site.now.is_initial) sees.initial in
    record { entry = type_in_over (IsOver names) c.args.id.now c.in-Some-find_type-2.entry.now initial over (sym found); env = over }
