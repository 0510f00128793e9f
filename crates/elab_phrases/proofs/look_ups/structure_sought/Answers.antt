use Rattle.std.proofs.Common.{◌≡◌, ◌-◌, get_or, Some, None, sym, ap, arith}
use Rattle.elab_rules.specs.Environments.{structure_in}
use Rattle.elab_rules.specs.LookUps.{top_structure}
use Rattle.elab_rules.specs.Views.{units_seen}
use Rattle.elab_phrases.proofs.SoughtLevels.{given_at_level, given_below}
use Rattle.elab_phrases.proofs.look_ups.structure_sought.Goals as goal

pub returns-in-Some-find_structure : goal.returns-in-Some-find_structure
returns-in-Some-find_structure c =
    let id = c.args.id.now in
    let own = c.args.own.entries.now in
    let around = c.args.site.now.around.now in
    let n = c.levels.level - 1 in
    let scope = get_or around n c.index-site-level.result in
    let none : None ≡ structure_in id own = c.in_default.ensures.value in
    let found : Some c.in-Some-find_structure.found.entries.now ≡ structure_in id scope.entries.now = c.in-Some-find_structure.ensures.value in
    record {
      value = sym (given_at_level (structure_in id) own around (top_structure id (units_seen c.args.site.now.tops)) c.levels.level n scope _ (sym none) c.levels.invariant.given c.levels.invariant.within (omega (arith, c.levels-test.true))
          (ap (get_or around n) c.index-site-level.is) (sym found));
    }

pub levels-preserved : goal.levels-preserved
levels-preserved c =
    let id = c.args.id.now in
    let around = c.args.site.now.around.now in
    let n = c.levels.level - 1 in
    let scope = get_or around n c.index-site-level.result in
    let none : None ≡ structure_in id scope.entries.now = c.in_default-find_structure.ensures.value in
    record {
      within = omega (arith, c.levels.invariant.within);
      given = given_below (structure_in id) c.args.own.entries.now around (top_structure id (units_seen c.args.site.now.tops)) c.levels.level n scope c.levels.invariant.given c.levels.invariant.within (omega (arith, c.levels-test.true))
          (ap (get_or around n) c.index-site-level.is) (sym none);
    }
