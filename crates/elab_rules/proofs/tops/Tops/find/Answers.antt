use Rattle.std.proofs.Common.{take}
use Rattle.elab_rules.proofs.TopsFound.{unit_after, unit_before}
use Rattle.elab_rules.proofs.tops.Tops.find.Goals as goal

pub returns-in-Some-clause-value : goal.returns-in-Some-clause-value
returns-in-Some-clause-value c =
    let tops = c.args.self.now in
    unit_before tops.before.now.entries.items (take tops.count tops.added.now.entries.items) c.args.id.now c.len.result c.len.ensures.value c.in-Some.found.unit.now c.in-Some.ensures.value

pub returns-in-None-clause-value : goal.returns-in-None-clause-value
returns-in-None-clause-value c =
    let tops = c.args.self.now in
    unit_after tops.before.now.entries.items (take tops.count tops.added.now.entries.items) c.args.id.now c.len.result c.len.ensures.value _ c.in-None.ensures.value c.find-in-None.ensures.value
