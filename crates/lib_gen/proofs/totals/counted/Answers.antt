use Rattle.std.proofs.Common.{sym}
use Rattle.std.proofs.lemmas.List.Elements.{All-contains}
use Rattle.lib_gen.specs.Counts.{IsCounted}
use Rattle.lib_gen.proofs.Numbered.{class_searchable}
use Rattle.lib_gen.proofs.totals.counted.Goals as goal

pub returns-in-Some-clause-counted : goal.returns-in-Some-clause-counted
returns-in-Some-clause-counted c =
    All-contains (IsCounted c.args.lib.now c.args.classes.now) c.args.before.now c.in-Some.searched c.requires.before
    c.in-Some.ensures.among

pub count-requires-clause-query : goal.count-requires-clause-query
count-requires-clause-query c =
    class_searchable c.args.lib.now c.args.classes.now c.args.class c.in-Some-get.member.now c.requires.classes
    (sym c.in-Some-get.ensures.value)

pub count-requires-2-clause-query : goal.count-requires-2-clause-query
count-requires-2-clause-query c =
    class_searchable c.args.lib.now c.args.classes.now c.args.class c.in-Some-get.member.now c.requires.classes
    (sym c.in-Some-get.ensures.value)

pub returns-clause-counted : goal.returns-clause-counted
returns-clause-counted c = record {
  member = c.in-Some-get.member.now;
  there = sym c.in-Some-get.ensures.value;
  counts = record { iso = c.in_ok-count.ensures.count; general = c.in_ok-count-2.ensures.count };
}
