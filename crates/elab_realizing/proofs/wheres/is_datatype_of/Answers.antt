use Rattle.std.proofs.Common.{◌∙◌}
use Rattle.elab_env.specs.Realizations.{resolved}
use Rattle.elab_rules.specs.Replacing.{type_with}
use Rattle.elab_rules.specs.Wheres.{is_empty}
use Rattle.elab_realizing.proofs.EntryTests.{datatype_empty, datatype_named, datatype_unnamed, empty_is}
use Rattle.elab_realizing.proofs.wheres.is_datatype_of.Goals as goal

pub returns-then-is_empty : goal.returns-then-is_empty
returns-then-is_empty c =
    let entry = c.args.entry.now in
    record { value = datatype_empty c.args.name.0 (type_with (resolved c.args.table.now.realizations) entry).fun (is_empty entry.constructors) (empty_is entry.constructors _ c.is_empty.ensures.value.0 c.is_empty.ensures.value.1 ∙ c.if-is_empty.true) }

pub returns-in-Some : goal.returns-in-Some
returns-in-Some c =
    let entry = c.args.entry.now in
    record { value = datatype_named c.args.name.0 c.in_ok-fun.fun (type_with (resolved c.args.table.now.realizations) entry).fun (is_empty entry.constructors) c.in_ok-fun.ensures.value c.in-Some.n.0 c.in-Some.ensures.name (empty_is entry.constructors _ c.is_empty.ensures.value.0 c.is_empty.ensures.value.1 ∙ c.if-is_empty.false) }

pub returns : goal.returns
returns c =
    let entry = c.args.entry.now in
    record { value = datatype_unnamed c.args.name.0 c.in_ok-fun.fun (type_with (resolved c.args.table.now.realizations) entry).fun (is_empty entry.constructors) c.in_ok-fun.ensures.value c.in-None.ensures.none }
