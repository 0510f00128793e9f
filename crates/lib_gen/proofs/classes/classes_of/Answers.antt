use Rattle.std.proofs.Common.{◌∙◌, get_or}
use Rattle.lib_gen.proofs.Numbered.{all_numbered, are_classes, member_searchable, none_numbered, one_numbered, stands}
use Rattle.lib_gen.proofs.classes.classes_of.Goals as goal

pub loop-i-init : goal.loop-i-init
loop-i-init c = none_numbered c.args.lib.now c.new-numbers.result c.new-members.result c.new-numbers.ensures.empty c.new-members.ensures.empty

pub loop-i-preserved : goal.loop-i-preserved
loop-i-preserved c =
    let member = get_or c.as_slice-all.result.now c.loop-i.i c.index-all-i.result in
    let at = stands c.args.lib.now c.as_slice-all.result.now c.loop-i.i c.index-all-i.result c.as_slice-all.ensures.value c.loop-i-test.true in
    one_numbered c.args.lib.now c.loop-i.i member at c.loop-i.numbers c.push.new.self c.loop-i.members c.number_of.new.members
    c.loop-i.invariant c.in_ok-number.number c.in_ok-push.ensures.pushed c.in_ok-number.ensures.gained c.in_ok-number.ensures.number
    (member_searchable c.args.lib.now c.loop-i.i member c.requires.valid at)

pub returns : goal.returns
returns c = record {
  classes = are_classes c.args.lib.now _ c.requires.valid (c.in_ok-names.ensures.value ∙ c.as_slice.ensures.value)
      (all_numbered c.args.lib.now c.as_slice-all.result.now c.loop-i.i c.loop-i.numbers c.loop-i.members
      c.as_slice-all.ensures.value c.loop-i-test.false c.loop-i.auto.i-end c.loop-i.invariant);
}
