use Rattle.std.proofs.Common.{refl, arith, ap, ◌∙◌, ◌+◌, drop}
use Rattle.elab_rules.specs.Datatypes.{group_constructed}
use Rattle.elab_rules.specs.Views.{body_at, state_of}
use Rattle.elab_phrases.proofs.DatatypeGroups.{group_ends, group_goes_on}
use Rattle.elab_phrases.proofs.Extensions.{extended_itself, extended_twice}
use Rattle.elab_phrases.proofs.MadeTypes.{made_here, made_mentions}
use Rattle.elab_phrases.proofs.Sites.{site_mentions}
use Rattle.elab_phrases.proofs.Staying.{mentions_itself, mentions_twice}
use Rattle.elab_phrases.proofs.datatypes.construct_group.Goals as goal

pub loop-desc-init : goal.loop-desc-init
loop-desc-init c = record {
  turns = refl;
  stands = c.requires.stands;
  mentions = mentions_itself _;
  extended = extended_itself _ _;
  made = c.requires.made;
  number = omega arith;
}

pub construct-requires-clause-made : goal.construct-requires-clause-made
construct-requires-clause-made c =
    made_here _ _ _ _ _ _ _ _ c.loop-desc-test.true c.desc-item.is c.loop-desc.invariant.number c.loop-desc.invariant.made

pub returns-in_err-body-clause-outcome : goal.returns-in_err-body-clause-outcome
returns-in_err-body-clause-outcome c = group_ends _ _ _ _ _ _ _ _ _ _ _ _ c.loop-desc-test.true c.desc-item.is c.loop-desc.invariant.turns c.from_residual.ensures.1 c.in_err-body.ensures.outcome

pub loop-desc-preserved : goal.loop-desc-preserved
loop-desc-preserved c =
    let done = c.in_ok-body.ensures in
    let so_far = c.loop-desc.invariant in
    record {
      turns =
          ap (λ site. group_constructed (drop (c.loop-desc.desc-index + 1) c.args.descs.now) c.in_ok-next.next site (body_at c.construct.new.progress c.in_ok-body.body.entries.items) (state_of c.construct.new.progress)) (site_mentions _ _ c.args.site.now done.mentions)
          ∙ group_goes_on _ _ _ _ _ _ _ _ _ _ _ _ c.loop-desc-test.true c.desc-item.is so_far.turns done.outcome c.in_ok-next.ensures.value;
      stands = done.stands;
      mentions = mentions_twice _ _ _ so_far.mentions done.mentions;
      extended = extended_twice _ _ _ _ _ done.mentions so_far.extended done.extended;
      made = made_mentions _ _ _ _ _ done.mentions so_far.made;
      number = omega (arith, c.in_ok-next.ensures.value, so_far.number);
    }
