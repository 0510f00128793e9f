use Rattle.std.proofs.Common.{◌+◌, min, length, ap, ◌∙◌}
use Rattle.type_core.specs.Types.{IsOver}
use Rattle.type_core.specs.Weight.{type_weight}
use Rattle.elab_rules.specs.Environments.{the_type}
use Rattle.elab_rules.specs.States.{within}
use Rattle.elab_rules.specs.Views.{site_at}
use Rattle.elab_phrases.proofs.Added.{added_by_now, added_stands, entry_refused, type_over, type_stays, weight_of_type, weighed_mentions}
use Rattle.elab_phrases.proofs.adding.add_type.Goals as goal

pub returns-in_err-weigh-clause-outcome : goal.returns-in_err-weigh-clause-outcome
returns-in_err-weigh-clause-outcome c =
    entry_refused (site_at c.args.progress.now c.args.site.now) (the_type c.args.entry) _ _ _ _ _ _ _ _ (weight_of_type c.args.site.now.path.now c.args.entry) c.from_residual.ensures.1
    (c.in_err-weigh.ensures.outcome _
    (c.entry_weight-weight.ensures.value
    ∙ ap (λ id. min (1 + (length (within c.args.site.now.path.now id) + type_weight c.args.entry.fun.body)) 0xffff_ffff_ffff_ffff) c.as_slice.ensures.value))

pub returns : goal.returns
returns c =
    let p = c.args.progress.now in
    let weigh = c.in_ok-weigh.ensures in
    let pushed = c.in_ok-with_type.ensures.pushed in
    let site = c.args.site.now in
    record {
      outcome =
          added_by_now p c.weigh.new.self site _ _ _ weigh.table pushed (the_type c.args.entry) _ _ (type_stays p.table c.args.entry c.requires.settled) (weight_of_type site.path.now c.args.entry)
          (weigh.outcome _
          (c.entry_weight-weight.ensures.value
          ∙ ap (λ id. min (1 + (length (within site.path.now id) + type_weight c.args.entry.fun.body)) 0xffff_ffff_ffff_ffff) c.as_slice.ensures.value));
      stands = added_stands p c.weigh.new.self site _ _ _ weigh.table pushed weigh.firsts weigh.external c.requires.stands (type_over (IsOver p.table.names) c.args.entry c.requires.settled.over);
      mentions = weighed_mentions p c.weigh.new.self site _ _ _ weigh.table pushed weigh.firsts weigh.external;
      pushed = pushed;
    }
