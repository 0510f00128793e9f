use Rattle.std.proofs.Common.{◌≡◌, ℕ, ◌+◌, List, [], ◌∷◌, ◌++◌, length, min, ap, ◌∙◌}
use Rattle.elab_rules.specs.Environments.{the_structure}
use Rattle.elab_types.specs.Sources.{text_at}
use Rattle.elab_rules.specs.Views.{body_at, site_at}
use Rattle.elab_types.specs.Views.{texts}
use Rattle.elab_phrases.proofs.Added.{added_by_now, added_stands, entry_refused, length_within, structure_by_now, structure_over, weight_of_structure, weighed_mentions}
use Rattle.elab_phrases.proofs.adding.add_structure.Goals as goal

pub returns-in_err-weigh-clause-outcome : goal.returns-in_err-weigh-clause-outcome
returns-in_err-weigh-clause-outcome c =
    let path = c.args.site.now.path.now in
    let id = text_at (texts c.args.site.now.source) c.args.token in
    let inner = body_at c.args.progress.now c.args.inner.entries.items in
    entry_refused (site_at c.args.progress.now c.args.site.now) (the_structure id inner) _ _ _ _ _ _ _ _ (weight_of_structure path id inner) c.from_residual.ensures.1
    (c.in_err-weigh.ensures.outcome _
    (c.weight_at.ensures.value ∙ ap (λ n. min n 0xffff_ffff_ffff_ffff) (ap (λ (text : List ℕ). length path + (length text + 2)) c.text-id.ensures.value ∙ length_within path id)))

pub returns : goal.returns
returns c =
    let p = c.args.progress.now in
    let q = c.weigh.new.self in
    let site = c.args.site.now in
    let id = text_at (texts site.source) c.args.token in
    let inner = c.args.inner.entries.items in
    let weigh = c.in_ok-weigh.ensures in
    let pushed : c.in_ok-with_structure.field-0.entries.items ≡ c.args.own.entries.items ++ the_structure id inner ∷ [] =
    c.in_ok-with_structure.ensures.pushed ∙ ap (λ (text : List ℕ). c.args.own.entries.items ++ the_structure text inner ∷ []) c.text-id.ensures.value in
    record {
      outcome =
          added_by_now p q site _ _ _ weigh.table pushed (the_structure id (body_at p inner)) _ _ (structure_by_now p.table id inner) (weight_of_structure site.path.now id (body_at p inner))
          (weigh.outcome _
          (c.weight_at.ensures.value ∙ ap (λ n. min n 0xffff_ffff_ffff_ffff) (ap (λ (text : List ℕ). length site.path.now + (length text + 2)) c.text-id.ensures.value ∙ length_within site.path.now id)));
      stands = added_stands p q site _ _ _ weigh.table pushed weigh.firsts weigh.external c.requires.stands (structure_over p.table.names id inner c.requires.over);
      mentions = weighed_mentions p q site _ _ _ weigh.table pushed weigh.firsts weigh.external;
      pushed = pushed;
    }
