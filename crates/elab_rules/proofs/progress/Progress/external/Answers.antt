use Rattle.std.proofs.Common.{◌+◌, ◌||◌, is_some, length, min, refl, ap, ap₂, ◌∙◌}
use Rattle.elab_rules.specs.declared.progress.Progress.{Progress}
use Rattle.elab_rules.specs.Files.{is_first_part}
use Rattle.elab_types.specs.Places.{place_at}
use Rattle.elab_rules.proofs.AddedNames.{external_given, external_mentioned, external_refused, mentions_same, no_name_more}
use Rattle.elab_rules.proofs.Outcomes.{handed_on}
use Rattle.elab_rules.proofs.progress.Progress.external.Goals as goal

pub returns-in_err-weigh-clause-outcome : goal.returns-in_err-weigh-clause-outcome
returns-in_err-weigh-clause-outcome c =
    let p = c.args.self.now in
    let mid : Progress = record { table = c.external.new.self; weight = p.weight; firsts = p.firsts; external_weight = p.external_weight } in
    external_refused p mid c.args.path.now _ c.args.arity c.args.token c.in_ok-n.n.0 _ c.is_sound.ensures.sound c.in_ok-from_slice.ensures.value c.in_ok-n.ensures.number c.len-count.ensures.value c.in_ok-n.ensures.names c.in_ok-n.ensures.realizations refl
    c.if-n-count.true _ _ _ _ (c.in_err-weigh.ensures.outcome (1 + length c.args.path.now) c.external_weight.ensures.value) (handed_on _ _ c.from_residual-in_err-weigh.ensures.1)

pub returns-in_ok-add_first-clause-outcome : goal.returns-in_ok-add_first-clause-outcome
returns-in_ok-add_first-clause-outcome c =
    let p = c.args.self.now in
    let mid : Progress = record { table = c.external.new.self; weight = p.weight; firsts = p.firsts; external_weight = p.external_weight } in
    external_given p mid c.args.path.now _ c.args.arity c.args.token c.in_ok-n.n.0 _ c.is_sound.ensures.sound c.in_ok-from_slice.ensures.value c.in_ok-n.ensures.number c.len-count.ensures.value c.in_ok-n.ensures.names c.in_ok-n.ensures.realizations refl
    c.if-n-count.true _ (c.in_ok-weigh.ensures.outcome (1 + length c.args.path.now) c.external_weight.ensures.value)

pub returns-in_ok-add_first-clause-mentions : goal.returns-in_ok-add_first-clause-mentions
returns-in_ok-add_first-clause-mentions c =
    let p = c.args.self.now in
    let mid : Progress = record { table = c.external.new.self; weight = p.weight; firsts = p.firsts; external_weight = p.external_weight } in
    external_mentioned p mid c.args.path.now _ c.args.arity c.args.token c.in_ok-n.n.0 _ c.is_sound.ensures.sound c.in_ok-from_slice.ensures.value c.in_ok-n.ensures.number c.len-count.ensures.value c.in_ok-n.ensures.names c.in_ok-n.ensures.realizations refl
    c.if-n-count.true _ c.in_ok-weigh.ensures.table (λ id. c.in_ok-add_first.ensures.added id ∙ ap (λ f. is_some (place_at f id) || is_first_part id c.args.path.now) c.in_ok-weigh.ensures.firsts)
    (c.saturating_add-self.ensures ∙ ap₂ (λ a b. min (a + b) 0xffff_ffff_ffff_ffff) c.in_ok-weigh.ensures.external c.external_weight-then-n-count.ensures.value)

pub returns-else-n-count-clause-mentions : goal.returns-else-n-count-clause-mentions
returns-else-n-count-clause-mentions c =
    mentions_same c.args.self.now _
    (no_name_more c.args.path.now _ c.args.arity c.in_ok-n.n.0 _ c.args.self.now.table.names _ c.in_ok-from_slice.ensures.value c.in_ok-n.ensures.number c.len-count.ensures.value c.in_ok-n.ensures.names c.if-n-count.false) c.in_ok-n.ensures.realizations refl refl
