use Rattle.std.proofs.Common.{refl, ap, ◌∙◌}
use Rattle.elab_rules.specs.declared.progress.Progress.{Progress}
use Rattle.elab_rules.specs.States.{with_name}
use Rattle.elab_rules.specs.Views.{state_of}
use Rattle.elab_rules.proofs.AddedNames.{both_ok, described_more, mentions_described}
use Rattle.elab_rules.proofs.progress.Progress.describe.Goals as goal

pub returns-clause-described : goal.returns-clause-described
returns-clause-described c =
    let p = c.args.self.now in
    let after : Progress = record { table = c.describe.new.self; weight = p.weight; firsts = p.firsts; external_weight = p.external_weight } in
    both_ok c.describe.result
    (λ names realizations. described_more p after _ c.args.arity c.args.equality c.is_sound.ensures.sound names realizations refl ∙ ap (λ path. with_name path c.args.arity c.args.equality (state_of p)) c.in_ok-path.ensures.value)
    c.describe.ensures.names c.describe.ensures.realizations

pub returns-clause-mentions : goal.returns-clause-mentions
returns-clause-mentions c =
    let p = c.args.self.now in
    let after : Progress = record { table = c.describe.new.self; weight = p.weight; firsts = p.firsts; external_weight = p.external_weight } in
    both_ok c.describe.result (λ names realizations. mentions_described p after _ c.args.arity c.args.equality names realizations refl refl) c.describe.ensures.names c.describe.ensures.realizations
