use Rattle.std.proofs.Common.{◌++◌, drop, refl, ap, ◌∙◌}
use Rattle.elab_rules.specs.declared.progress.Progress.{Progress}
use Rattle.sig_elab.proofs.CopiedNames.{described_mentions, name_is_copied}
use Rattle.sig_elab.proofs.copies.copy_name.Goals as goal

pub returns-clause-copied : goal.returns-clause-copied
returns-clause-copied c =
    let p : Progress = c.args.progress.now in
    let q : Progress = record { table = c.describe.new.self; weight = p.weight; firsts = p.firsts; external_weight = p.external_weight } in
    name_is_copied c.args.path.now c.args.count p q c.args.n c.name-name.result.now c.in_ok-path.path c.is_sound.ensures.sound c.name-name.ensures.value c.requires.described
    (c.in_ok-path.ensures.value ∙ ap (λ bytes. c.args.path.now ++ drop c.args.count bytes) c.as_slice.ensures.value)
    c.in_ok-describe.ensures.names c.in_ok-describe.ensures.realizations refl

pub returns-clause-mentions : goal.returns-clause-mentions
returns-clause-mentions c =
    let p : Progress = c.args.progress.now in
    let q : Progress = record { table = c.describe.new.self; weight = p.weight; firsts = p.firsts; external_weight = p.external_weight } in
    described_mentions p q c.in_ok-path.path c.name-name.result.now.arity c.name-name.result.now.equality c.in_ok-describe.ensures.names c.in_ok-describe.ensures.realizations refl refl
