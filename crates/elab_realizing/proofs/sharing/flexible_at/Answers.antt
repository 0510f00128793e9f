use Rattle.std.proofs.Common.{sym, ap, ◌∙◌}
use Rattle.sig_base.specs.LongIdentifiers.{parts}
use Rattle.elab_rules.specs.LongIdentifiers.{type_along}
use Rattle.elab_rules.specs.Views.{found_of, found_seen, number_of}
use Rattle.elab_realizing.proofs.NamesShared.{flexible_there, none_there, rigid_there}
use Rattle.elab_realizing.proofs.sharing.flexible_at.Goals as goal

pub returns-in_default-clause-outcome : goal.returns-in_default-clause-outcome
returns-in_default-clause-outcome c =
    let own = c.args.own.entries.now in
    none_there c.args.token c.args.progress.now c.args.site.now own (ap found_seen (sym c.in_default.is) ∙ c.type_along.ensures.value ∙ ap (λ t. type_along (parts t) own) c.text.ensures.value)

pub flexible-requires : goal.flexible-requires
flexible-requires c = record { over = (c.in-Some.ensures.over c.args.progress.now.table.names c.requires.stands.sees.body).entry }

pub returns-in-None-clause-outcome : goal.returns-in-None-clause-outcome
returns-in-None-clause-outcome c =
    let own = c.args.own.entries.now in
    rigid_there c.args.token c.args.progress.now c.args.site.now own (found_of c.in-Some.found) (c.in-Some.ensures.value ∙ ap (λ t. type_along (parts t) own) c.text.ensures.value)
    (sym (ap number_of c.in-None.is) ∙ c.in_ok-flexible.ensures.value)

pub returns-in-Some-2-clause-outcome : goal.returns-in-Some-2-clause-outcome
returns-in-Some-2-clause-outcome c =
    let own = c.args.own.entries.now in
    flexible_there c.args.token c.args.progress.now c.args.site.now own (found_of c.in-Some.found) (c.in-Some.ensures.value ∙ ap (λ t. type_along (parts t) own) c.text.ensures.value)
    c.in-Some-2.name.0 (sym (ap number_of c.in-Some-2.is) ∙ c.in_ok-flexible.ensures.value)
