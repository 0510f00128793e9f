use Rattle.std.proofs.Common.{◌-◌, drop, refl, sym, ap, ◌∙◌}
use Rattle.std.proofs.lemmas.Result.{on_ok_weaker}
use Rattle.elab_rules.specs.declared.progress.Progress.{Progress}
use Rattle.elab_rules.specs.Environments.{Environment}
use Rattle.elab_rules.specs.Equality.{all_fit, with_greatest}
use Rattle.elab_phrases.proofs.SettledNames.{both_on_ok, names_settled, settled_mentions}
use Rattle.elab_phrases.proofs.equality.settle_equality.Goals as goal

pub returns : goal.returns
returns c =
    let p = c.args.progress.now in
    let q : Progress = record { table = c.settle_names.new.table; weight = p.weight; firsts = p.firsts; external_weight = p.external_weight } in
    let first = c.args.first in
    let end = c.in_ok-end.end in
    let entries : Environment = drop c.args.from c.args.entries.now in
    let among = ap (λ (es : Environment). with_greatest first (end - first) es p.table.names) c.entries_from.ensures.value in
    let settle = c.settle_names.ensures in
    record {
      settled = both_on_ok c.settle_names.result (λ names realizations. names_settled p q first end c.args.count entries (names ∙ among) realizations c.in_ok-end.ensures.value refl) settle.names settle.realizations;
      mentions = both_on_ok c.settle_names.result (λ names realizations. settled_mentions p q first end c.args.count entries (names ∙ among) realizations c.in_ok-end.ensures.value refl refl) settle.names settle.realizations;
      fit = on_ok_weaker c.settle_names.result (λ fit. ap (all_fit q.table.names) (sym c.entries_from.ensures.value) ∙ fit) settle.fit;
    }
