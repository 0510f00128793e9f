use Rattle.std.proofs.Common.{sym, ap, ◌∙◌}
use Rattle.elab_rules.specs.Views.{number_of}
use Rattle.elab_phrases.proofs.DenotedNames.{early_denoted, flexible_denoted, gone_denoted, none_flexible}
use Rattle.elab_phrases.proofs.flexible.flexible_name.Goals as goal

pub returns-in_err-n-clause-value : goal.returns-in_err-n-clause-value
returns-in_err-n-clause-value c =
    ap number_of c.from_residual.ensures ∙ none_flexible c.args.base c.args.progress.now c.args.fun.now c.in_err-n.ensures.none

pub returns-then-n-base-clause-value : goal.returns-then-n-base-clause-value
returns-then-n-base-clause-value c = early_denoted c.args.base c.in_ok-n.n.0 c.args.progress.now c.args.fun.now c.in_ok-n.ensures.name c.if-n-base.true

pub returns-then-not-is_free-clause-value : goal.returns-then-not-is_free-clause-value
returns-then-not-is_free-clause-value c =
    gone_denoted c.args.base c.in_ok-n.n.0 c.args.progress.now c.args.fun.now c.in_ok-n.ensures.name (sym c.is_free.ensures.value ∙ c.if-not-is_free.true)

pub returns-clause-value : goal.returns-clause-value
returns-clause-value c =
    flexible_denoted c.args.base c.in_ok-n.n.0 c.args.progress.now c.args.fun.now c.in_ok-n.ensures.name c.if-n-base.false (sym c.is_free.ensures.value ∙ c.if-not-is_free.false)
