use Rattle.std.proofs.Common.{sym, subst, ◌∙◌}
use Rattle.elab_rules.specs.Standing.{IsSettledType}
use Rattle.elab_phrases.proofs.SettledParts.{arrow_settled}
use Rattle.elab_phrases.proofs.Stands.{settled_type_mentions}
use Rattle.elab_phrases.proofs.constructors.type_of_constructor.Goals as goal

pub returns-else-not-is_normal_small-clause-settled : goal.returns-else-not-is_normal_small-clause-settled
returns-else-not-is_normal_small-clause-settled c =
    let new = c.type_of.new.progress in
    arrow_settled new.table _ _
    (subst (IsSettledType new.table) (sym c.in_ok-new-in-Some.ensures.value) c.in_ok-from-in-Some.ensures.settled)
    (subst (IsSettledType new.table) (sym (c.in_ok-new-in-Some-2.ensures.value ∙ c.in_ok-made.ensures.value)) (settled_type_mentions c.args.progress.now new _ c.in_ok-from-in-Some.ensures.grew c.requires.made))
