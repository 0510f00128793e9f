use Rattle.std.proofs.Common.{◌∙◌, ap, subst, sym}
use Rattle.elab_rules.specs.Parameters.{marked, variables_at}
use Rattle.elab_rules.specs.Standing.{IsSettledType}
use Rattle.elab_types.specs.Views.{texts}
use Rattle.elab_phrases.proofs.DatatypeGroups.{constructed_family}
use Rattle.elab_phrases.proofs.Turns.{body_same}
use Rattle.elab_phrases.proofs.datatypes.construct.Goals as goal

pub describe_constructors-requires-clause-made : goal.describe_constructors-requires-clause-made
describe_constructors-requires-clause-made c =
    subst (IsSettledType c.args.progress.now.table)
    (sym (c.in_ok-made.ensures.value ∙ ap (marked c.args.name) (c.as_slice-2.ensures.value ∙ c.in_ok-parameters.ensures.value ∙ ap (variables_at (texts c.args.site.now.source)) c.as_slice.ensures.value)))
    c.requires.made

pub returns-clause-outcome : goal.returns-clause-outcome
returns-clause-outcome c =
    body_same _ _ _ _
    (constructed_family c.args.desc.now _ _ _ _ _ _ _ _ _ _ c.as_slice.ensures.value c.in_ok-parameters.ensures.value c.as_slice-2.ensures.value c.in_ok-made.ensures.value c.as_slice-3.ensures.value c.as_slice-4.ensures.value)
    c.describe_constructors.ensures.outcome
