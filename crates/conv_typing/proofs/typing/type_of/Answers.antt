use Rattle.std.proofs.Common.{◌∙◌}
use Rattle.conv_typing.proofs.Deciding.{the_answer, no_answer}
use Rattle.conv_typing.proofs.typing.type_of.Goals as goal

pub returns-clause-some : goal.returns-clause-some
returns-clause-some c = the_answer _ _ _ _ (c.in_ok-ctx.ensures.value ∙ c.as_slice.ensures.value) c.find_type.ensures.value

pub returns-clause-none : goal.returns-clause-none
returns-clause-none c = no_answer _ _ _ _ (c.in_ok-ctx.ensures.value ∙ c.as_slice.ensures.value) c.find_type.ensures.value
