use Rattle.isosearch.proofs.Answered.{answer_given, answer_told, refusal_given, refusal_told}
use Rattle.isosearch.proofs.answering.answer_to.Goals as goal

pub returns-in-Ok-clause-given : goal.returns-in-Ok-clause-given
returns-in-Ok-clause-given g c = answer_given c.args.command.now c.in-Ok.library c.answer_over.result c.answer_over.ensures.answer _ _ _ _ (c.in-Ok.ensures.given tt)

pub returns-in-Ok-clause-told : goal.returns-in-Ok-clause-told
returns-in-Ok-clause-told g c = answer_told c.args.command.now c.in-Ok.library c.answer_over.result c.answer_over.ensures.answer (g.F.Files.files c.args.files.now) (c.in-Ok.ensures.told tt)

pub returns-in-Err-clause-given : goal.returns-in-Err-clause-given
returns-in-Err-clause-given g c = refusal_given c.args.command.now c.in-Err.refusal _ _ _ _ c.in-Err.ensures.given

pub returns-in-Err-clause-told : goal.returns-in-Err-clause-told
returns-in-Err-clause-told g c = refusal_told c.args.command.now c.in-Err.refusal (g.F.Files.files c.args.files.now) c.in-Err.ensures.told
