use Rattle.std.proofs.Common.{Ok, ap, refl}
use Rattle.lib_load.proofs.FileTaken.{text_loaded}
use Rattle.lib_load.proofs.loading.library_of_text.Goals as goal

pub returns-in_ok-library-in-Ok-clause-given : goal.returns-in_ok-library-in-Ok-clause-given
returns-in_ok-library-in-Ok-clause-given c = λ _. text_loaded _ _ _ _ c.in_ok-elab.ensures.empty (ap (λ l. Ok l) c.in_ok-library-in-Ok.ensures.library) (c.in-Ok.ensures.taken tt)

pub returns-in-Err-clause-given : goal.returns-in-Err-clause-given
returns-in-Err-clause-given c = λ answers. text_loaded _ _ _ _ c.in_ok-elab.ensures.empty refl (c.in-Err.ensures.taken answers)
