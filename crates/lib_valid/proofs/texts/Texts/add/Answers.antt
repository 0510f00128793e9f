use Rattle.std.proofs.Common.{Contains, IsTrue, subst, ◌↔◌}
use Rattle.lib_valid.proofs.Sets.{absent, text_held}
use Rattle.lib_valid.proofs.texts.Texts.add.Goals as goal

pub returns-clause-new : goal.returns-clause-new
returns-clause-new c =
    subst (λ texts. IsTrue c.in_ok-new.new ↔ ¬ (Contains texts c.args.text.now)) c.self.view_is
    (absent _ c.in_ok-new.new _ c.in_ok-new.ensures.added (text_held c.args.text c.self.inside.texts.keys))
