use Rattle.std.proofs.Common.{Contains, ◌≡◌, ◌↔◌, Bool, IsTrue, sym, subst}
use Rattle.std.specs.Bool.{Decides}
use Rattle.lib_valid.proofs.Sets.{text_held}
use Rattle.lib_valid.proofs.texts.Texts.has.Goals as goal

by_test : (r test : Bool) (P : Type 0) → r ≡ test → Decides test P → IsTrue r ↔ P
by_test r test P e d = subst (λ b. Decides b P) (sym e) d

pub returns : goal.returns
returns c = record {
  value = subst (λ texts. IsTrue c.contains.result ↔ Contains texts c.args.text.now) c.self.view_is
      (by_test c.contains.result _ _ c.contains.ensures (text_held c.args.text c.self.inside.texts.keys));
}
