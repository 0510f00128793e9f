use Rattle.std.proofs.Common.{sym, ap, ◌∙◌}
use Rattle.elab_env.specs.Externals.{number_held}
use Rattle.elab_env.proofs.Held.{added_after}
use Rattle.elab_env.proofs.externals.Externals.add.Goals as goal

pub returns-in_ok-insert-in-None-clause-held : goal.returns-in_ok-insert-in-None-clause-held
returns-in_ok-insert-in-None-clause-held c =
    added_after (λ v. v.items) c.args.name.now c.args.n c.args.self.now.numbers c.insert.new.self c.in_ok-from_slice-in-None.field-0
    (c.in_ok-from_slice-in-None.ensures.items ∙ c.as_slice-in-None.ensures.value)
    c.if-not-name.false
    (ap (λ bs. number_held c.args.self.now bs c.args.name.now.arity) (sym c.as_slice.ensures.value) ∙ sym c.in_ok-find.ensures.value ∙ c.in-None.is)
    c.in_ok-insert-in-None.ensures.updates
