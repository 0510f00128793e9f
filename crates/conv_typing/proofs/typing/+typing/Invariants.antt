use Rattle.std.proofs.Common.{◌≡◌, take}
use Rattle.conv_typing.specs.Typing.{HaveTypes}
use Rattle.conv_typing.proofs.typing.+typing.Given as goal

abbrev pub invariant-find_types-loop-t : goal.invariant-find_types-loop-t
invariant-find_types-loop-t l = HaveTypes l.fn.ctx (take l.t-index l.terms) l.done × (l.ctx ≡ l.fn.ctx)
