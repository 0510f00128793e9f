use Rattle.std.proofs.Common.{◌≡◌, slice_get}
use Rattle.elab_env.specs.Sized.{listed}
use Rattle.elab_env.proofs.sizes.size_of_variable.Given as goal

abbrev pub invariant-walk : goal.invariant-walk
invariant-walk l = slice_get (listed l.rest) l.left ≡ slice_get (listed l.fn.sizes) l.fn.n
