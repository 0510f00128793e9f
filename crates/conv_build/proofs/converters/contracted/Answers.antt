use Rattle.std.proofs.Common.{◌∙◌, ap, subst, sym}
use Rattle.iso_normal.specs.PairTrees.{IsPermuted, inverse}
use Rattle.iso_normal.proofs.Inverses.{inverse_permuted, inverse_twice}
use Rattle.conv_build.proofs.converters.contracted.Goals as goal

pub direct-requires-2-clause-permuted : goal.direct-requires-2-clause-permuted
direct-requires-2-clause-permuted c = subst IsPermuted (sym c.in_ok-q.ensures.value) (inverse_permuted c.requires.permuted)

pub direct-requires-2-clause-inverse : goal.direct-requires-2-clause-inverse
direct-requires-2-clause-inverse c = sym (ap inverse c.in_ok-q.ensures.value ∙ inverse_twice c.requires.permuted)
