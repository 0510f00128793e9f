use Rattle.lib_gen.specs.Classes.{AreNumbered}
use Rattle.lib_gen.proofs.classes.classes_of.Given as goal

abbrev pub invariant-loop-i : goal.invariant-loop-i
invariant-loop-i l = AreNumbered l.lib l.i l.numbers l.members
