use Rattle.std.proofs.Common.{rules, arith}
use Rattle.conv_terms.specs.declared.term.Term.TheViews.{the_lemmas}
use Rattle.conv_terms.proofs.Equations.{traversed_at, levels_at, nesting_at}
use Rattle.conv_terms.proofs.substitution.+subst.Goals as goal

pub subst_below-subst_below-requires : goal.subst_below-subst_below-requires
subst_below-subst_below-requires t c = (search (rules, the_lemmas), (grind (arith, traversed_at, levels_at), grind (arith, nesting_at)))

pub subst_below-subst_below-requires-in-App : goal.subst_below-subst_below-requires-in-App
subst_below-subst_below-requires-in-App t c = (search (rules, the_lemmas), (grind (arith, traversed_at, levels_at), grind (arith, nesting_at)))

pub subst_below-subst_below-requires-in-App-2 : goal.subst_below-subst_below-requires-in-App-2
subst_below-subst_below-requires-in-App-2 t c = (search (rules, the_lemmas), (grind (arith, traversed_at, levels_at), grind (arith, nesting_at)))

pub subst_below-subst_all-requires : goal.subst_below-subst_all-requires
subst_below-subst_all-requires t c = (search (rules, the_lemmas), (grind (arith, traversed_at, levels_at), grind (arith, nesting_at)))

pub subst_below-subst_below-requires-in-Proj : goal.subst_below-subst_below-requires-in-Proj
subst_below-subst_below-requires-in-Proj t c = (search (rules, the_lemmas), (grind (arith, traversed_at, levels_at), grind (arith, nesting_at)))
