use Rattle.std.proofs.Common.{rules, arith}
use Rattle.conv_terms.specs.declared.term.Term.TheViews.{the_lemmas}
use Rattle.conv_terms.proofs.Equations.{shifted_at, levels_at}
use Rattle.conv_terms.proofs.shifting.+shift.Goals as goal

pub shift-shift-requires : goal.shift-shift-requires
shift-shift-requires t c = (search (rules, the_lemmas), grind (arith, shifted_at, levels_at))

pub shift-shift-requires-in-App : goal.shift-shift-requires-in-App
shift-shift-requires-in-App t c = (search (rules, the_lemmas), grind (arith, shifted_at, levels_at))

pub shift-shift-requires-in-App-2 : goal.shift-shift-requires-in-App-2
shift-shift-requires-in-App-2 t c = (search (rules, the_lemmas), grind (arith, shifted_at, levels_at))

pub shift-shift_all-requires : goal.shift-shift_all-requires
shift-shift_all-requires t c = (search (rules, the_lemmas), grind (arith, shifted_at, levels_at))

pub shift-shift-requires-in-Proj : goal.shift-shift-requires-in-Proj
shift-shift-requires-in-Proj t c = (search (rules, the_lemmas), grind (arith, shifted_at, levels_at))
