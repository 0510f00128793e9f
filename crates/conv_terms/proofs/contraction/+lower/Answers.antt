use Rattle.std.proofs.Common.{rules}
use Rattle.conv_terms.specs.declared.term.Term.TheViews.{the_lemmas}
use Rattle.conv_terms.proofs.Lowering.{absent_in_body, absent_in_function, absent_in_argument, absent_in_components, absent_in_tuple}
use Rattle.conv_terms.proofs.contraction.+lower.Goals as goal

pub lower-lower-requires : goal.lower-lower-requires
lower-lower-requires t c = (search (rules, the_lemmas), absent_in_body _ _ c.requires.absent _ _ _ c.in-Lam.is c.into_inner.ensures.value)

pub lower-lower-requires-in-App : goal.lower-lower-requires-in-App
lower-lower-requires-in-App t c = (search (rules, the_lemmas), absent_in_function _ _ c.requires.absent _ _ _ c.in-App.is c.into_inner-in-App.ensures.value)

pub lower-lower-requires-in-App-2 : goal.lower-lower-requires-in-App-2
lower-lower-requires-in-App-2 t c = (search (rules, the_lemmas), absent_in_argument _ _ c.requires.absent _ _ _ c.in-App.is c.into_inner-in-App-2.ensures.value)

pub lower-lower_all-requires : goal.lower-lower_all-requires
lower-lower_all-requires t c = (search (rules, the_lemmas), absent_in_components _ _ c.requires.absent _ c.in-Tup.is)

pub lower-lower-requires-in-Proj : goal.lower-lower-requires-in-Proj
lower-lower-requires-in-Proj t c = (search (rules, the_lemmas), absent_in_tuple _ _ c.requires.absent _ _ _ _ c.in-Proj.is c.into_inner-in-Proj.ensures.value)
