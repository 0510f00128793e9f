use Rattle.std.proofs.Common.{sym, subst}
use Rattle.type_core.proofs.Trees.{EachOf}
use Rattle.linear_match.proofs.Bound.{IsBelow, consistent_obeyed, obeyed_consistent}
use Rattle.linear_match.proofs.MetVariables.{split_below}
use Rattle.linear_match.proofs.Passed.{split_read}
use Rattle.linear_match.proofs.laws.consistent_meetings_are_obeyed.Goals as goal

pub returns : goal.returns
returns c = record {
  obeyed =
      λ pattern fs word ms is are s a. consistent_obeyed pattern.vars ms a (split_read s are)
      (split_below pattern is s);
  consistent =
      λ pattern fs word ms by is s e o. obeyed_consistent by ms
      (subst (λ n. EachOf (IsBelow n) ms) (sym e) (split_below pattern is s)) o;
}
