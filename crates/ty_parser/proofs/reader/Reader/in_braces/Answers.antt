use Rattle.std.proofs.Common.{sym, ap, ◌∙◌, Some}
use Rattle.std.specs.Option.{option_map}
use Rattle.ty_parser.proofs.Pieces.{right_brace_is}
use Rattle.ty_parser.proofs.reader.Reader.in_braces.Goals as goal

pub returns-in-None : goal.returns-in-None
returns-in-None c = λ e. right_brace_is _ _ e c.args.self.now.around _ _ (ap (option_map (λ x. x.now)) (sym c.in-None.is) ∙ c.last.ensures.value) c.as_slice.ensures.value

pub returns-in-Parens : goal.returns-in-Parens
returns-in-Parens c = λ e. right_brace_is _ _ e c.args.self.now.around _ _ (ap Some (sym c.in-Parens.is) ∙ ap (option_map (λ x. x.now)) (sym c.in-Some.is) ∙ c.last.ensures.value) c.as_slice.ensures.value

pub returns-in-Braces : goal.returns-in-Braces
returns-in-Braces c = λ e. right_brace_is _ _ e c.args.self.now.around _ _ (ap Some (sym c.in-Braces.is) ∙ ap (option_map (λ x. x.now)) (sym c.in-Some.is) ∙ c.last.ensures.value) c.as_slice.ensures.value
