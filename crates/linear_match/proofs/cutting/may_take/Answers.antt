use Rattle.std.proofs.Common.{◌∙◌, sym}
use Rattle.linear_match.proofs.Cut.{atom_taken, empty_of, not_true, none_taken}
use Rattle.linear_match.proofs.cutting.may_take.Goals as goal

pub returns-in-Tup : goal.returns-in-Tup
returns-in-Tup c = record {
  none = λ e. none_taken c.args.p.now c.in-Tup.parts c.args.held.now c.args.f.now c.in-Tup.is
      (sym c.as_slice.ensures.value ∙ empty_of c.as_slice.result.now (sym c.is_empty.ensures ∙ not_true c.is_empty.result e));
}

pub returns-in-Atom : goal.returns-in-Atom
returns-in-Atom c = record {
  none = λ e. atom_taken c.args.p.now (c.is_rigid.ensures.value c.if-not-is_rigid.false) c.args.held.now c.args.f.now
      c.in-Atom.t c.in-Atom.is (c.may_meet.ensures.none e);
}
