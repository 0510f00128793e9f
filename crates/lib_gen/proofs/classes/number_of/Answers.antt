use Rattle.std.proofs.Common.{inr, slice_get, sym, ap, ◌∙◌}
use Rattle.lib_gen.proofs.Numbered.{pushed_at}
use Rattle.lib_gen.proofs.classes.number_of.Goals as goal

pub returns-clause-number : goal.returns-clause-number
returns-clause-number c = record {
  member = c.in-Some.member.now;
  there = sym c.in-Some.ensures.value;
  same = c.same_schemes.ensures.value.0 c.if-same_schemes.true;
}

pub returns-2-clause-number : goal.returns-2-clause-number
returns-2-clause-number c = record {
  member = c.in_ok-with_scheme.field-0;
  there = ap (λ members. slice_get members c.len-last.result) c.in_ok-push.ensures.pushed
      ∙ pushed_at c.args.members.now c.in_ok-with_scheme.field-0 c.len-last.result (sym c.len-last.ensures.value);
  same = c.in_ok-with_scheme.ensures.scheme;
}

pub returns-2-clause-gained : goal.returns-2-clause-gained
returns-2-clause-gained c = inr (c.in_ok-with_scheme.field-0, c.in_ok-push.ensures.pushed, c.in_ok-with_scheme.ensures.scheme)
