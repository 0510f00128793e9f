use Rattle.std.proofs.Common.{sym, ap, ◌∙◌}
use Rattle.elab_rules.specs.Views.{entries_seen}
use Rattle.elab_rules.proofs.FoundSeen.{inside_seen, no_inner, no_structure_here, structure_here, structure_nowhere, structure_unknown}
use Rattle.elab_rules.proofs.scope.Scope.find_structure.Goals as goal

pub returns-in_err-get : goal.returns-in_err-get
returns-in_err-get c =
    let scope = c.args.self.now in
    record { value = ap entries_seen c.from_residual.ensures ∙ structure_unknown scope.index.now scope.entries.now c.args.id.now c.get.result scope.seen c.get.ensures.value c.in_err-get.was }

pub returns-in_err-inner : goal.returns-in_err-inner
returns-in_err-inner c =
    let scope = c.args.self.now in
    record {
      value = ap entries_seen c.from_residual-in_err-inner.ensures
          ∙ no_inner scope.index.now scope.entries.now c.args.id.now c.get.result scope.seen c.get.ensures.value c.in_ok-get.field-0 c.in_ok-get.was c.in_err-inner.ensures.value;
    }

pub returns-in_err-place : goal.returns-in_err-place
returns-in_err-place c =
    let scope = c.args.self.now in
    record {
      value = ap entries_seen c.from_residual-in_err-place.ensures
          ∙ structure_nowhere scope.index.now scope.entries.now c.args.id.now c.get.result scope.seen c.get.ensures.value c.in_ok-get.field-0 c.in_ok-get.was c.in_ok-inner.inner.now c.in_ok-inner.ensures.value
          c.below.result c.below.ensures.value c.in_err-place.was;
    }

pub invariant_of-result : goal.invariant_of-result
invariant_of-result c =
    let scope = c.args.self.now in
    record {
      seen = inside_seen scope.index.now scope.entries.now c.args.id.now c.get.result scope.seen c.get.ensures.value c.in_ok-get.field-0 c.in_ok-get.was c.in_ok-inner.inner.now c.in_ok-inner.ensures.value
          c.below.result c.below.ensures.value c.in_ok-place.place c.index-self-place.result c.in_ok-place.was c.in_ok-place.ensures.within c.index-self-place.is
          c.in-Structure.field-0 c.in-Structure.entries c.as_slice.result.now (c.index-self-place.is ∙ c.in-Structure.is) c.as_slice.ensures.value;
    }

pub returns-in-Structure : goal.returns-in-Structure
returns-in-Structure c =
    let scope = c.args.self.now in
    record {
      value = structure_here scope.index.now scope.entries.now c.args.id.now c.get.result scope.seen c.get.ensures.value c.in_ok-get.field-0 c.in_ok-get.was c.in_ok-inner.inner.now c.in_ok-inner.ensures.value
          c.below.result c.below.ensures.value c.in_ok-place.place c.index-self-place.result c.in_ok-place.was c.in_ok-place.ensures.within c.index-self-place.is
          c.in-Structure.field-0 c.in-Structure.entries c.as_slice.result.now (c.index-self-place.is ∙ c.in-Structure.is) c.as_slice.ensures.value;
    }

pub returns-in_default : goal.returns-in_default
returns-in_default c =
    let scope = c.args.self.now in
    record {
      value = no_structure_here scope.index.now scope.entries.now c.args.id.now c.get.result scope.seen c.get.ensures.value c.in_ok-get.field-0 c.in_ok-get.was c.in_ok-inner.inner.now c.in_ok-inner.ensures.value
          c.below.result c.below.ensures.value c.in_ok-place.place c.index-self-place.result c.in_ok-place.was c.in_ok-place.ensures.within c.index-self-place.is
          (λ name entries is. c.in_default.not-Structure name entries (sym c.index-self-place.is ∙ is));
    }
