use Rattle.std.proofs.Common.{sym, ap, ◌∙◌}
use Rattle.std.specs.Option.{option_copied}
use Rattle.elab_rules.proofs.FoundSeen.{no_value_here, value_here, value_nowhere}
use Rattle.elab_rules.proofs.scope.Scope.find_value.Goals as goal

pub returns-in_err-place : goal.returns-in_err-place
returns-in_err-place c =
    let scope = c.args.self.now in
    record { value = ap option_copied c.from_residual.ensures ∙ value_nowhere scope.index.now scope.entries.now c.args.id.now c.get.result c.below.result scope.seen c.get.ensures.value c.below.ensures.value c.in_err-place.was }

pub returns-in-Value : goal.returns-in-Value
returns-in-Value c =
    let scope = c.args.self.now in
    record {
      value = value_here scope.index.now scope.entries.now c.args.id.now c.get.result c.below.result scope.seen c.get.ensures.value c.below.ensures.value
          c.in_ok-place.place c.index-self-place.result c.in_ok-place.was c.in_ok-place.ensures.within c.index-self-place.is c.in-Value.entry (c.index-self-place.is ∙ c.in-Value.is);
    }

pub returns-in_default : goal.returns-in_default
returns-in_default c =
    let scope = c.args.self.now in
    record {
      value = no_value_here scope.index.now scope.entries.now c.args.id.now c.get.result c.below.result scope.seen c.get.ensures.value c.below.ensures.value
          c.in_ok-place.place c.index-self-place.result c.in_ok-place.was c.in_ok-place.ensures.within c.index-self-place.is (λ value is. c.in_default.not-Value value (sym c.index-self-place.is ∙ is));
    }
