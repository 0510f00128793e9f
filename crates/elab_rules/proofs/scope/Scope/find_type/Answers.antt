use Rattle.std.proofs.Common.{sym, ap, ◌∙◌}
use Rattle.std.specs.Option.{option_copied}
use Rattle.elab_rules.proofs.FoundSeen.{no_type_here, type_here, type_nowhere}
use Rattle.elab_rules.proofs.scope.Scope.find_type.Goals as goal

pub returns-in_err-place : goal.returns-in_err-place
returns-in_err-place c =
    let scope = c.args.self.now in
    record { value = ap option_copied c.from_residual.ensures ∙ type_nowhere scope.index.now scope.entries.now c.args.id.now c.get.result c.below.result scope.seen c.get.ensures.value c.below.ensures.value c.in_err-place.was }

pub returns-in-Tycon : goal.returns-in-Tycon
returns-in-Tycon c =
    let scope = c.args.self.now in
    record {
      value = type_here scope.index.now scope.entries.now c.args.id.now c.get.result c.below.result scope.seen c.get.ensures.value c.below.ensures.value
          c.in_ok-place.place c.index-self-place.result c.in_ok-place.was c.in_ok-place.ensures.within c.index-self-place.is c.in-Tycon.entry (c.index-self-place.is ∙ c.in-Tycon.is);
    }

pub returns-in_default : goal.returns-in_default
returns-in_default c =
    let scope = c.args.self.now in
    record {
      value = no_type_here scope.index.now scope.entries.now c.args.id.now c.get.result c.below.result scope.seen c.get.ensures.value c.below.ensures.value
          c.in_ok-place.place c.index-self-place.result c.in_ok-place.was c.in_ok-place.ensures.within c.index-self-place.is (λ type is. c.in_default.not-Tycon type (sym c.index-self-place.is ∙ is));
    }
