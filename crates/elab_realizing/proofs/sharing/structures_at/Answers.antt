use Rattle.std.proofs.Common.{refl, ap, ◌∙◌, map}
use Rattle.elab_rules.specs.declared.scope.Scope.{Scope}
use Rattle.sig_base.specs.LongIdentifiers.{parts}
use Rattle.elab_rules.specs.LongIdentifiers.{structure_along}
use Rattle.elab_rules.specs.Sharing.{entries_of}
use Rattle.elab_types.specs.Sources.{text_at}
use Rattle.elab_rules.specs.Views.{site_of}
use Rattle.elab_types.specs.Views.{texts}
use Rattle.elab_realizing.proofs.StructuresShared.{found_next, not_found, scopes_more}
use Rattle.elab_realizing.proofs.sharing.structures_at.Goals as goal

pub loop-token-init : goal.loop-token-init
loop-token-init c = record { outcome = refl; found = ap (map (λ (scope : Scope). scope.entries.now)) c.new-found.ensures.empty }

pub returns-in-None-clause-outcome : goal.returns-in-None-clause-outcome
returns-in-None-clause-outcome c =
    let own = c.args.own.entries.now in
    not_found c.args.tokens.now c.loop-token.token-index _ 0 (site_of c.args.site.now) own _ c.loop-token-test.true refl c.loop-token.invariant.outcome (c.in-None.ensures.value ∙ ap (λ t. structure_along (parts t) own) c.text.ensures.value)

pub loop-token-preserved : goal.loop-token-preserved
loop-token-preserved c =
    let own = c.args.own.entries.now in
    let some = c.in-Some.ensures.value ∙ ap (λ t. structure_along (parts t) own) c.text.ensures.value in
    record {
      outcome = found_next c.args.tokens.now c.loop-token.token-index _ 0 (site_of c.args.site.now) own _ c.loop-token-test.true refl c.loop-token.invariant.outcome c.in-Some.structure.entries.now some;
      found = scopes_more (λ token. entries_of (structure_along (parts (text_at (texts c.args.site.now.source) token)) own)) c.args.tokens.now c.loop-token.token-index _ 0 c.loop-token.found _ c.in-Some.structure c.loop-token-test.true refl
          (ap entries_of some) c.loop-token.invariant.found c.in_ok-push-in-Some.ensures.pushed;
    }
