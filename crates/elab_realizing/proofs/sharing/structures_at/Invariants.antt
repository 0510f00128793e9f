use Rattle.std.proofs.Common.{◌≡◌, drop, map, take}
use Rattle.elab_rules.specs.declared.scope.Scope.{Scope}
use Rattle.sig_base.specs.LongIdentifiers.{parts}
use Rattle.elab_rules.specs.LongIdentifiers.{structure_along}
use Rattle.elab_rules.specs.Sharing.{entries_of, structures_found}
use Rattle.elab_types.specs.Sources.{text_at}
use Rattle.elab_rules.specs.Views.{site_of}
use Rattle.elab_types.specs.Views.{texts}
use Rattle.elab_realizing.proofs.sharing.structures_at.Given as goal

abbrev pub invariant-loop-token : goal.invariant-loop-token
invariant-loop-token l = record {
  outcome : structures_found (drop l.token-index l.tokens) (site_of l.site) l.own.entries.now ≡ structures_found l.tokens (site_of l.site) l.own.entries.now;
  found : map (λ (scope : Scope). scope.entries.now) l.found ≡ map (λ token. entries_of (structure_along (parts (text_at (texts l.site.source) token)) l.own.entries.now)) (take l.token-index l.tokens);
}
