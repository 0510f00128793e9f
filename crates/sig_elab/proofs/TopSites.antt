-- Where the right side of a binding begins: nothing is around it but the units before the declaration.
use Rattle.std.proofs.Common.{◌≡◌, List, [], take, sym, subst}
use Rattle.std.specs.List.{All}
use Rattle.std.proofs.lemmas.List.Elements.{All-append, All-nil, All-take}
use Rattle.type_core.specs.Types.{IsOver}
use Rattle.elab_env.specs.Sound.{IsSound}
use Rattle.elab_rules.specs.declared.entry.UnitEntry.{UnitEntry}
use Rattle.elab_rules.specs.declared.progress.Progress.{Progress}
use Rattle.elab_rules.specs.declared.scope.Scope.{Scope}
use Rattle.elab_rules.specs.declared.site.Site.{Site}
use Rattle.elab_rules.specs.Standing.{AreOver, Begins, IsSettled}
use Rattle.elab_rules.specs.Views.{around_of}
use Rattle.elab_phrases.proofs.Stands.{begins}
use Rattle.sig_elab.specs.Kept.{AreKept}

-- what is kept of units is what is known of those that are seen
pub begins_on_top : (p : Progress) (site : Site) → site.around.now ≡ [] → IsSound p.table → AreKept site.tops.before.now p → AreKept site.tops.added.now p → Begins p site []
begins_on_top p site nothing sound before added = begins p site [] sound (record {
  around = subst (λ (scopes : List Scope). All (AreOver p.table.names) (around_of scopes)) (sym nothing) (All-nil (AreOver p.table.names));
  units =
      All-append (λ (unit : UnitEntry). IsSettled p.table unit.entries) site.tops.before.now.entries.items (take site.tops.count site.tops.added.now.entries.items) before.settled
      (All-take (λ (unit : UnitEntry). IsSettled p.table unit.entries) site.tops.count site.tops.added.now.entries.items added.settled);
  kept_before = before.own;
  kept_added = added.own;
  body = All-nil (IsOver p.table.names);
})
