use Rattle.std.proofs.Common.{◌≡◌, ◌++◌, List, map, take, Ok, Err, refl, ap, ap₂, ◌∙◌, subst}
use Rattle.sig_parser.specs.declared.tree.Bind.{Bind}
use Rattle.elab_rules.specs.declared.entry.UnitEntry.{UnitEntry}
use Rattle.elab_rules.specs.declared.units.Units.{Units}
use Rattle.sig_elab.specs.Declarations.{declared_ids}
use Rattle.sig_elab.specs.Elaborators.{GivesBasis, basis_of}
use Rattle.elab_rules.specs.Files.{all_bound, bound}
use Rattle.elab_rules.specs.Specifications.{binding_of}
use Rattle.elab_types.specs.Views.{texts}
use Rattle.sig_elab.proofs.BasisTurns.{all_end, all_go_on}
use Rattle.sig_elab.proofs.Bindings.{bound_adds, seen_stays}
use Rattle.sig_elab.proofs.declarations.bind_all.Goals as goal

pub returns-in_err-draft-clause-outcome : goal.returns-in_err-draft-clause-outcome
returns-in_err-draft-clause-outcome c =
    let d = c.args.declaration.now in
    let seen : List UnitEntry = c.args.draft.before.now.entries.items ++ take d.count c.args.draft.added.entries.items in
    all_end (λ (bind : Bind). bound d.kind (texts d.source) seen (declared_ids d) (binding_of bind)) (λ (binds : List Bind). all_bound d.kind (texts d.source) seen (declared_ids d) (map binding_of binds)) (λ x xs b. refl)
    _ _ _ _ _ _ _ _ c.loop-bind-test.true c.bind-item.is c.loop-bind.invariant.turns c.from_residual.ensures.1
    (subst (λ us. GivesBasis (bound d.kind (texts d.source) us (declared_ids d) (binding_of c.bind-item.result) (basis_of c.loop-bind.draft)) (Err c.in_err-draft.field-0.0))
    (ap₂ (λ (b : Units) added. b.entries.items ++ added) c.loop-bind.invariant.before c.loop-bind.invariant.seen) c.in_err-draft.ensures.outcome)

pub loop-bind-preserved : goal.loop-bind-preserved
loop-bind-preserved c =
    let d = c.args.declaration.now in
    let seen : List UnitEntry = c.args.draft.before.now.entries.items ++ take d.count c.args.draft.added.entries.items in
    let now = c.loop-bind.draft in
    let after = c.in_ok-draft.draft in
    let grown = bound_adds d.kind (texts d.source) (now.before.now.entries.items ++ take d.count now.added.entries.items) (declared_ids d) (binding_of c.bind-item.result) (basis_of now) (basis_of after) c.in_ok-draft.ensures.outcome in
    let stays =
    seen_stays d.count now.before.now.entries.items after.before.now.entries.items now.added.entries.items after.added.entries.items grown.0 grown.1 (ap (λ (u : Units). u.entries.items) c.in_ok-draft.ensures.before) c.loop-bind.invariant.within in
    record {
      turns =
          all_go_on (λ (bind : Bind). bound d.kind (texts d.source) seen (declared_ids d) (binding_of bind)) (λ (binds : List Bind). all_bound d.kind (texts d.source) seen (declared_ids d) (map binding_of binds)) (λ x xs b. refl)
          _ _ _ _ _ _ _ c.loop-bind-test.true c.bind-item.is c.loop-bind.invariant.turns
          (subst (λ us. bound d.kind (texts d.source) us (declared_ids d) (binding_of c.bind-item.result) (basis_of now) ≡ Ok (basis_of after))
          (ap₂ (λ (b : Units) added. b.entries.items ++ added) c.loop-bind.invariant.before c.loop-bind.invariant.seen) c.in_ok-draft.ensures.outcome);
      before = c.in_ok-draft.ensures.before ∙ c.loop-bind.invariant.before;
      seen = stays.0 ∙ c.loop-bind.invariant.seen;
      within = stays.1;
    }
