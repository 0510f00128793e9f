use Rattle.std.proofs.Common.{◌≡◌, ◌++◌, ◌≤◌, length, map, drop, take}
use Rattle.sig_elab.specs.Declarations.{declared_ids}
use Rattle.sig_elab.specs.Elaborators.{basis_of}
use Rattle.elab_rules.specs.Files.{all_bound}
use Rattle.elab_rules.specs.Specifications.{binding_of}
use Rattle.elab_types.specs.Views.{texts}
use Rattle.sig_elab.proofs.declarations.bind_all.Given as goal

abbrev pub invariant-loop-bind : goal.invariant-loop-bind
invariant-loop-bind l = record {
  turns :
      all_bound l.declaration.kind (texts l.declaration.source) (l.fn.draft.before.now.entries.items ++ take l.declaration.count l.fn.draft.added.entries.items) (declared_ids l.declaration)
      (map binding_of (drop l.bind-index l.declaration.binds.now)) (basis_of l.draft)
      ≡ all_bound l.declaration.kind (texts l.declaration.source) (l.fn.draft.before.now.entries.items ++ take l.declaration.count l.fn.draft.added.entries.items) (declared_ids l.declaration)
      (map binding_of l.declaration.binds.now) (basis_of l.fn.draft);
  before : l.draft.before.now ≡ l.fn.draft.before.now;
  seen : take l.declaration.count l.draft.added.entries.items ≡ take l.declaration.count l.fn.draft.added.entries.items;
  within : l.declaration.count ≤ length l.draft.added.entries.items;
}
