use Rattle.std.proofs.Common.{◌≡◌, Some, IfOk, slice_get, subst}
use Rattle.type_core.specs.declared.ty.Ty.{Ty}
use Rattle.type_intern.proofs.Erasing.{fits_kept, own_erasure, put_erased, tree_kept}
use Rattle.type_intern.proofs.type_table.TypeTable.add_new.Goals as goal

pub put-requires-clause-erased : goal.put-requires-clause-erased
put-requires-clause-erased c = own_erasure c.args.self.now c.in_ok-erased.erased c.args.node c.len-own.result
    c.len-own.ensures.value c.in_ok-erased.ensures.value

pub put-requires-2-clause-parts : goal.put-requires-2-clause-parts
put-requires-2-clause-parts c = fits_kept c.args.self.now c.put.new.self c.in_ok-erased-2.ensures.keeps c.args.node
    c.requires.parts

pub put-requires-2-clause-erased : goal.put-requires-2-clause-erased
put-requires-2-clause-erased c = put_erased c.args.self.now c.put.new.self c.in_ok-erased-2.ensures.keeps
    c.in_ok-erased.erased c.args.node c.in_ok-erased-2.erased.0 c.requires.parts c.in_ok-erased.ensures.value
    c.in_ok-erased-2.ensures.value

pub returns-clause-value : goal.returns-clause-value
returns-clause-value c = subst (λ (t : Ty). IfOk c.put-2.result (λ id. slice_get c.put-2.new.self id.0 ≡ Some t))
    (tree_kept c.args.self.now c.put.new.self c.in_ok-erased-2.ensures.keeps c.args.node c.requires.parts)
    c.put-2.ensures.value
