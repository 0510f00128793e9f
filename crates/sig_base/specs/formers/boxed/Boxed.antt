-- How a `Boxed` stores its value, so that a type may hold itself through one.
use mathlib.Core.Former.{Former, const, pair, this, via}
use mathlib.Core.Path.{refl}
use base.Fml.{ftrue}
use base.Stored.{gnil}
use denote.Hole.Fix.{over}
use denote.HoleLaws.{Alike}
use denote.HolePlaces.{Recodes, laid, one_value, struct_places}
use denote.Memory.{part_of}
use denote.Model.Placed.{view_places}
use denote.Param.Weighed.{Weighed}
use denote.RattleType.{RattleType}
use denote.RawPtr.{Ptr}
use denote.Sharing.{nothing}
use Rattle.std.specs.contracts.alloc.Global as global
use Rattle.std.specs.contracts.boxed.Box as std_box
use Rattle.std.specs.contracts.impls.GlobalAllocator.TheImpl as allocator
use Rattle.std.specs.declared.alloc.Global.{Global}
use Rattle.std.specs.declared.boxed.Box.{Box}
use Rattle.sig_base.specs.contracts.boxed.Boxed as outer
use Rattle.sig_base.specs.contracts.boxed.Boxed.TheInside as inner
use Rattle.sig_base.specs.declared.boxed.Boxed.TheInside.{Inside}
use Rattle.sig_base.specs.declared.boxed.Boxed.TheView.{invariant, view}

-- its value is the value in it
abbrev pub the_former : Former {0} → Former {0}
the_former held = held

abbrev pub the_weighed : {held : Former {0}} → Weighed held → Weighed (the_former held)
the_weighed weight = weight

-- its one field is an address, an allocator and the value
abbrev field : Former {0}
field = via (pair (const (Ptr × Global)) this) Inside
    (λ T inside. ((inside.inner.ptr, inside.inner.alloc), inside.inner.value))
    (λ T parts. record { inner = record { ptr = parts.0.0; alloc = parts.0.1; value = parts.1 } })
    (λ T inside. refl) (λ T parts. refl)

abbrev holding : {T U : Type 0} → Box T Global → U → Box U Global
holding b value = record { ptr = b.ptr; alloc = b.alloc; value = value }

abbrev boxes_of : RattleType → RattleType
boxes_of Row = std_box.the_row Row global.the_row allocator.ghosts

module _ (From To : RattleType) (along : From.Denot → To.Denot) where
  of_box : Alike From To along → Alike (boxes_of From) (boxes_of To) (λ b. holding b (along b.value))
  unfolding part_of
  of_box alike = record {
    mir_same = λ i. (boxes_of (one_value From (alike.mir_same i) (λ _. ftrue) (λ _ _. nothing) gnil)).mir;
    own_same = λ b i. (boxes_of (one_value From (alike.mir_same i) (alike.own_same b.value i) (alike.shr_same b.value i) gnil)).own_val (holding b tt);
    shr_same = λ b i. (boxes_of (one_value From (alike.mir_same i) (alike.own_same b.value i) (alike.shr_same b.value i) gnil)).shr_at (holding b tt);
  }

  pub the_places : Alike From To along → Alike (outer.the_row From) (outer.the_row To) ((the_former this).map From.Denot To.Denot along)
  the_places alike =
      let of_struct = struct_places (inner.the_type From) (inner.the_type To) ((λ b. holding b (along b.value)), tt) _ (λ inside. refl) refl (laid _ _ _ (of_box alike), tt) in
      view_places field this view (λ T U f inside. refl) (λ T inside. refl) From.Denot To.Denot along (outer.the_row From).coded (outer.the_row To).coded
      (invariant From.Denot) (invariant To.Denot) (λ inside p q. refl) (λ inside p q. refl) (λ inside e. tt) (λ inside e. tt)
      (over (inner.the_row From)) (over (inner.the_row To)) of_struct

  pub the_codes_placed : Recodes From To along → Recodes (outer.the_row From) (outer.the_row To) ((the_former this).map From.Denot To.Denot along)
  the_codes_placed recoded value = recoded value
