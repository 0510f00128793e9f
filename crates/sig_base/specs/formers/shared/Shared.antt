-- How a `Shared` stores its value, so that a type may hold itself through one.
use mathlib.Core.Former.{Former, const, pair, this, via}
use mathlib.Core.Path.{refl}
use base.Fml.{ftrue}
use base.Stored.{gnil}
use denote.Hole.Fix.{over}
use denote.HoleLaws.{Alike}
use denote.HolePlaces.{Recodes, laid, one_value, struct_places}
use denote.Memory.{part_of}
use denote.Model.Placed.{view_places}
use denote.Param.Weighed.{Weighed}
use denote.RattleType.{RattleType}
use denote.RawPtr.{Ptr}
use denote.Sharing.{nothing}
use Rattle.std.specs.contracts.alloc.Global as global
use Rattle.std.specs.contracts.rc.Rc as std_rc
use Rattle.std.specs.contracts.impls.GlobalAllocator.TheImpl as allocator
use Rattle.std.specs.declared.alloc.Global.{Global}
use Rattle.std.specs.declared.rc.Rc.{Rc}
use Rattle.sig_base.specs.contracts.shared.Shared as outer
use Rattle.sig_base.specs.contracts.shared.Shared.TheInside as inner
use Rattle.sig_base.specs.declared.shared.Shared.TheInside.{Inside}
use Rattle.sig_base.specs.declared.shared.Shared.TheView.{invariant, view}

-- its value is the value in it
abbrev pub the_former : Former {0} → Former {0}
the_former held = held

abbrev pub the_weighed : {held : Former {0}} → Weighed held → Weighed (the_former held)
the_weighed weight = weight

-- its one field is an address and the value
abbrev field : Former {0}
field = via (pair (const Ptr) this) Inside
    (λ T inside. (inside.inner.ptr, inside.inner.value))
    (λ T parts. record { inner = record { ptr = parts.0; value = parts.1 } })
    (λ T inside. refl) (λ T parts. refl)

abbrev holding : {T U : Type 0} → Rc T Global → U → Rc U Global
holding r value = record { ptr = r.ptr; value = value }

abbrev rcs_of : RattleType → RattleType
rcs_of Row = std_rc.the_row Row global.the_row allocator.ghosts

module _ (From To : RattleType) (along : From.Denot → To.Denot) where
  of_rc : Alike From To along → Alike (rcs_of From) (rcs_of To) (λ r. holding r (along r.value))
  unfolding part_of
  of_rc alike = record {
    mir_same = λ i. (rcs_of (one_value From (alike.mir_same i) (λ _. ftrue) (λ _ _. nothing) gnil)).mir;
    own_same = λ r i. (rcs_of (one_value From (alike.mir_same i) (alike.own_same r.value i) (alike.shr_same r.value i) gnil)).own_val (holding r tt);
    shr_same = λ r i. (rcs_of (one_value From (alike.mir_same i) (alike.own_same r.value i) (alike.shr_same r.value i) gnil)).shr_at (holding r tt);
  }

  pub the_places : Alike From To along → Alike (outer.the_row From) (outer.the_row To) ((the_former this).map From.Denot To.Denot along)
  the_places alike =
      let of_struct = struct_places (inner.the_type From) (inner.the_type To) ((λ r. holding r (along r.value)), tt) _ (λ inside. refl) refl (laid _ _ _ (of_rc alike), tt) in
      view_places field this view (λ T U f inside. refl) (λ T inside. refl) From.Denot To.Denot along (outer.the_row From).coded (outer.the_row To).coded
      (invariant From.Denot) (invariant To.Denot) (λ inside p q. refl) (λ inside p q. refl) (λ inside e. tt) (λ inside e. tt)
      (over (inner.the_row From)) (over (inner.the_row To)) of_struct

  pub the_codes_placed : Recodes From To along → Recodes (outer.the_row From) (outer.the_row To) ((the_former this).map From.Denot To.Denot along)
  the_codes_placed recoded value = recoded value
