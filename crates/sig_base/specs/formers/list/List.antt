-- How a `List` stores its values, so that a type may hold itself through one.
use mathlib.Core.Former.{Former, children, list, this, via}
use mathlib.Core.List.{List, []}
use mathlib.Core.Path.{◌≡◌, refl, sym}
use base.Stored.{code_map}
use denote.Hole.Carrier.{list-listed, listed}
use denote.Hole.Fix.{over}
use denote.HoleLaws.{Alike}
use denote.HolePlaces.{Recodes, laid, struct_places}
use denote.Model.Placed.{view_places}
use denote.Param.Weighed.{Weighed, w_list}
use denote.RattleType.{RattleType}
use Rattle.std.specs.contracts.alloc.Global as global
use Rattle.std.specs.contracts.impls.GlobalAllocator.TheImpl as allocator
use Rattle.std.specs.declared.alloc.Global.{Global}
use Rattle.std.specs.formers.vec.Vec as vec
use Rattle.sig_base.specs.contracts.list.List as outer
use Rattle.sig_base.specs.contracts.list.List.TheInside as inner
use Rattle.sig_base.specs.declared.list.List.TheInside.{Inside}
use Rattle.sig_base.specs.declared.list.List.TheView.{invariant, view}

-- its value is a list, which holds what the list holds
abbrev pub the_former : Former {0} → Former {0}
the_former held = list held

abbrev pub the_weighed : {held : Former {0}} → Weighed held → Weighed (the_former held)
the_weighed weight = w_list weight

pub the_empty : List ⊥
the_empty = []

abbrev pub the_items : (T : Type 0) → List T → List T
the_items T values = values

pub the_items_listed : (T : Type 0) (values : List T) → listed _ (children (the_former this) T values) ≡ the_items T values
the_items_listed T values = list-listed T values

-- its one field is a `Vec`
abbrev field : Former {0}
field = via (vec.the_former this Global) Inside (λ T inside. inside.items) (λ T vector. record { items = vector }) (λ T inside. refl) (λ T vector. refl)

module _ (From To : RattleType) (along : From.Denot → To.Denot) where
  pub the_places : Alike From To along → Alike (outer.the_row From) (outer.the_row To) ((the_former this).map From.Denot To.Denot along)
  the_places alike =
      let of_vec = vec.the_places global.the_row allocator.ghosts From To along alike in
      let of_struct = struct_places (inner.the_type From) (inner.the_type To) (vec.mapped along, tt) _ (λ inside. refl) refl (laid _ _ _ of_vec, tt) in
      view_places field (list this) view (λ T U f inside. refl) (λ T inside. refl) From.Denot To.Denot along (outer.the_row From).coded (outer.the_row To).coded
      (invariant From.Denot) (invariant To.Denot) (λ inside p q. refl) (λ inside p q. refl) (λ inside e. tt) (λ inside e. tt)
      (over (inner.the_row From)) (over (inner.the_row To)) of_struct

  pub the_codes_placed : Recodes From To along → Recodes (outer.the_row From) (outer.the_row To) ((the_former this).map From.Denot To.Denot along)
  the_codes_placed recoded values = sym (code_map From.coded.code To.coded.code along (λ value. sym (recoded value)) values)
