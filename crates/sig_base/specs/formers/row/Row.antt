-- How a `Row` stores its values, so that a type may hold itself through one.
use mathlib.Core.Former.{Former, children, const, list, or, pair, this, via}
use mathlib.Core.List.{List, []}
use mathlib.Core.Logic.{◌⊎◌, inl, inr}
use mathlib.Core.Path.{◌≡◌, refl, sym}
use base.Fml.{ftrue}
use base.Stored.{code_map, gnil}
use denote.Hole.Carrier.{list-listed, listed}
use denote.Hole.Fix.{over}
use denote.HoleLaws.{Alike}
use denote.HolePlaces.{Recodes, eachs, enum_places, laid, one_value, struct_places}
use denote.Memory.{part_of}
use denote.Model.Placed.{held, view_places}
use denote.Param.Weighed.{Weighed, w_list}
use denote.RattleType.{RattleType}
use denote.RawPtr.{Ptr}
use denote.Sharing.{nothing}
use Rattle.std.specs.contracts.alloc.Global as global
use Rattle.std.specs.contracts.impls.GlobalAllocator.TheImpl as allocator
use Rattle.std.specs.contracts.option.Option as std_option
use Rattle.std.specs.contracts.rc.Rc as std_rc
use Rattle.std.specs.declared.alloc.Global.{Global}
use Rattle.std.specs.declared.option.Option.{Option}
use Rattle.std.specs.declared.option.Option.TheVariants.{None, Some}
use Rattle.std.specs.declared.rc.Rc.{Rc}
use Rattle.sig_base.specs.Rows.{items_of}
use Rattle.sig_base.specs.contracts.list.List as lists
use Rattle.sig_base.specs.contracts.row.Row as outer
use Rattle.sig_base.specs.contracts.row.Row.TheInside as inner
use Rattle.sig_base.specs.declared.row.Row.TheInside.{Inside}
use Rattle.sig_base.specs.declared.row.Row.TheView.{invariant, view}
use Rattle.sig_base.specs.formers.list.List as of_lists

-- its value is a list, which holds what the list holds
abbrev pub the_former : Former {0} → Former {0}
the_former held = list held

abbrev pub the_weighed : {held : Former {0}} → Weighed held → Weighed (the_former held)
the_weighed weight = w_list weight

pub the_empty : List ⊥
the_empty = []

abbrev pub the_items : (T : Type 0) → List T → List T
the_items T values = values

pub the_items_listed : (T : Type 0) (values : List T) → listed _ (children (the_former this) T values) ≡ the_items T values
the_items_listed T values = list-listed T values

-- its one field is no pointer, or one and the list behind it
module _ {T : Type 0} where
  abbrev split : Option (Rc (List T) Global) → Unit {0} ⊎ (Ptr × List T)
  split None = inl tt
  split (Some r) = inr (r.ptr, r.value)

  abbrev join : Unit {0} ⊎ (Ptr × List T) → Option (Rc (List T) Global)
  join (inl u) = None
  join (inr v) = Some (record { ptr = v.0; value = v.1 })

  join-split : (o : Option (Rc (List T) Global)) → join (split o) ≡ o
  join-split None = refl
  join-split (Some r) = refl

  split-join : (o : Unit {0} ⊎ (Ptr × List T)) → split (join o) ≡ o
  split-join (inl u) = refl
  split-join (inr v) = refl

abbrev pointer : Former {0}
pointer = via (or (const (Unit {0})) (pair (const Ptr) (list this))) (λ T. Option (Rc (List T) Global)) (λ T. split) (λ T. join) (λ T. join-split) (λ T. split-join)

abbrev field : Former {0}
field = via pointer Inside (λ T inside. inside.items) (λ T o. record { items = o }) (λ T inside. refl) (λ T o. refl)

keeps : (T : Type 0) (o : Option (Rc (List T) Global)) → held (list this) T (items_of o) ≡ held pointer T o
keeps T None = refl
keeps T (Some r) = refl

natural : (T U : Type 0) (along : T → U) (o : Option (Rc (List T) Global)) → items_of (pointer.map T U along o) ≡ (list this).map T U along (items_of o)
natural T U along None = refl
natural T U along (Some r) = refl

abbrev holding : {T U : Type 0} → Rc T Global → U → Rc U Global
holding r value = record { ptr = r.ptr; value = value }

abbrev rcs_of : RattleType → RattleType
rcs_of Row = std_rc.the_row Row global.the_row allocator.ghosts

module _ (From To : RattleType) (along : From.Denot → To.Denot) where
  of_rc : Alike From To along → Alike (rcs_of From) (rcs_of To) (λ r. holding r (along r.value))
  unfolding part_of
  of_rc alike = record {
    mir_same = λ i. (rcs_of (one_value From (alike.mir_same i) (λ _. ftrue) (λ _ _. nothing) gnil)).mir;
    own_same = λ r i. (rcs_of (one_value From (alike.mir_same i) (alike.own_same r.value i) (alike.shr_same r.value i) gnil)).own_val (holding r tt);
    shr_same = λ r i. (rcs_of (one_value From (alike.mir_same i) (alike.own_same r.value i) (alike.shr_same r.value i) gnil)).shr_at (holding r tt);
  }

module _ (From To : RattleType) (along : From.Denot → To.Denot) where
  abbrev rcs_from : RattleType
  rcs_from = rcs_of (lists.the_row From)

  abbrev rcs_to : RattleType
  rcs_to = rcs_of (lists.the_row To)

  abbrev along_rc : Rc (List From.Denot) Global → Rc (List To.Denot) Global
  along_rc r = holding r ((list this).map From.Denot To.Denot along r.value)

  variant : (o : Option (Rc (List From.Denot) Global))
      → (std_option.enum rcs_to).as_values (pointer.map From.Denot To.Denot along o)
      ≡ eachs (std_option.enum rcs_from).parts (std_option.enum rcs_to).parts (tt, ((along_rc, tt), tt)) ((std_option.enum rcs_from).as_values o)
  variant None = refl
  variant (Some r) = refl

  pub the_places : Alike From To along → Alike (outer.the_row From) (outer.the_row To) ((the_former this).map From.Denot To.Denot along)
  the_places alike =
      let of_list = of_lists.the_places From To along alike in
      let behind = of_rc (lists.the_row From) (lists.the_row To) ((list this).map From.Denot To.Denot along) of_list in
      let of_pointer = enum_places (std_option.enum rcs_from) (std_option.enum rcs_to) (tt, ((along_rc, tt), tt)) (pointer.map From.Denot To.Denot along) variant refl (tt, ((laid _ _ _ behind, tt), tt)) in
      let of_struct = struct_places (inner.the_type From) (inner.the_type To) (pointer.map From.Denot To.Denot along, tt) _ (λ inside. refl) refl (laid _ _ _ of_pointer, tt) in
      view_places field (list this) view (λ T U f inside. natural T U f inside.items) (λ T inside. keeps T inside.items) From.Denot To.Denot along (outer.the_row From).coded (outer.the_row To).coded
      (invariant From.Denot) (invariant To.Denot) (λ inside p q. refl) (λ inside p q. refl) (λ inside e. tt) (λ inside e. tt)
      (over (inner.the_row From)) (over (inner.the_row To)) of_struct

  pub the_codes_placed : Recodes From To along → Recodes (outer.the_row From) (outer.the_row To) ((the_former this).map From.Denot To.Denot along)
  the_codes_placed recoded values = sym (code_map From.coded.code To.coded.code along (λ value. sym (recoded value)) values)
