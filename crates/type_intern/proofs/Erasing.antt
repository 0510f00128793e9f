-- Types with their variables replaced by marks, in a table.
use Rattle.std.proofs.Common.{◌≡◌, ℕ, List, [], ◌∷◌, ◌++◌, Some, map, length, slice_get, position, refl, sym, ap, ap₂, ◌∙◌, subst, subst₂, arith, inl, inr, length-append}
use Rattle.std.proofs.lemmas.Option.{none-some, slice_get_within}
use Rattle.std.specs.List.{position_or_len}
use Rattle.std.specs.Map.{keys_of, values_of}
use Rattle.indexmap.specs.IndexMap.{insert_entry}
use Rattle.type_core.specs.declared.ty.Ty.{Ty}
use Rattle.type_core.specs.declared.ty.VarId.{VarId}
use Rattle.type_core.specs.declared.ty.NameId.{NameId}
use Rattle.type_core.specs.declared.ty.Ty.TheVariants as ty
use Rattle.type_core.specs.Renaming.{field_renamed}
use Rattle.type_core.proofs.Trees.{renamed_var, renamed_con, renamed_rec, renamed_tup, renamed_arrow, renamed_field}
use Rattle.type_core.proofs.Renamed.{renamed_renamed}
use Rattle.type_intern.specs.declared.node.TyId.{TyId}
use Rattle.type_intern.specs.declared.node.FieldId.{FieldId}
use Rattle.type_intern.specs.declared.node.Node.{Node}
use Rattle.type_intern.specs.Erasure.{erase, marks}
use Rattle.type_intern.specs.Numbering.{Grows}
use Rattle.type_intern.specs.Tables.{IsTableOf}
use Rattle.type_intern.specs.Tops.{FitsBelow, field_at, tree_of, type_at}
use Rattle.type_intern.specs.TypeTables.{AreErased, AreFieldsStored, AreStored, IsTypeTable, erased_at, erased_field_at, types_of}
use Rattle.type_intern.proofs.Entries.{Added, found_at, keys_push, length_keys, values_pushed}
use Rattle.type_intern.proofs.NodeEquality.{node_eq, node_eq_same}
use Rattle.type_intern.proofs.Places.{get_append, get_last, get_push, grows_longer}
use Rattle.type_intern.proofs.Placing.{empty_table, empty_values, push_table, values_push}
use Rattle.type_intern.proofs.Storing.{fields_stored, stored_types}
use Rattle.type_intern.proofs.TypeTops.{type_tops}

pub erase_twice : (t : Ty) → erase (erase t) ≡ erase t
unfolding erase
erase_twice t = renamed_renamed marks marks t

-- erasures by tops
erased_parts : (types : List Ty) (ids : List TyId) → map erase (map (type_at types) ids) ≡ map (erased_at types) ids
erased_parts types [] = refl
erased_parts types (id ∷ ids) = ap (λ ts. erase (type_at types id) ∷ ts) (erased_parts types ids)

erased_fields : (types : List Ty) (fs : List FieldId)
    → map (field_renamed marks) (map (field_at types) fs) ≡ map (erased_field_at types) fs
unfolding erase
erased_fields types [] = refl
erased_fields types (f ∷ fs) = ap₂ ◌∷◌ (renamed_field marks (field_at types f)) (erased_fields types fs)

pub erase_var : (v : VarId) → ty.Var (record { n = 0; eq = v.eq }) ≡ erase (ty.Var v)
unfolding erase
erase_var v = sym (renamed_var marks v)

pub erase_con : (types : List Ty) (name : NameId) (erased ids : List TyId)
    → AreStored types erased (map (erased_at types) ids)
    → ty.Con name (map (type_at types) erased) ≡ erase (ty.Con name (map (type_at types) ids))
unfolding erase
erase_con types name erased ids e = ap (ty.Con name) (stored_types types erased _ e ∙ sym (erased_parts types ids)) ∙
    sym (renamed_con marks name _)

pub erase_tup : (types : List Ty) (erased ids : List TyId) → AreStored types erased (map (erased_at types) ids)
    → ty.Tup (map (type_at types) erased) ≡ erase (ty.Tup (map (type_at types) ids))
unfolding erase
erase_tup types erased ids e = ap ty.Tup (stored_types types erased _ e ∙ sym (erased_parts types ids)) ∙ sym
    (renamed_tup marks _)

pub erase_rec : (types : List Ty) (erased fs : List FieldId)
    → AreFieldsStored types erased (map (erased_field_at types) fs)
    → ty.Rec (map (field_at types) erased) ≡ erase (ty.Rec (map (field_at types) fs))
unfolding erase
erase_rec types erased fs e = ap ty.Rec (fields_stored types erased _ e ∙ sym (erased_fields types fs)) ∙ sym
    (renamed_rec marks _)

pub erase_arrow : (a b c d : Ty) → c ≡ erase a → d ≡ erase b → ty.Arrow c d ≡ erase (ty.Arrow a b)
unfolding erase
erase_arrow a b c d p q = ap₂ ty.Arrow p q ∙ sym (renamed_arrow marks a b)

-- a table after an insertion
module _ (es fs : List (Node × ℕ)) (n : Node) (e : ℕ) (new : Added node_eq es n e)
    (entries : fs ≡ insert_entry node_eq es n e)
    (types : List Ty) (is : types_of (keys_of es) ≡ types) (table : IsTypeTable (keys_of es) (values_of es)) where
  types_pushed : types_of (keys_of fs) ≡ types ++ tree_of types n ∷ []
  types_pushed = ap (λ (xs : List (Node × ℕ)). types_of (keys_of xs)) (entries ∙ new.entries) ∙ ap types_of
      (keys_push es n e) ∙ values_push tree_of [] (keys_of es) n ∙ ap (λ (ts : List Ty). ts ++ tree_of ts n ∷ []) is

  pub put_grows : Grows types (types_of (keys_of fs))
  put_grows = record { more = tree_of types n ∷ []; is = types_pushed }

  pub put_reads : (i : ℕ) → i ≡ position_or_len (node_eq n) (keys_of es)
      → slice_get (types_of (keys_of fs)) i ≡ Some (tree_of types n)
  put_reads i at =
      let last : i ≡ length types = at ∙ new.place ∙ sym (length_keys es) ∙ sym table.table.long ∙ ap length is in
      ap (slice_get (types_of (keys_of fs))) last ∙ ap (λ ts. slice_get ts (length types)) types_pushed ∙ get_last types
      _

  pub put_table : FitsBelow (length types) n
      → slice_get (types ++ tree_of types n ∷ []) e ≡ Some (erase (tree_of types n))
      → IsTypeTable (keys_of fs) (values_of fs)
  put_table fits at =
      let pushed : IsTableOf tree_of FitsBelow (keys_of es ++ n ∷ []) (types ++ tree_of types n ∷ []) = push_table
      tree_of FitsBelow type_tops (keys_of es) types n (subst (IsTableOf tree_of FitsBelow (keys_of es)) is
      table.table) fits new.absent in
      let keys : keys_of fs ≡ keys_of es ++ n ∷ [] = ap keys_of (entries ∙ new.entries) ∙ keys_push es n e in
      let values : values_of fs ≡ values_of es ++ e ∷ [] = ap values_of (entries ∙ new.entries) ∙ values_pushed es n e
      in
      let same : length (values_of es) ≡ length types = table.erasures.long ∙ ap length is in
      let old : AreErased types (values_of es) = subst (λ (ts : List Ty). AreErased ts (values_of es)) is table.erasures
      in
      let all : AreErased (types ++ tree_of types n ∷ []) (values_of es ++ e ∷ []) = record {
        long = simp length-append (omega (arith, same));
        is = λ i t k p q. elim (get_push types (tree_of types n) i t p) [
          | inl u ↦ elim (get_push (values_of es) e i k q) [
            | inl v ↦ get_append types _ k _ (old.is i t k u v)
            | inr v ↦ absurd (omega (arith, same, v.0, slice_get_within types i t u))
          ]
          | inr u ↦ elim (get_push (values_of es) e i k q) [
            | inl v ↦ absurd (omega (arith, same, u.0, slice_get_within (values_of es) i k v))
            | inr v ↦ ap (slice_get (types ++ tree_of types n ∷ [])) (sym v.1) ∙ at ∙ ap (λ (t : Ty). Some (erase t))
                u.1
          ]
        ];
      } in
      record {
        table = subst₂ (IsTableOf tree_of FitsBelow) (sym keys) (sym types_pushed) pushed;
        erasures = subst₂ AreErased (sym types_pushed) (sym values) all;
      }

pub put_found : (es : List (Node × ℕ)) (n : Node) (i : ℕ) (types : List Ty) → types_of (keys_of es) ≡ types
    → IsTypeTable (keys_of es) (values_of es) → Some i ≡ position (node_eq n) (keys_of es)
    → slice_get types i ≡ Some (tree_of types n)
put_found es n i types is table e = subst (λ (ts : List Ty). slice_get ts i ≡ Some (tree_of ts n)) is
    (table.table.reads i n (found_at node_eq node_eq_same (keys_of es) n i e))

pub empty_erasing : (es : List (Node × ℕ)) → es ≡ [] → IsTypeTable (keys_of es) (values_of es)
empty_erasing es e = subst (λ (xs : List (Node × ℕ)). IsTypeTable (keys_of xs) (values_of xs)) (sym e) (record {
  table = empty_table tree_of FitsBelow type_tops;
  erasures = record { long = ap length (sym (empty_values tree_of)); is = λ i t k p q. absurd (none-some k q) };
})

-- tops mean the same in a table that grows
pub tree_kept : (old new : List Ty) → Grows old new → (n : Node) → FitsBelow (length old) n
    → tree_of new n ≡ tree_of old n
tree_kept old new g n h = ap (λ ts. tree_of ts n) g.is ∙ type_tops.grows old g.more n h

-- the erasure of a top is its own erasure
pub own_erasure : (types : List Ty) (erased node : Node) (place : ℕ) → place ≡ length types
    → tree_of types erased ≡ erase (tree_of types node)
    → slice_get (types ++ tree_of types erased ∷ []) place ≡ Some (erase (tree_of types erased))
own_erasure types erased node place last is =
    ap (slice_get (types ++ tree_of types erased ∷ [])) last ∙ get_last types _ ∙ ap Some
    (is ∙ sym (erase_twice _) ∙ ap erase (sym is))

-- the number of the erasure, for the top itself
pub put_erased : (old new : List Ty) → Grows old new → (erased node : Node) (e : ℕ) → FitsBelow (length old) node
    → tree_of old erased ≡ erase (tree_of old node) → slice_get new e ≡ Some (tree_of old erased)
    → slice_get (new ++ tree_of new node ∷ []) e ≡ Some (erase (tree_of new node))
put_erased old new g erased node e fits is at =
    get_append new _ e _ (at ∙ ap Some (is ∙ ap erase (sym (tree_kept old new g node fits))))

pub fits_kept : (old new : List Ty) → Grows old new → (node : Node) → FitsBelow (length old) node
    → FitsBelow (length new) node
fits_kept old new g node fits = type_tops.weaker (length old) (length new) node (grows_longer old new g) fits
