-- What changes of a table keep.
use Rattle.std.proofs.Common.{◌≡◌, ℕ, ◌+◌, ◌<◌, ◌≤◌, true, false, true≢false, nat_le, IsTrue, List, [], ◌∷◌, ◌++◌, length, slice_get, set, Option, Some, None, refl, sym, ap, ◌∙◌, subst, arith, length-append}
use Rattle.std.proofs.lemmas.Bool.{and_parts, eq-eqb, leb-true, not-true}
use Rattle.std.proofs.lemmas.List.{length-set}
use Rattle.std.proofs.lemmas.Option.{slice_get_within}
use Rattle.std.specs.List.{AllByRecursion}
use Rattle.type_core.specs.declared.names.Equality.{Equality}
use Rattle.type_core.specs.declared.names.TypeName.{TypeName}
use Rattle.type_core.specs.declared.ty.NameId.{NameId}
use Rattle.type_core.specs.declared.ty.Ty.{Ty}
use Rattle.type_core.specs.declared.type_fn.TypeFn.{TypeFn}
use Rattle.type_core.specs.InitialNames.{initial_names}
use Rattle.type_core.specs.TypeFunctions.{IsTypeFn}
use Rattle.type_core.specs.Substitution.{allows}
use Rattle.type_core.specs.Types.{IsTypeOver, takes}
use Rattle.elab_env.specs.declared.realization.Realization.{Realization}
use Rattle.elab_env.specs.Avoids.{Avoids}
use Rattle.elab_env.specs.Names.{arity_of, is_described, is_own, with_equality}
use Rattle.elab_env.specs.Places.{ArePlaced, IsKept}
use Rattle.elab_env.specs.Realizations.{function_resolved, resolved}
use Rattle.elab_env.specs.Sound.{AreRealizations, AreSettled, IsRealization, IsResolved}
use Rattle.elab_env.specs.Table.{Table, is_free, is_realized}
use Rattle.elab_env.proofs.NameLists.{BeginsWith, KeepsNames, begins_appended, begins_settled, keeps_appended, keeps_settled, length-with_equality, still_realizations}
use Rattle.elab_env.proofs.Placed.{placed_added, placed_more}
use Rattle.elab_env.proofs.Resolved.{resolved_is_resolved, resolved_over, resolved_type, resolved_variables}

abbrev pub tabled : List TypeName → List Realization → Table
tabled names rs = record { names = names; realizations = rs }

-- ---- other names
pub kept_by_names : (names more : List TypeName) (rs : List Realization) (places others : List (Option ℕ)) → KeepsNames names more → BeginsWith initial_names more → length more < 4294967296
    → ArePlaced rs others → length others ≡ length more → IsKept (tabled names rs) places → IsKept (tabled more rs) others
kept_by_names names more rs places others keeps begins numbered placed count h = record {
  sound = record {
    initial = begins;
    numbered = numbered;
    realizations = still_realizations names more keeps rs h.sound.realizations;
    settled = h.sound.settled;
  };
  placed = placed;
  count = count;
}

-- ---- free names
pub free_described : (table : Table) (n : ℕ) → IsTrue (is_free table n) → IsTrue (is_described table.names n)
free_described table n e = (and_parts (is_described table.names n) _ e).0

pub free_not_realized : (table : Table) (n : ℕ) → IsTrue (is_free table n) → is_realized table.realizations n ≡ false
free_not_realized table n e = not-true (is_realized table.realizations n) (and_parts (is_described table.names n) _ e).1

pub described_later : (names : List TypeName) (n : ℕ) → IsTrue (is_described names n) → length initial_names ≤ n
described_later names n e = leb-true (length initial_names) n (and_parts (nat_le (length initial_names) n) _ e).0

own_within : (names : List TypeName) (n : ℕ) → is_own (slice_get names n) ≡ true → n < length names
own_within names n e = by_name (slice_get names n) refl e
  where
    by_name : (o : Option TypeName) → slice_get names n ≡ o → is_own o ≡ true → n < length names
    by_name None is e = absurd (true≢false (sym e))
    by_name (Some name) is e = slice_get_within names n name is

pub described_within : (names : List TypeName) (n : ℕ) → IsTrue (is_described names n) → n < length names
described_within names n e = own_within names n (and_parts (nat_le (length initial_names) n) _ e).1

own_takes : (o : Option TypeName) → is_own o ≡ true → takes o (arity_of o) ≡ true
own_takes None e = absurd (true≢false (sym e))
own_takes (Some name) e = eq-eqb name.arity name.arity refl

pub described_takes : (names : List TypeName) (n : ℕ) → IsTrue (is_described names n) → takes (slice_get names n) (arity_of (slice_get names n)) ≡ true
described_takes names n e = own_takes (slice_get names n) (and_parts (nat_le (length initial_names) n) _ e).1

-- ---- one realization more
all_more : {A : Type 0} (P : A → Type 0) (xs : List A) (x : A) → AllByRecursion P xs → P x → AllByRecursion P (xs ++ x ∷ [])
all_more P [] x h p = (p, tt)
all_more P (y ∷ xs) x h p = (h.0, all_more P xs x h.1 p)

settled_more : (rs : List Realization) (r : Realization) → AreSettled rs → IsResolved rs r.fun.body → Avoids r.name.0 r.fun.body → AreSettled (rs ++ r ∷ [])
settled_more [] r h resolved own = ((own, tt), tt)
settled_more (s ∷ rs) r h resolved own = (all_more (λ later. Avoids s.name.0 later.fun.body) (s ∷ rs) r h.0 resolved.0, settled_more rs r h.1 resolved.1 own)

realization_of : (names : List TypeName) (rs : List Realization) (r : Realization) (f : TypeFn) → AreRealizations names rs → IsTrue (is_described names r.name.0)
    → f.arity ≡ arity_of (slice_get names r.name.0) → IsTypeFn f → IsTypeOver names f.body → r.fun ≡ function_resolved rs f → IsRealization names r
realization_of names rs r f h described arity function body is = record {
  described = described;
  arity = ap (takes (slice_get names r.name.0)) (ap (λ g. g.arity) is ∙ arity) ∙ described_takes names r.name.0 described;
  function = subst IsTypeFn (sym is) (resolved_variables names rs (allows f.arity false) f.body h body.over function);
  body = subst (λ g. IsTypeOver names g.body) (sym is) (record { is_type = resolved_type names rs f.body h body.is_type; over = resolved_over names rs f.body h body.over });
}

pub kept_by_realizing : (names : List TypeName) (rs : List Realization) (places : List (Option ℕ)) (r : Realization) (f : TypeFn) → IsKept (tabled names rs) places → IsTrue (is_free (tabled names rs) r.name.0)
    → f.arity ≡ arity_of (slice_get names r.name.0) → IsTypeFn f → IsTypeOver names f.body → Avoids r.name.0 (resolved rs f.body) → r.fun ≡ function_resolved rs f
    → IsKept (tabled names (rs ++ r ∷ [])) (set places r.name.0 (Some (length rs)))
kept_by_realizing names rs places r f h free arity function body other is =
    let described = free_described (tabled names rs) r.name.0 free in
    record {
      sound = record {
        initial = h.sound.initial;
        numbered = h.sound.numbered;
        realizations = all_more (IsRealization names) rs r h.sound.realizations (realization_of names rs r f h.sound.realizations described arity function body is);
        settled = settled_more rs r h.sound.settled
            (subst (λ g. IsResolved rs g.body) (sym is) (resolved_is_resolved rs f.body h.sound.settled))
            (subst (λ g. Avoids r.name.0 g.body) (sym is) other);
      };
      placed = placed_more rs places r.name.0 r h.placed (omega (arith, described_within names r.name.0 described, h.count)) (free_not_realized (tabled names rs) r.name.0 free) refl;
      count = length-set places r.name.0 (Some (length rs)) ∙ h.count;
    }

-- ---- another equality, and one name more
pub kept_settled : (names more : List TypeName) (rs : List Realization) (places : List (Option ℕ)) (n : ℕ) (equality : Equality) → more ≡ with_equality n equality names → IsTrue (is_free (tabled names rs) n)
    → IsKept (tabled names rs) places → IsKept (tabled more rs) places
kept_settled names more rs places n equality e free h = subst (λ m. IsKept (tabled m rs) places) (sym e)
    (kept_by_names names (with_equality n equality names) rs places places (keeps_settled n equality names)
    (begins_settled n equality initial_names names (described_later names n (free_described (tabled names rs) n free)) h.sound.initial)
    (omega (arith, length-with_equality n equality names, h.sound.numbered)) h.placed (h.count ∙ sym (length-with_equality n equality names)) h)

pub kept_added : (names more : List TypeName) (rs : List Realization) (places others : List (Option ℕ)) (name : TypeName) → more ≡ names ++ name ∷ [] → others ≡ places ++ None ∷ [] → length names < 4294967295
    → IsKept (tabled names rs) places → IsKept (tabled more rs) others
kept_added names more rs places others name e f room h = subst (λ m. IsKept (tabled m rs) others) (sym e) (subst (λ p. IsKept (tabled (names ++ name ∷ []) rs) p) (sym f)
    (kept_by_names names (names ++ name ∷ []) rs places (places ++ None ∷ []) (keeps_appended names (name ∷ []))
    (begins_appended initial_names names (name ∷ []) h.sound.initial)
    (omega (arith, length-append names (name ∷ []), room)) (placed_added rs places h.placed)
    (length-append places (None ∷ []) ∙ ap (λ k. k + 1) h.count ∙ sym (length-append names (name ∷ []))) h))

pub kept_realized : (table : Table) (names : List TypeName) (rs more : List Realization) (places : List (Option ℕ)) (n : NameId) (f : TypeFn) (body : Ty) (place : ℕ) → tabled names rs ≡ table
    → more ≡ rs ++ (record { name = n; fun = record { arity = f.arity; body = body } }) ∷ [] → place ≡ length rs → body ≡ resolved table.realizations f.body → IsKept (tabled names rs) places
    → IsTrue (is_free table n.0) → f.arity ≡ arity_of (slice_get table.names n.0) → IsTypeFn f → IsTypeOver table.names f.body → Avoids n.0 (resolved table.realizations f.body)
    → IsKept (tabled names more) (set places n.0 (Some place))
kept_realized table names rs more places n f body place view e p b h free arity function over other =
    let r : Realization = record { name = n; fun = record { arity = f.arity; body = body } } in
    let back = sym view in
    subst (λ xs. IsKept (tabled names xs) (set places n.0 (Some place))) (sym e)
    (subst (λ k. IsKept (tabled names (rs ++ r ∷ [])) (set places n.0 (Some k))) (sym p)
    (kept_by_realizing names rs places r f h
    (subst (λ t. IsTrue (is_free t n.0)) back free)
    (subst (λ t. f.arity ≡ arity_of (slice_get t.names n.0)) back arity)
    function
    (subst (λ t. IsTypeOver t.names f.body) back over)
    (subst (λ t. Avoids n.0 (resolved t.realizations f.body)) back other)
    (ap (λ t. let g : TypeFn = record { arity = f.arity; body = t } in g) (b ∙ ap (λ t. resolved t.realizations f.body) back))))
