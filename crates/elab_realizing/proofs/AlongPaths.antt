-- What two environments have along the same paths, entry by entry.
use Rattle.std.proofs.Common.{◌≡◌, ℕ, Bool, true, false, if◌then◌else◌, bytes_eq, List, [], ◌∷◌, ◌++◌, Option, Some, None, OnOk, Result, Ok, Err, refl, sym, ap, ap₂, ◌∙◌, subst}
use Rattle.std.specs.List.{All}
use Rattle.std.specs.Option.{option_and_then, option_map, option_or}
use Rattle.std.proofs.lemmas.Slice.Eq.{bytes_eq-Decides}
use Rattle.std.proofs.lemmas.List.Elements.{All-head, All-tail}
use Rattle.elab_env.specs.declared.realization.Realization.{Realization}
use Rattle.elab_env.specs.Realizations.{resolved}
use Rattle.type_core.specs.declared.type_fn.TypeFn.{TypeFn}
use Rattle.elab_rules.specs.declared.entry.Entry.{Entry}
use Rattle.elab_rules.specs.declared.entry.Entry.TheOpen.{Structure}
use Rattle.elab_rules.specs.declared.entry.Entry.TheVariants as entry
use Rattle.elab_rules.specs.declared.entry.TypeEntry.{TypeEntry}
use Rattle.elab_rules.specs.declared.entry.ValueEntry.{ValueEntry}
use Rattle.elab_rules.specs.Environments.{Environment, structure_at, structure_in, structure_of, type_at, type_in, type_of}
use Rattle.elab_rules.specs.LongIdentifiers.{found_in, type_along}
use Rattle.elab_rules.proofs.Entries.{out_structure, out_type, out_value}
use Rattle.elab_rules.proofs.LaterNames.{resolved_appended}
use Rattle.elab_realizing.specs.SharedStructures.{AlongEachPath, AreSame, AreShared, IsThere, entry_along}

-- ---- along a path
entry_of_found : (env : Environment) (o : Option TypeEntry) → option_map (λ found. found.entry) (found_in env o) ≡ o
entry_of_found env None = refl
entry_of_found env (Some type) = refl

pub entry_here : (id : List ℕ) (env : Environment) → entry_along (id ∷ []) env ≡ type_in id env
entry_here id env = entry_of_found env (type_in id env)

pub entry_below : (id next : List ℕ) (ids : List (List ℕ)) (env : Environment) → entry_along (id ∷ next ∷ ids) env ≡ option_and_then (entry_along (next ∷ ids)) (structure_in id env)
entry_below id next ids env = by_case (structure_in id env)
  where
    by_case : (o : Option Environment) → option_map (λ found. found.entry) (option_and_then (type_along (next ∷ ids)) o) ≡ option_and_then (entry_along (next ∷ ids)) o
    by_case None = refl
    by_case (Some es) = refl

module _ (R : Option TypeEntry → Option TypeEntry → Type 0) (nothing : (o : Option TypeEntry) → R None o) where
  -- what is here and what is below
  by_here : (id : List ℕ) (env other : Environment) → R (type_in id env) (type_in id other) → R (entry_along (id ∷ []) env) (entry_along (id ∷ []) other)
  by_here id env other h = subst (λ o. R o (entry_along (id ∷ []) other)) (sym (entry_here id env)) (subst (R (type_in id env)) (sym (entry_here id other)) h)

  here_by : (id : List ℕ) (env other : Environment) → R (entry_along (id ∷ []) env) (entry_along (id ∷ []) other) → R (type_in id env) (type_in id other)
  here_by id env other h = subst (λ o. R o (type_in id other)) (entry_here id env) (subst (R (entry_along (id ∷ []) env)) (entry_here id other) h)

  by_below : (id next : List ℕ) (ids : List (List ℕ)) (env other : Environment) → R (option_and_then (entry_along (next ∷ ids)) (structure_in id env)) (entry_along (id ∷ next ∷ ids) other)
      → R (entry_along (id ∷ next ∷ ids) env) (entry_along (id ∷ next ∷ ids) other)
  by_below id next ids env other h = subst (λ o. R o (entry_along (id ∷ next ∷ ids) other)) (sym (entry_below id next ids env)) h

  below_by : (id next : List ℕ) (ids : List (List ℕ)) (env other : Environment) → R (entry_along (id ∷ next ∷ ids) env) (entry_along (id ∷ next ∷ ids) other)
      → R (option_and_then (entry_along (next ∷ ids)) (structure_in id env)) (entry_along (id ∷ next ∷ ids) other)
  below_by id next ids env other h = subst (λ o. R o (entry_along (id ∷ next ∷ ids) other)) (entry_below id next ids env) h

  -- ---- an entry and further ones
  first_or : (o p q : Option TypeEntry) → R (option_or o None) q → R p q → R (option_or o p) q
  first_or None p q h k = k
  first_or (Some type) p q h k = h

  first_below : (f : Environment → Option TypeEntry) (o p : Option Environment) (q : Option TypeEntry) → R (option_and_then f (option_or o None)) q → R (option_and_then f p) q → R (option_and_then f (option_or o p)) q
  first_below f None p q h k = k
  first_below f (Some es) p q h k = h

  one_more : (e : Entry) (es other : Environment) → AlongEachPath R (e ∷ []) other → AlongEachPath R es other → AlongEachPath R (e ∷ es) other
  one_more e es other h k [] = nothing (entry_along [] other)
  one_more e es other h k (id ∷ []) =
      by_here id (e ∷ es) other (first_or (type_of id e) (type_in id es) (type_in id other) (here_by id (e ∷ []) other (h (id ∷ []))) (here_by id es other (k (id ∷ []))))
  one_more e es other h k (id ∷ next ∷ ids) =
      by_below id next ids (e ∷ es) other
      (first_below (entry_along (next ∷ ids)) (structure_of id e) (structure_in id es) (entry_along (id ∷ next ∷ ids) other)
      (below_by id next ids (e ∷ []) other (h (id ∷ next ∷ ids))) (below_by id next ids es other (k (id ∷ next ∷ ids))))

  none_along : (path : List (List ℕ)) → entry_along path [] ≡ None
  none_along [] = refl
  none_along (id ∷ []) = refl
  none_along (id ∷ next ∷ ids) = refl

  -- what holds of each entry by itself
  pub all_along : (es other : Environment) → All (λ e. AlongEachPath R (e ∷ []) other) es → AlongEachPath R es other
  all_along [] other all = λ path. subst (λ o. R o (entry_along path other)) (sym (none_along path)) (nothing (entry_along path other))
  all_along (e ∷ es) other all =
      one_more e es other (All-head (λ x. AlongEachPath R (x ∷ []) other) e es all) (all_along es other (All-tail (λ x. AlongEachPath R (x ∷ []) other) e es all))

  -- ---- one entry
  or_none : (o : Option TypeEntry) → option_or o None ≡ o
  or_none None = refl
  or_none (Some type) = refl

  -- a type constructor
  module _ (type : TypeEntry) (other : Environment) (x : Entry) (is : x ≡ entry.Tycon type) (h : R (Some type) (type_in type.id other)) where
    chosen_type : (id : List ℕ) (b : Bool) → bytes_eq id type.id ≡ b → R (option_or (if b then Some type else None) None) (type_in id other)
    chosen_type id true e = subst (λ name. R (Some type) (type_in name other)) (sym ((bytes_eq-Decides id type.id).0 e)) h
    chosen_type id false e = nothing (type_in id other)

    of_type : (path : List (List ℕ)) → R (entry_along path (entry.Tycon type ∷ [])) (entry_along path other)
    of_type [] = nothing (entry_along [] other)
    of_type (id ∷ []) =
        by_here id (entry.Tycon type ∷ []) other
        (subst (λ e. R (option_or (type_at id e) None) (type_in id other)) (sym (out_type type)) (chosen_type id (bytes_eq id type.id) refl))
    of_type (id ∷ next ∷ ids) =
        by_below id next ids (entry.Tycon type ∷ []) other
        (subst (λ e. R (option_and_then (entry_along (next ∷ ids)) (option_or (structure_at id e) None)) (entry_along (id ∷ next ∷ ids) other)) (sym (out_type type)) (nothing (entry_along (id ∷ next ∷ ids) other)))

    pub type_here : AlongEachPath R (x ∷ []) other
    type_here = subst (λ e. AlongEachPath R (e ∷ []) other) (sym is) of_type

  -- a value
  module _ (value : ValueEntry) (other : Environment) (x : Entry) (is : x ≡ entry.Value value) where
    of_value : (path : List (List ℕ)) → R (entry_along path (entry.Value value ∷ [])) (entry_along path other)
    of_value [] = nothing (entry_along [] other)
    of_value (id ∷ []) =
        by_here id (entry.Value value ∷ []) other
        (subst (λ e. R (option_or (type_at id e) None) (type_in id other)) (sym (out_value value)) (nothing (type_in id other)))
    of_value (id ∷ next ∷ ids) =
        by_below id next ids (entry.Value value ∷ []) other
        (subst (λ e. R (option_and_then (entry_along (next ∷ ids)) (option_or (structure_at id e) None)) (entry_along (id ∷ next ∷ ids) other)) (sym (out_value value)) (nothing (entry_along (id ∷ next ∷ ids) other)))

    pub value_here : AlongEachPath R (x ∷ []) other
    value_here = subst (λ e. AlongEachPath R (e ∷ []) other) (sym is) of_value

  -- a structure
  module _ (name : List ℕ) (es other : Environment) (x : Entry) (is : x ≡ entry.Structure name es) (h : (path : List (List ℕ)) → R (entry_along path es) (option_and_then (entry_along path) (structure_in name other))) where
    chosen_structure : (id next : List ℕ) (ids : List (List ℕ)) (b : Bool) → bytes_eq id name ≡ b
        → R (option_and_then (entry_along (next ∷ ids)) (option_or (if b then Some es else None) None)) (option_and_then (entry_along (next ∷ ids)) (structure_in id other))
    chosen_structure id next ids true e = subst (λ n. R (entry_along (next ∷ ids) es) (option_and_then (entry_along (next ∷ ids)) (structure_in n other))) (sym ((bytes_eq-Decides id name).0 e)) (h (next ∷ ids))
    chosen_structure id next ids false e = nothing (option_and_then (entry_along (next ∷ ids)) (structure_in id other))

    of_structure : (path : List (List ℕ)) → R (entry_along path (entry.Structure name es ∷ [])) (entry_along path other)
    of_structure [] = nothing (entry_along [] other)
    of_structure (id ∷ []) =
        by_here id (entry.Structure name es ∷ []) other
        (subst (λ e. R (option_or (type_at id e) None) (type_in id other)) (sym (out_structure name es)) (nothing (type_in id other)))
    of_structure (id ∷ next ∷ ids) =
        by_below id next ids (entry.Structure name es ∷ []) other
        (subst (λ e. R (option_and_then (entry_along (next ∷ ids)) (option_or (structure_at id e) None)) (entry_along (id ∷ next ∷ ids) other)) (sym (out_structure name es))
        (subst (R (option_and_then (entry_along (next ∷ ids)) (option_or (structure_at id (Structure name es)) None))) (sym (entry_below id next ids other)) (chosen_structure id next ids (bytes_eq id name) refl)))

    pub structure_here : AlongEachPath R (x ∷ []) other
    structure_here = subst (λ e. AlongEachPath R (e ∷ []) other) (sym is) of_structure

-- ---- both relations hold where the first has nothing
pub nothing_same : (rs : List Realization) (o : Option TypeEntry) → AreSame rs None o
nothing_same rs o = tt

pub same_nothing : (rs : List Realization) (o : Option TypeEntry) → AreSame rs o None
same_nothing rs None = tt
same_nothing rs (Some type) = tt

pub nothing_there : (o : Option TypeEntry) → IsThere None o
nothing_there o = tt

-- ---- what is the same stays the same after more realizations
same_more : (rs more : List Realization) (o p : Option TypeEntry) → AreSame rs o p → AreSame (rs ++ more) o p
same_more rs more None p h = tt
same_more rs more (Some f) None h = tt
same_more rs more (Some f) (Some g) h =
    ap₂ (λ a t. let k : TypeFn = record { arity = a; body = t } in k) (ap (λ (k : TypeFn). k.arity) h)
    (resolved_appended rs more f.fun.body ∙ ap (resolved more) (ap (λ (k : TypeFn). k.body) h) ∙ sym (resolved_appended rs more g.fun.body))

pub shared_more : (rs more later : List Realization) (env other : Environment) → later ≡ rs ++ more → AreShared rs env other → AreShared later env other
shared_more rs more later env other is shared = λ path. subst (λ qs. AreSame qs (entry_along path env) (entry_along path other)) (sym is) (same_more rs more _ _ (shared path))

-- ---- what a fact on an answer gives
pub ok_then : {T E A B : Type 0} (result : Result T E) → (A → B) → OnOk result A → OnOk result B
ok_then (Ok t) f a = f a
ok_then (Err e) f a = tt
