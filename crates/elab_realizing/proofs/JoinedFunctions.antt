-- Type functions that are free names are one after these were joined.
use Rattle.std.proofs.Common.{◌≡◌, ℕ, zero, suc, ◌+◌, ◌<◌, ◌==◌, ◌&&◌, ◌||◌, Bool, true, false, min, nat_le, if◌then◌else◌, List, [], ◌∷◌, ◌++◌, length, length-append, map, slice_get, Option, Some, None, refl, sym, ap, ap₂, ◌∙◌, subst, arith}
use Rattle.std.specs.Option.{option_and_then}
use Rattle.std.proofs.lemmas.Bool.{eq-eqb, leb-false, leb-true, ne_eqb}
use Rattle.type_core.specs.declared.ty.Ty.{Ty, out-Ty}
use Rattle.type_core.specs.declared.ty.Ty.TheVariants as ty
use Rattle.type_core.specs.declared.type_fn.TypeFn.{TypeFn}
use Rattle.type_core.specs.EqualTypes.{types_equal}
use Rattle.type_core.specs.Substitution.{or_variable, substituted}
use Rattle.type_core.specs.TypeFunctions.{applied}
use Rattle.type_core.specs.Types.{IsOver, takes}
use Rattle.type_core.proofs.EqualTypesDecide.{types_equal_decides}
use Rattle.type_core.proofs.Trees.{substituted_con, substituted_var}
use Rattle.elab_env.specs.declared.realization.Realization.{Realization}
use Rattle.elab_env.specs.Names.{arity_of}
use Rattle.elab_env.specs.Parameters.{name_function, parameters, parameters_from}
use Rattle.elab_env.specs.Realizations.{function_resolved, replaced, resolved}
use Rattle.elab_env.specs.Table.{Table, is_free}
use Rattle.elab_env.proofs.Equations.{replaced_con}
use Rattle.elab_env.proofs.Joined.{name_resolved}
use Rattle.elab_env.proofs.Kept.{described_takes, free_described}
use Rattle.elab_env.proofs.Meant.{parameters_resolved}
use Rattle.elab_env.proofs.ParameterLists.{length-parameters_from}
use Rattle.elab_env.proofs.Replacing.{one_arity, takes_arguments}
use Rattle.elab_env.proofs.Resolved.{resolved_more}
use Rattle.elab_rules.specs.Joining.{joined_table}
use Rattle.elab_rules.specs.Replacing.{flexible, head_step, if_denoted, if_flexible}
use Rattle.elab_rules.specs.States.{State}
use Rattle.elab_rules.specs.States as states
use Rattle.elab_realizing.specs.InTurn.{join_step, joined_in_turn}
use Rattle.elab_realizing.proofs.JoinTurns.{itself_joined}
use Rattle.elab_realizing.proofs.JoinedNames.{joined_realizations, joining_one}

-- ---- the type function of a flexible name is that name
module _ (base n : ℕ) (s : State) (f : TypeFn) where
  by_choice : (b : Bool) (k : ℕ) → (if b then Some k else None) ≡ Some n → k ≡ n
  by_choice true k e = cc
  by_choice false k e = cc

  by_test : (k : ℕ) (b : Bool) → types_equal f.body (name_function k f.arity).body ≡ b → option_and_then (if_flexible base s) (if b then Some k else None) ≡ Some n → f ≡ name_function n f.arity
  by_test k true is e =
      ap (λ t. let g : TypeFn = record { arity = f.arity; body = t } in g) ((types_equal_decides f.body (name_function k f.arity).body).0 is)
      ∙ ap (λ m. name_function m f.arity) (by_choice (nat_le base k && states.is_free s k) k e)
  by_test k false is e = cc

  by_head : (o : Option ℕ) → option_and_then (if_flexible base s) (option_and_then (if_denoted f) o) ≡ Some n → f ≡ name_function n f.arity
  by_head None e = cc
  by_head (Some k) e = by_test k (types_equal f.body (name_function k f.arity).body) refl e

  pub flexible_function : Some n ≡ flexible base s f → f ≡ name_function n f.arity
  flexible_function e = by_head (head_step (out-Ty f.body)) (sym e)

-- of the arity of that name
pub function_arity : (table : Table) (n : ℕ) (f : TypeFn) → f ≡ name_function n f.arity → is_free table n ≡ true → IsOver table.names f.body → f.arity ≡ arity_of (slice_get table.names n)
function_arity table n f is free over =
    one_arity (slice_get table.names n) f.arity (arity_of (slice_get table.names n))
    (ap (takes (slice_get table.names n)) (sym (length-parameters_from 0 f.arity))
    ∙ takes_arguments table.names (record { 0 = n }) (parameters f.arity) (subst (λ (g : TypeFn). IsOver table.names g.body) is over))
    (described_takes table.names n (free_described table n free))

-- ---- parameters in the places of parameters
argument_at : (before ts : List Ty) (t : Ty) (n : ℕ) → n ≡ length before → slice_get (before ++ t ∷ ts) n ≡ Some t
argument_at [] ts t zero e = refl
argument_at [] ts t (suc n) e = absurd (omega (arith, e))
argument_at (b ∷ before) ts t zero e = absurd (omega (arith, e))
argument_at (b ∷ before) ts t (suc n) e = argument_at before ts t n (omega (arith, e))

in_place : (before ts by : List Ty) (first : ℕ) → first ≡ length before → by ≡ before ++ ts → map (substituted by) (parameters_from first (length ts)) ≡ ts
in_place before [] by first e f = refl
in_place before (t ∷ ts) by first e f = ap₂ ◌∷◌
    (substituted_var by _ ∙ ap (or_variable _) (ap (λ us. slice_get us first) f ∙ argument_at before ts t first e))
    (in_place (before ++ t ∷ []) ts by (first + 1) (omega (arith, e, length-append before (t ∷ []))) (f ∙ sym (one_later before t ts)))
  where
    one_later : (xs : List Ty) (t : Ty) (ts : List Ty) → (xs ++ t ∷ []) ++ ts ≡ xs ++ t ∷ ts
    one_later [] t ts = refl
    one_later (x ∷ xs) t ts = ap (λ rest. x ∷ rest) (one_later xs t ts)

parameters_in_place : (arity : ℕ) → map (substituted (parameters arity)) (parameters arity) ≡ parameters arity
parameters_in_place arity =
    ap (λ n. map (substituted (parameters arity)) (parameters n)) (sym (length-parameters_from 0 arity))
    ∙ in_place [] (parameters arity) (parameters arity) 0 refl refl

-- ---- a name that is joined to a lesser one
module _ (kept n arity : ℕ) (table : Table) (less : kept < n) (free : is_free table n ≡ true) (kept_free : is_free table kept ≡ true) (kept_is : arity_of (slice_get table.names kept) ≡ arity) (other_is : arity_of (slice_get table.names n) ≡ arity) where
  abbrev r : Realization
  r = joining_one kept n table.names

  or_nothing : (b : Bool) → b ≡ false → (b || false) ≡ false
  or_nothing true e = e
  or_nothing false e = e

  -- the lesser one stays
  stays : replaced r (name_function kept arity).body ≡ (name_function kept arity).body
  stays = name_resolved (r ∷ []) kept arity (name_function kept arity) refl (or_nothing (kept == n) (ne_eqb kept n (λ e. omega (arith, less, e))))

  -- in the other one's place
  taken : replaced r (name_function n arity).body ≡ (name_function kept arity).body
  taken =
      replaced_con r (record { 0 = n }) (parameters arity)
      ∙ ap (λ b. if b then applied r.fun (map (replaced r) (parameters arity)) else ty.Con (record { 0 = n }) (map (replaced r) (parameters arity))) (eq-eqb n n refl)
      ∙ ap (applied r.fun) (parameters_resolved (r ∷ []) 0 arity)
      ∙ ap (λ a. applied (name_function kept a) (parameters arity)) other_is
      ∙ substituted_con (parameters arity) (record { 0 = kept }) (parameters arity)
      ∙ ap (ty.Con (record { 0 = kept })) (parameters_in_place arity)

  one_more : (t : Ty) → resolved (joined_table kept n table).realizations t ≡ replaced r (resolved table.realizations t)
  one_more t = ap (λ rs. resolved rs t) (joined_realizations kept n table less free kept_free (kept_is ∙ sym other_is)) ∙ resolved_more table.realizations r t

  pub one_after : (t u : Ty) → resolved table.realizations t ≡ (name_function kept arity).body → resolved table.realizations u ≡ (name_function n arity).body
      → resolved (joined_table kept n table).realizations t ≡ resolved (joined_table kept n table).realizations u
  one_after t u is other = one_more t ∙ ap (replaced r) is ∙ stays ∙ sym (one_more u ∙ ap (replaced r) other ∙ taken)

-- ---- two names in turn
itself : (n : ℕ) (table : Table) → join_step n n table ≡ table
itself n table = sym (itself_joined n n table refl)

still_free : (kept n : ℕ) (table : Table) → is_free table n ≡ true → join_step kept n table ≡ joined_table kept n table
still_free kept n table free = ap (λ b. if b then joined_table kept n table else table) free

-- where two types are these names by now, they are one after the names were joined
module _ (n m arity : ℕ) (table : Table) (t u : Ty) (free : is_free table n ≡ true) (other_free : is_free table m ≡ true) (arity_is : arity_of (slice_get table.names n) ≡ arity) (other_arity : arity_of (slice_get table.names m) ≡ arity)
    (is : resolved table.realizations t ≡ (name_function n arity).body) (other : resolved table.realizations u ≡ (name_function m arity).body) where
  abbrev after : ℕ → Table
  after kept = joined_in_turn kept (n ∷ m ∷ []) table

  abbrev AreOne : Table → Type 0
  AreOne later = resolved later.realizations t ≡ resolved later.realizations u

  less : n < m → AreOne (after n)
  less l = subst AreOne (sym (ap (join_step n m) (itself n table) ∙ still_free n m table other_free)) (one_after n m arity table l other_free free arity_is other_arity t u is other)

  greater : m < n → AreOne (after m)
  greater l = subst AreOne (sym (itself m (join_step m n table) ∙ still_free m n table free)) (sym (one_after m n arity table l free other_free other_arity arity_is u t other is))

  same : n ≡ m → AreOne (after n)
  same e = subst AreOne (sym (ap (join_step n m) (itself n table) ∙ ap (λ k. join_step n k table) (sym e) ∙ itself n table)) (is ∙ ap (λ k. (name_function k arity).body) e ∙ sym other)

  pub one_in_turn : AreOne (after (min n m))
  one_in_turn = by_least (nat_le n m) refl
    where
      by_other : n ≡ min n m → (b : Bool) → nat_le m n ≡ b → AreOne (after (min n m))
      by_other e true k = subst (λ k. AreOne (after k)) e (same (let l = leb-true m n k in omega (arith, l, e)))
      by_other e false k = subst (λ k. AreOne (after k)) e (less (leb-false m n k))

      by_least : (b : Bool) → nat_le n m ≡ b → AreOne (after (min n m))
      by_least true k = let l = leb-true n m k in by_other (omega (arith, l)) (nat_le m n) refl
      by_least false k = let l = leb-false n m k in subst (λ k. AreOne (after k)) (let e : m ≡ min n m = omega (arith, l) in e) (greater l)

-- two type functions that are names by now
pub functions_joined : (base n m : ℕ) (table later : Table) (s : State) (f g p q : TypeFn) → p ≡ function_resolved table.realizations f → q ≡ function_resolved table.realizations g → Some n ≡ flexible base s p → Some m ≡ flexible base s q
    → is_free table n ≡ true → is_free table m ≡ true → arity_of (slice_get table.names n) ≡ arity_of (slice_get table.names m) → IsOver table.names p.body → IsOver table.names q.body
    → later ≡ joined_in_turn (min n m) (n ∷ m ∷ []) table → function_resolved later.realizations f ≡ function_resolved later.realizations g
functions_joined base n m table later s f g p q by_now other_by_now named other_named free other_free alike over other_over turns =
    let arity : ℕ = arity_of (slice_get table.names n) in
    let is = flexible_function base n s p named in
    let other = flexible_function base m s q other_named in
    let arity_is : p.arity ≡ arity = function_arity table n p is free over in
    let other_arity : q.arity ≡ arity = function_arity table m q other other_free other_over ∙ sym alike in
    let same_arity : f.arity ≡ g.arity = sym (ap (λ (h : TypeFn). h.arity) by_now) ∙ arity_is ∙ sym other_arity ∙ ap (λ (h : TypeFn). h.arity) other_by_now in
    let body : resolved table.realizations f.body ≡ (name_function n arity).body = sym (ap (λ (h : TypeFn). h.body) by_now) ∙ ap (λ (h : TypeFn). h.body) (is ∙ ap (name_function n) arity_is) in
    let other_body : resolved table.realizations g.body ≡ (name_function m arity).body = sym (ap (λ (h : TypeFn). h.body) other_by_now) ∙ ap (λ (h : TypeFn). h.body) (other ∙ ap (name_function m) other_arity) in
    let one : resolved later.realizations f.body ≡ resolved later.realizations g.body =
    subst (λ (t : Table). resolved t.realizations f.body ≡ resolved t.realizations g.body) (sym turns) (one_in_turn n m arity table f.body g.body free other_free refl (sym alike) body other_body) in
    ap₂ (λ a t. let h : TypeFn = record { arity = a; body = t } in h) same_arity one
