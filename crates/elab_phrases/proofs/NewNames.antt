-- A new name: it isn't realized, and what it makes of its parameters is settled.
use Rattle.std.proofs.Common.{◌≡◌, ℕ, suc, ◌+◌, ◌≤◌, ◌==◌, ◌||◌, Bool, true, false, not, List, [], ◌∷◌, ◌++◌, length, map, slice_get, refl, ap, ap₂, ◌∙◌, arith}
use Rattle.std.proofs.lemmas.Bool.{and_from, eq-eqb, ne_eqb, or_parts}
use Rattle.type_core.specs.declared.names.Equality.{Equality}
use Rattle.type_core.specs.declared.names.TypeName.{TypeName}
use Rattle.type_core.specs.declared.ty.Ty.{Ty}
use Rattle.type_core.specs.declared.ty.Ty.TheVariants as ty
use Rattle.type_core.specs.declared.ty.VarId.{VarId}
use Rattle.type_core.specs.Lists.{all_true}
use Rattle.type_core.specs.Types.{is_over, takes}
use Rattle.type_core.proofs.TypeTests.{is_over_con, is_over_var}
use Rattle.elab_env.specs.declared.realization.Realization.{Realization}
use Rattle.elab_env.specs.Avoids.{avoids}
use Rattle.elab_env.specs.Names.{described}
use Rattle.elab_env.specs.Parameters.{name_function}
use Rattle.elab_env.specs.Sound.{AreRealizations, IsResolved, IsSound}
use Rattle.elab_env.specs.Table.{Table, is_realized}
use Rattle.elab_env.proofs.Equations.{avoids_con, avoids_var}
use Rattle.elab_rules.specs.declared.progress.Progress.{Progress}
use Rattle.elab_rules.specs.Parameters.{marked, numbered_from}
use Rattle.elab_rules.specs.Standing.{IsSettledType, Mentions}
use Rattle.elab_rules.specs.States.{State, with_name}
use Rattle.elab_rules.specs.Views.{state_of}
use Rattle.elab_rules.proofs.LaterNames.{known_within}
use Rattle.elab_phrases.proofs.SettledParts.{name_settled}

-- realizations are of names that there are
not_realized : (names : List TypeName) (rs : List Realization) (n : ℕ) → length names ≤ n → AreRealizations names rs → is_realized rs n ≡ false
not_realized names [] n l h = refl
not_realized names (r ∷ rs) n l h =
    ap₂ ◌||◌ (ne_eqb n r.name.0 (λ e. omega (arith, l, e, known_within names r.name.0 r.fun.arity h.0.arity))) (not_realized names rs n l h.1)

taken_last : (names : List TypeName) (name : TypeName) → takes (slice_get (names ++ name ∷ []) (length names)) name.arity ≡ true
taken_last [] name = eq-eqb name.arity name.arity refl
taken_last (x ∷ names) name = taken_last names name

-- ---- a name applied to its parameters, with their marks
length_numbered : (n : ℕ) (vs : List VarId) → length (numbered_from n vs) ≡ length vs
length_numbered n [] = refl
length_numbered n (v ∷ vs) = ap suc (length_numbered (n + 1) vs)

numbered_pass : (test : Ty → Bool) → ((v : VarId) → test (ty.Var v) ≡ true) → (n : ℕ) (vs : List VarId) → all_true (map test (numbered_from n vs)) ≡ true
numbered_pass test each n [] = refl
numbered_pass test each n (v ∷ vs) = and_from _ _ (each (record { n = n; eq = v.eq })) (numbered_pass test each (n + 1) vs)

marked_resolved : (rs : List Realization) (n : ℕ) (vs : List VarId) → is_realized rs n ≡ false → IsResolved rs (marked n vs)
marked_resolved [] n vs other = tt
marked_resolved (r ∷ rs) n vs other =
    let p = or_parts (n == r.name.0) (is_realized rs n) other in (
      avoids_con r.name.0 (record { 0 = n }) (numbered_from 0 vs) ∙ and_from _ _ (ap not p.0) (numbered_pass (avoids r.name.0) (avoids_var r.name.0) 0 vs),
      marked_resolved rs n vs p.1,
    )

marked_settled : (table : Table) (n : ℕ) (vs : List VarId) → takes (slice_get table.names n) (length vs) ≡ true → is_realized table.realizations n ≡ false → IsSettledType table (marked n vs)
marked_settled table n vs known other = record {
  over =
      is_over_con table.names (record { 0 = n }) (numbered_from 0 vs)
      ∙ and_from _ _ (ap (takes (slice_get table.names n)) (length_numbered 0 vs) ∙ known) (numbered_pass (is_over table.names) (is_over_var table.names) 0 vs);
  resolved = marked_resolved table.realizations n vs other;
}

-- ---- the name that was just described
module _ (p q : Progress) (path : List ℕ) (arity : ℕ) (equality : Equality) (sound : IsSound p.table) (is : state_of q ≡ with_name path arity equality (state_of p)) (mentions : Mentions p q) where
  pub new_names : q.table.names ≡ p.table.names ++ described path arity equality ∷ []
  new_names = ap (λ (s : State). s.names) is

  known : takes (slice_get q.table.names (length p.table.names)) arity ≡ true
  known = ap (λ names. takes (slice_get names (length p.table.names)) arity) new_names ∙ taken_last p.table.names (described path arity equality)

  other : is_realized q.table.realizations (length p.table.names) ≡ false
  other = ap (λ rs. is_realized rs (length p.table.names)) mentions.realizations ∙ not_realized p.table.names p.table.realizations (length p.table.names) (omega arith) sound.realizations

  pub new_function : IsSettledType q.table (name_function (length p.table.names) arity).body
  new_function = name_settled q.table (length p.table.names) arity known other

  pub new_marked : (vs : List VarId) → length vs ≡ arity → IsSettledType q.table (marked (length p.table.names) vs)
  new_marked vs count = marked_settled q.table (length p.table.names) vs (ap (takes (slice_get q.table.names (length p.table.names))) count ∙ known) other
