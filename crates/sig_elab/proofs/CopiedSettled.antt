-- Copies: types whose own names are numbered anew are over the names with the copies, and mention no name that is gone.
use Rattle.std.proofs.Common.{◌≡◌, ℕ, zero, suc, ◌+◌, ◌<◌, ◌==◌, Bool, true, false, not, if◌then◌else◌, List, [], ◌∷◌, ◌++◌, map, length, slice_get, Option, Some, None, refl, sym, ap, ◌∙◌, subst, arith}
use Rattle.std.specs.List.{All, filter}
use Rattle.std.specs.Option.{option_map, option_to_list}
use Rattle.std.proofs.lemmas.Bool.{and_from, and_parts, eqb-true, ne_eqb, not-true}
use Rattle.std.proofs.lemmas.Option.{slice_get-map}
use Rattle.std.proofs.lemmas.List.Elements.{All-cons, All-head, All-nil, All-tail, All-weaker}
use Rattle.type_core.specs.declared.names.TypeName.{TypeName}
use Rattle.type_core.specs.declared.ty.Ty.{Ty}
use Rattle.type_core.specs.Lists.{all_true}
use Rattle.type_core.specs.Schemes.{numbered_among}
use Rattle.type_core.specs.Types.{IsOver, takes}
use Rattle.type_core.specs.Variables.{by_first_occurrence}
use Rattle.elab_env.specs.declared.realization.Realization.{Realization}
use Rattle.elab_env.specs.Avoids.{Avoids, avoids}
use Rattle.elab_env.specs.Names.{is_described}
use Rattle.elab_env.specs.Sound.{AreRealizations, IsResolved}
use Rattle.elab_env.specs.Table.{Table}
use Rattle.elab_env.proofs.Equations.{avoids_collects, avoids_con, avoids_partwise, avoids_var}
use Rattle.elab_env.proofs.Kept.{described_within}
use Rattle.elab_env.proofs.NameLists.{keeps_appended}
use Rattle.elab_env.proofs.Parts.{map_map, passes}
use Rattle.elab_rules.specs.declared.entry.UnitEntry.{UnitEntry}
use Rattle.elab_rules.specs.Copies.{name_copied, names_at, new_or_old, numbers_from, own_names, renumbered, with_numbers}
use Rattle.elab_rules.specs.Environments.{Environment}
use Rattle.elab_types.specs.Finding.{place_of}
use Rattle.elab_rules.specs.Replacing.{environment_with}
use Rattle.elab_rules.specs.Standing.{AreOver, IsSettled}
use Rattle.elab_rules.specs.States.{State, is_free}
use Rattle.elab_rules.specs.Wheres.{types_of}
use Rattle.elab_rules.proofs.Entries.{IsAfter, types_with, with_after}
use Rattle.elab_phrases.proofs.EntriesByNow.{closed_twice, over_renamed, resolved_stays_renamed}
use Rattle.elab_rules.proofs.Renumbered.{numbered_con, numbered_inside, numbered_var, over_numbered}
use Rattle.elab_rules.proofs.CopiedArities.{AreWithin, copied_arities}

-- ---- names that are gone
stays_apart : (own : List ℕ) (first n m : ℕ) → n < first → (m == n) ≡ false → (renumbered own first m == n) ≡ false
stays_apart own first n m l apart = by_place (place_of (λ k. k == m) own)
  where
    by_place : (o : Option ℕ) → (new_or_old first m o == n) ≡ false
    by_place None = apart
    by_place (Some place) = ne_eqb (first + place) n (λ same. omega (arith, l, same))

avoids_numbered : (f : ℕ → ℕ) (n : ℕ) → ((m : ℕ) → (m == n) ≡ false → (f m == n) ≡ false) → (t : Ty) → Avoids n t → Avoids n (with_numbers f t)
avoids_numbered f n apart = passes (with_numbers f) (avoids n) (avoids n) (avoids_partwise n) (numbered_inside f) (avoids_collects (with_numbers f) (avoids n) n)
    (λ v e. ap (avoids n) (numbered_var f v) ∙ avoids_var n v)
    (λ name ts e k. ap (avoids n) (numbered_con f name ts) ∙ avoids_con n _ _
    ∙ and_from _ _ (ap not (apart name.0 (not-true (name.0 == n) (and_parts (not (name.0 == n)) _ (sym (avoids_con n name ts) ∙ e)).0)))
    (ap all_true (map_map (avoids n) (with_numbers f) ts) ∙ k))

realized_within : (names : List TypeName) (rs : List Realization) → AreRealizations names rs → All (λ r. r.name.0 < length names) rs
realized_within names [] h = All-nil (λ (r : Realization). r.name.0 < length names)
realized_within names (r ∷ rs) h = All-cons (λ (s : Realization). s.name.0 < length names) r rs (described_within names r.name.0 h.0.described) (realized_within names rs h.1)

resolved_numbered : (own : List ℕ) (first : ℕ) (rs : List Realization) (t : Ty) → All (λ r. r.name.0 < first) rs → IsResolved rs t → IsResolved rs (with_numbers (renumbered own first) t)
resolved_numbered own first [] t within h = tt
resolved_numbered own first (r ∷ rs) t within h = (
  avoids_numbered (renumbered own first) r.name.0 (λ m. stays_apart own first r.name.0 m (All-head (λ (s : Realization). s.name.0 < first) r rs within)) t h.0,
  resolved_numbered own first rs t (All-tail (λ (s : Realization). s.name.0 < first) r rs within) h.1,
)

-- ---- copied entries
pub copied_settled : (p q : Table) (own path : List ℕ) (bytes : ℕ) (env : Environment) → AreRealizations p.names p.realizations → q.names ≡ p.names ++ map (name_copied path bytes) (names_at p.names own)
    → q.realizations ≡ p.realizations → AreWithin p.names own → IsSettled p env → IsSettled q (environment_with (with_numbers (renumbered own (length p.names))) env)
copied_settled p q own path bytes env sound names realizations within h =
    let f : ℕ → ℕ = renumbered own (length p.names) in
    let more : List TypeName = p.names ++ map (name_copied path bytes) (names_at p.names own) in
    let rs : List Realization = p.realizations in
    record {
      over = subst (λ xs. AreOver xs (environment_with (with_numbers f) env)) (sym names)
          (types_with (with_numbers f) (IsOver p.names) (IsOver more)
          (λ t o. let now : IsOver more (with_numbers f t) = over_numbered f p.names more (copied_arities p.names own path bytes within) t o in
          (now, over_renamed (numbered_among (by_first_occurrence (with_numbers f t))) more (with_numbers f t) now)) env h.over);
      resolved = subst (λ xs. All (IsResolved xs) (types_of (environment_with (with_numbers f) env))) (sym realizations)
          (types_with (with_numbers f) (IsResolved rs) (IsResolved rs)
          (λ t o. let now : IsResolved rs (with_numbers f t) = resolved_numbered own (length p.names) rs t (realized_within p.names rs sound) o in
          (now, resolved_stays_renamed (numbered_among (by_first_occurrence (with_numbers f t))) rs (with_numbers f t) now)) env h.resolved);
      is_closed = with_after (λ t. t) (with_numbers f) (with_numbers f) env
          (All-weaker (IsOver p.names) (IsAfter (λ t. t) (with_numbers f) (with_numbers f)) (λ t o. (refl, closed_twice (with_numbers f t))) (types_of env) h.over);
    }
