-- Entries with what their types mean by now.
use Rattle.std.proofs.Common.{◌≡◌, ℕ, ◌==◌, Bool, true, not, List, [], ◌∷◌, ◌++◌, map, slice_get, refl, sym, ap, ◌∙◌}
use Rattle.std.proofs.lemmas.Bool.{and_from, and_parts}
use Rattle.std.proofs.lemmas.List.{length-map}
use Rattle.std.proofs.lemmas.List.Elements.{All-weaker}
use Rattle.type_core.specs.declared.names.TypeName.{TypeName}
use Rattle.type_core.specs.declared.ty.Ty.{Ty}
use Rattle.type_core.specs.Lists.{all_true}
use Rattle.type_core.specs.Renaming.{Renaming, renamed}
use Rattle.type_core.specs.Schemes.{closed, numbered_among}
use Rattle.type_core.specs.Types.{IsOver, is_over, takes}
use Rattle.type_core.specs.Variables.{by_first_occurrence}
use Rattle.type_core.proofs.Closed.{closed_is_scheme, closed_scheme}
use Rattle.type_core.proofs.Trees.{renamed_con, renamed_var}
use Rattle.type_core.proofs.TypeTests.{is_over_con, is_over_var}
use Rattle.elab_env.specs.declared.realization.Realization.{Realization}
use Rattle.elab_env.specs.Avoids.{Avoids, avoids}
use Rattle.elab_env.specs.Realizations.{replaced, resolved}
use Rattle.elab_env.specs.Sound.{AreRealizations, IsRealization, IsResolved, IsSound}
use Rattle.elab_env.specs.Table.{Table}
use Rattle.elab_env.proofs.Equations.{avoids_collects, avoids_con, avoids_partwise, avoids_var, over_collects, over_partwise}
use Rattle.elab_env.proofs.Parts.{map_map, passes}
use Rattle.elab_env.proofs.Replacing.{takes_arguments}
use Rattle.elab_env.proofs.Resolved.{resolved_again, resolved_is_resolved, resolved_more, resolved_over}
use Rattle.elab_rules.specs.Environments.{Environment}
use Rattle.elab_rules.specs.Replacing.{environment_with, replaced_in}
use Rattle.elab_rules.specs.Standing.{AreOver, IsSettled}
use Rattle.elab_rules.specs.Views.{entries_at}
use Rattle.elab_rules.specs.Wheres.{types_of}
use Rattle.elab_rules.proofs.ClosedAgain.{closed_again, renamed_inside}
use Rattle.elab_rules.proofs.Entries.{IsAfter, types_with, with_after, with_agrees}

-- ---- renamed variables
module _ (r : Renaming) where
  mapped : (test : Ty → Bool) (ts : List Ty) → all_true (map (λ t. test (renamed r t)) ts) ≡ true → all_true (map test (map (renamed r) ts)) ≡ true
  mapped test ts e = ap all_true (map_map test (renamed r) ts) ∙ e

  pub over_renamed : (names : List TypeName) (t : Ty) → IsOver names t → IsOver names (renamed r t)
  over_renamed names = passes (renamed r) (is_over names) (is_over names) (over_partwise names) (renamed_inside r) (over_collects (renamed r) (is_over names) names)
      (λ v e. ap (is_over names) (renamed_var r v) ∙ is_over_var names (r v))
      (λ name ts e k. ap (is_over names) (renamed_con r name ts) ∙ is_over_con names name _
      ∙ and_from _ _ (ap (takes (slice_get names name.0)) (length-map ts (renamed r)) ∙ takes_arguments names name ts e) (mapped (is_over names) ts k))

  pub avoids_renamed : (n : ℕ) (t : Ty) → Avoids n t → Avoids n (renamed r t)
  avoids_renamed n = passes (renamed r) (avoids n) (avoids n) (avoids_partwise n) (renamed_inside r) (avoids_collects (renamed r) (avoids n) n)
      (λ v e. ap (avoids n) (renamed_var r v) ∙ avoids_var n (r v))
      (λ name ts e k. ap (avoids n) (renamed_con r name ts) ∙ avoids_con n name _
      ∙ and_from _ _ (and_parts (not (name.0 == n)) _ (sym (avoids_con n name ts) ∙ e)).0 (mapped (avoids n) ts k))

  pub resolved_stays_renamed : (rs : List Realization) (t : Ty) → IsResolved rs t → IsResolved rs (renamed r t)
  resolved_stays_renamed [] t h = tt
  resolved_stays_renamed (s ∷ rs) t h = (avoids_renamed s.name.0 t h.0, resolved_stays_renamed rs t h.1)

-- ---- one realization more
one_more : (names : List TypeName) (rs : List Realization) (r : Realization) → AreRealizations names rs → IsRealization names r → (t : Ty) → IsOver names t → IsAfter (replaced r) (resolved rs) (resolved (rs ++ r ∷ [])) t
one_more names rs r h one t over = (
  sym (resolved_more rs r t),
  closed_again names (r ∷ []) (resolved rs t) (one, tt) (resolved_over names rs t h over) ∙ ap closed (sym (resolved_more rs r t)),
)

-- what entries mean after one realization more is what they meant, with the name replaced
pub entries_more : (names : List TypeName) (rs : List Realization) (r : Realization) (env : Environment) → AreRealizations names rs → IsRealization names r → AreOver names env
    → environment_with (resolved (rs ++ r ∷ [])) env ≡ replaced_in r (environment_with (resolved rs) env)
entries_more names rs r env h one over =
    sym (with_after (replaced r) (resolved rs) (resolved (rs ++ r ∷ [])) env
    (All-weaker (IsOver names) (IsAfter (replaced r) (resolved rs) (resolved (rs ++ r ∷ []))) (one_more names rs r h one) (types_of env) over))

-- ---- settled entries
-- they are by now what they are
pub settled_is : (table : Table) (env : Environment) → IsSettled table env → entries_at table env ≡ env
settled_is table env h =
    with_agrees (resolved table.realizations) (λ t. t) env (All-weaker (IsResolved table.realizations) (λ t. resolved table.realizations t ≡ t) (resolved_again table.realizations) (types_of env) h.resolved)
    ∙ h.is_closed

pub closed_twice : (t : Ty) → closed (closed t).body ≡ closed t
closed_twice t = closed_scheme (closed t) (closed_is_scheme t)

-- what entries mean by now is settled
pub by_now_settled : (table : Table) (env : Environment) → IsSound table → AreOver table.names env → IsSettled table (entries_at table env)
by_now_settled table env sound over =
    let rs = table.realizations in
    record {
      over = types_with (resolved rs) (IsOver table.names) (IsOver table.names)
          (λ t o. let now = resolved_over table.names rs t sound.realizations o in (now, over_renamed (numbered_among (by_first_occurrence (resolved rs t))) table.names (resolved rs t) now)) env over;
      resolved = types_with (resolved rs) (IsOver table.names) (IsResolved rs)
          (λ t o. let now = resolved_is_resolved rs t sound.settled in (now, resolved_stays_renamed (numbered_among (by_first_occurrence (resolved rs t))) rs (resolved rs t) now)) env over;
      is_closed = with_after (λ t. t) (resolved rs) (resolved rs) env (All-weaker (IsOver table.names) (IsAfter (λ t. t) (resolved rs) (resolved rs)) (λ t o. (refl, closed_twice (resolved rs t))) (types_of env) over);
    }
