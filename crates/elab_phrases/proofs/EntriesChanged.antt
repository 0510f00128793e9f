-- Entries with each type changed, one by one, and what a scheme is by now.
use Rattle.std.proofs.Common.{◌≡◌, ℕ, ◌+◌, ◌<◌, [], ◌∷◌, ◌++◌, length, drop, get_or, sym, ap, ◌∙◌, subst, append_assoc}
use Rattle.type_core.specs.declared.ty.Scheme.{Scheme}
use Rattle.type_core.specs.declared.ty.Ty.{Ty}
use Rattle.type_core.specs.Schemes.{closed, numbered_among}
use Rattle.type_core.specs.Types.{IsOver}
use Rattle.type_core.specs.Variables.{by_first_occurrence}
use Rattle.elab_env.specs.Realizations.{resolved}
use Rattle.elab_env.specs.Sound.{IsSound}
use Rattle.elab_env.specs.Table.{Table}
use Rattle.elab_env.proofs.Resolved.{resolved_is_resolved, resolved_over}
use Rattle.elab_rules.specs.declared.entry.Entry.{Entry}
use Rattle.elab_rules.specs.Environments.{Environment}
use Rattle.elab_rules.specs.Replacing.{entry_with, environment_with}
use Rattle.elab_rules.specs.Standing.{IsSettledScheme}
use Rattle.elab_phrases.proofs.EntriesByNow.{closed_twice, over_renamed, resolved_stays_renamed}
use Rattle.elab_types.proofs.Lists.{dropped}

-- one entry more of which the types were changed
pub changed_more : (g : Ty → Ty) (env : Environment) (n : ℕ) (e d made : Entry) (done pushed whole : Environment) → n < length env → e ≡ get_or env n d → made ≡ entry_with g e → pushed ≡ done ++ made ∷ []
    → done ++ environment_with g (drop n env) ≡ whole → pushed ++ environment_with g (drop (n + 1) env) ≡ whole
changed_more g env n e d made done pushed whole within is now push so_far =
    ap (λ xs. xs ++ environment_with g (drop (n + 1) env)) push
    ∙ append_assoc done (made ∷ []) (environment_with g (drop (n + 1) env))
    ∙ ap (λ x. done ++ x ∷ environment_with g (drop (n + 1) env)) now
    ∙ ap (λ xs. done ++ environment_with g xs) (sym (dropped env n e d within is))
    ∙ so_far

-- ---- the scheme of a type by now
pub scheme_settled : (table : Table) (t body : Ty) (s : Scheme) → IsSound table → IsOver table.names t → body ≡ resolved table.realizations t → s ≡ closed body → IsSettledScheme table s
scheme_settled table t body s sound over same is =
    let rs = table.realizations in
    let now = resolved rs t in
    let r = numbered_among (by_first_occurrence now) in
    subst (IsSettledScheme table) (sym (is ∙ ap closed same))
    (record {
      body = record { over = over_renamed r table.names now (resolved_over table.names rs t sound.realizations over); resolved = resolved_stays_renamed r rs now (resolved_is_resolved rs t sound.settled) };
      is_closed = closed_twice now;
    })
