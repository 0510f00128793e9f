-- A name that is joined to a lesser one: entries and the state by now.
use Rattle.std.proofs.Common.{◌≡◌, ℕ, ◌<◌, true, List, [], ◌∷◌, ◌++◌, length, map, slice_get, refl, ap, ap₂, ◌∙◌, subst}
use Rattle.type_core.specs.declared.names.TypeName.{TypeName}
use Rattle.type_core.specs.Types.{takes}
use Rattle.elab_env.specs.declared.realization.Realization.{Realization}
use Rattle.elab_env.specs.Names.{arity_of, equality_at, joined_equality}
use Rattle.elab_env.specs.Parameters.{name_function}
use Rattle.elab_env.specs.Realizations.{resolved}
use Rattle.elab_env.specs.Sound.{AreRealizations, IsRealization}
use Rattle.elab_env.specs.Table.{Table, is_free, is_realized}
use Rattle.elab_env.proofs.Joined.{name_is_function, name_is_over}
use Rattle.elab_env.proofs.Kept.{described_takes, described_within, free_described}
use Rattle.elab_env.proofs.NameLists.{length-with_equality}
use Rattle.elab_rules.specs.Copies.{numbers_from}
use Rattle.elab_rules.specs.Environments.{Environment}
use Rattle.elab_rules.specs.Joining.{joined_table}
use Rattle.elab_rules.specs.Replacing.{environment_with, replaced_in}
use Rattle.elab_rules.specs.Sharing.{with_gone}
use Rattle.elab_rules.specs.Standing.{AreOver}
use Rattle.elab_rules.specs.States.{State}
use Rattle.elab_rules.specs.Views.{gone_of}
use Rattle.elab_phrases.proofs.EntriesByNow.{entries_more}
use Rattle.elab_rules.proofs.Gone.{flags_set}
use Rattle.elab_realizing.proofs.Joined.{joined_names, joining_is}

pub same_state : (a b : State) → a.names ≡ b.names → a.gone ≡ b.gone → a.weight ≡ b.weight → a ≡ b
same_state a b e f g = λ i. record { names = e i; gone = f i; weight = g i }

-- the name realized by the other one, which has its arity
abbrev pub joining_one : ℕ → ℕ → List TypeName → Realization
joining_one kept n names = record { name = record { 0 = n }; fun = name_function kept (arity_of (slice_get names n)) }

module _ (kept n : ℕ) (table : Table) (less : kept < n) (free : is_free table n ≡ true) (kept_free : is_free table kept ≡ true) (same : arity_of (slice_get table.names kept) ≡ arity_of (slice_get table.names n)) where
  abbrev r : Realization
  r = joining_one kept n table.names

  pub is_realization : IsRealization table.names r
  is_realization = record {
    described = free_described table n free;
    arity = described_takes table.names n (free_described table n free);
    function = name_is_function kept (arity_of (slice_get table.names n)) r.fun refl;
    body = name_is_over table.names kept (arity_of (slice_get table.names n)) r.fun refl
        (subst (λ a. takes (slice_get table.names kept) a ≡ true) same (described_takes table.names kept (free_described table kept kept_free)));
  }

  pub joined_realizations : (joined_table kept n table).realizations ≡ table.realizations ++ r ∷ []
  joined_realizations = ap (λ rs. table.realizations ++ rs) (joining_is table.names kept n less same)

  pub joined_entries : (env : Environment) → AreRealizations table.names table.realizations → AreOver table.names env → environment_with (resolved (joined_table kept n table).realizations) env ≡ replaced_in r (environment_with (resolved table.realizations) env)
  joined_entries env sound over =
      ap (λ rs. environment_with (resolved rs) env) joined_realizations
      ∙ entries_more table.names table.realizations r env sound is_realization over

  pub joined_flags : gone_of (joined_table kept n table) ≡ with_gone n (gone_of table)
  joined_flags =
      ap₂ (λ rs count. map (is_realized rs) (numbers_from 0 count)) joined_realizations
      (ap length (joined_names table.names kept n less) ∙ length-with_equality kept (joined_equality (equality_at table.names kept) (equality_at table.names n)) table.names)
      ∙ flags_set table.realizations r (length table.names) (described_within table.names n (free_described table n free))
