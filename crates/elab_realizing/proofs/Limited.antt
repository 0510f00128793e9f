-- An environment within the limits, and a name that is realized by a type function, check by check.
use Rattle.std.proofs.Common.{◌≡◌, ℕ, ◌==◌, ◌||◌, Bool, true, false, not, is_some, nat_le, map, slice_get, Ok, sym, ap, ap₂, ◌∙◌}
use Rattle.type_core.specs.declared.type_fn.TypeFn.{TypeFn}
use Rattle.type_core.specs.Height.{height_of}
use Rattle.type_core.specs.Lists.{all_true}
use Rattle.type_core.specs.NormalSize.{normal_size_of}
use Rattle.type_core.specs.Size.{size_of}
use Rattle.elab_env.specs.Names.{arity_of, equality_at}
use Rattle.elab_env.specs.Sound.{IsSound}
use Rattle.elab_env.specs.Table.{Table}
use Rattle.elab_rules.specs.declared.progress.Progress.{Progress}
use Rattle.elab_rules.specs.declared.refusal.Why.{Why}
use Rattle.elab_rules.specs.declared.refusal.Why.TheVariants.{ArityClash, BadRealization, NeedsEquality, NormalTooLarge, TypeTooHigh, TypeTooLarge}
use Rattle.elab_rules.specs.Bodies.{Described}
use Rattle.elab_rules.specs.Environments.{Environment}
use Rattle.elab_rules.specs.Equality.{admits, is_never}
use Rattle.elab_rules.specs.Outcome.{Outcome}
use Rattle.elab_types.specs.Outcome.{checked, failed}
use Rattle.elab_rules.specs.Replacing.{denoted, replaced_in}
use Rattle.elab_rules.specs.Standing.{AreOver}
use Rattle.elab_rules.specs.States.{State}
use Rattle.elab_rules.specs.Views.{body_at, entries_at, state_of}
use Rattle.elab_rules.specs.Wheres.{has_constructors, realized, realized_away, types_of, value_types_of, within_limits}
use Rattle.elab_phrases.proofs.EntriesByNow.{by_now_settled, settled_is}

-- ---- one check
passes : {A : Type 0} (b : Bool) (why : Why) (token : ℕ) (rest : Outcome A) → b ≡ true → checked b why token rest ≡ rest
passes b why token rest e = ap (λ c. checked c why token rest) e

stops : {A : Type 0} (b : Bool) (why : Why) (token : ℕ) (rest : Outcome A) → b ≡ false → checked b why token rest ≡ failed why token
stops b why token rest e = ap (λ c. checked c why token rest) e

-- ---- the limits
abbrev pub are_small : Environment → Bool
are_small env = all_true (map (λ t. nat_le (size_of t) 2000) (types_of env))

abbrev pub are_low : Environment → Bool
are_low env = all_true (map (λ t. nat_le (height_of t) 200) (types_of env))

abbrev pub are_normal : Environment → Bool
are_normal env = all_true (map (λ t. nat_le (normal_size_of t) 8000) (value_types_of env))

pub too_many : (token : ℕ) (env : Environment) (s : State) → are_small env ≡ false → within_limits token env s ≡ failed TypeTooLarge token
too_many token env s large = stops (are_small env) TypeTooLarge token _ large

module _ (token : ℕ) (env settled : Environment) (s : State) (small : are_small env ≡ true) (is : settled ≡ env) where
  pub too_high : are_low settled ≡ false → within_limits token env s ≡ failed TypeTooHigh token
  too_high high = passes (are_small env) TypeTooLarge token _ small ∙ stops (are_low env) TypeTooHigh token _ (sym (ap are_low is) ∙ high)

  pub too_large : are_low settled ≡ true → are_normal settled ≡ false → within_limits token env s ≡ failed NormalTooLarge token
  too_large low large =
      passes (are_small env) TypeTooLarge token _ small
      ∙ passes (are_low env) TypeTooHigh token _ (sym (ap are_low is) ∙ low)
      ∙ stops (are_normal env) NormalTooLarge token _ (sym (ap are_normal is) ∙ large)

  within : are_low settled ≡ true → are_normal settled ≡ true → within_limits token env s ≡ Ok (env, s)
  within low normal =
      passes (are_small env) TypeTooLarge token _ small
      ∙ passes (are_low env) TypeTooHigh token _ (sym (ap are_low is) ∙ low)
      ∙ passes (are_normal env) NormalTooLarge token _ (sym (ap are_normal is) ∙ normal)

-- what entries mean by now means the same again
by_now_again : (table : Table) (env : Environment) → IsSound table → AreOver table.names env → entries_at table (entries_at table env) ≡ entries_at table env
by_now_again table env sound over = settled_is table (entries_at table env) (by_now_settled table env sound over)

pub within_by_now : (token : ℕ) (table : Table) (env settled : Environment) (p : Progress) → IsSound table → AreOver table.names env → p.table ≡ table → settled ≡ entries_at table env
    → are_small (entries_at table env) ≡ true → are_low settled ≡ true → are_normal settled ≡ true → within_limits token (entries_at table env) (state_of p) ≡ Ok (body_at p settled, state_of p)
within_by_now token table env settled p sound over same is small low normal =
    within token (entries_at table env) settled (state_of p) small is low normal
    ∙ ap (λ e. Ok (e, state_of p)) (sym (ap₂ entries_at same is ∙ by_now_again table env sound over))

-- ---- realizing a name
module _ (n : ℕ) (f : TypeFn) (token : ℕ) (env : Environment) (s : State) where
  abbrev rest : Described
  rest = within_limits token (replaced_in (record { name = record { 0 = n }; fun = f }) env) (realized_away n s)

  pub arity_clash : (f.arity == arity_of (slice_get s.names n)) ≡ false → realized n f token env s ≡ failed ArityClash token
  arity_clash e = stops _ ArityClash token _ e

  pub no_realization : (f.arity == arity_of (slice_get s.names n)) ≡ true → (not (has_constructors n env) || is_some (denoted f)) ≡ false → realized n f token env s ≡ failed BadRealization token
  no_realization e h = passes _ ArityClash token _ e ∙ stops _ BadRealization token _ h

  pub needs_equality : (f.arity == arity_of (slice_get s.names n)) ≡ true → (not (has_constructors n env) || is_some (denoted f)) ≡ true → (is_never (equality_at s.names n) || admits s.names f.body) ≡ false
      → realized n f token env s ≡ failed NeedsEquality token
  needs_equality e h k = passes _ ArityClash token _ e ∙ passes _ BadRealization token _ h ∙ stops _ NeedsEquality token _ k

  pub may_realize : (f.arity == arity_of (slice_get s.names n)) ≡ true → (not (has_constructors n env) || is_some (denoted f)) ≡ true → (is_never (equality_at s.names n) || admits s.names f.body) ≡ true → realized n f token env s ≡ rest
  may_realize e h k = passes _ ArityClash token _ e ∙ passes _ BadRealization token _ h ∙ passes _ NeedsEquality token _ k
