-- Names of a group whose equality was settled.
use Rattle.std.proofs.Common.{◌≡◌, ℕ, ◌+◌, ◌-◌, Bool, List, length, map, Result, Ok, Err, sym, ap, ap₂, ◌∙◌, subst, arith}
use Rattle.std.specs.Result.{OnOk}
use Rattle.type_core.specs.declared.names.TypeName.{TypeName}
use Rattle.elab_env.specs.declared.realization.Realization.{Realization}
use Rattle.elab_env.specs.Table.{is_realized}
use Rattle.elab_rules.specs.declared.progress.Progress.{Progress}
use Rattle.elab_rules.specs.Copies.{numbers_from}
use Rattle.elab_rules.specs.Datatypes.{settled}
use Rattle.elab_rules.specs.Environments.{Environment}
use Rattle.elab_rules.specs.Equality.{greatest, with_greatest}
use Rattle.elab_rules.specs.Standing.{Mentions}
use Rattle.elab_rules.specs.States.{State}
use Rattle.elab_rules.specs.Views.{gone_of, state_of}
use Rattle.elab_phrases.proofs.Choices.{length-with_choice}
use Rattle.elab_rules.proofs.KeptNames.{Keeps, keeps_greatest}
use Rattle.elab_rules.proofs.Tracked.{AreAlike, chosen_alike, tracked_alike}

module _ (p q : Progress) (first end count : ℕ) (entries : Environment) (names : q.table.names ≡ with_greatest first (end - first) entries p.table.names) (realizations : q.table.realizations ≡ p.table.realizations) (is_end : end ≡ first + count) where
  greatest_names : q.table.names ≡ with_greatest first count entries p.table.names
  greatest_names = names ∙ ap (λ n. with_greatest first n entries p.table.names) (let e : end - first ≡ count = omega (arith, is_end) in e)

  gone_same : gone_of q.table ≡ gone_of p.table
  gone_same =
      ap₂ (λ (rs : List Realization) n. map (is_realized rs) (numbers_from 0 n)) realizations
      (ap length greatest_names ∙ length-with_choice first (greatest first count entries p.table.names) p.table.names)

  pub names_settled : q.weight ≡ p.weight → state_of q ≡ settled first count entries (state_of p)
  names_settled weight =
      ap₂ (λ (ns : List TypeName) (gone : List Bool). let s : State = record { names = ns; gone = gone; weight = q.weight } in s) greatest_names gone_same
      ∙ ap (λ (w : ℕ). let s : State = record { names = with_greatest first count entries p.table.names; gone = gone_of p.table; weight = w } in s) weight

  pub settled_mentions : q.firsts ≡ p.firsts → q.external_weight ≡ p.external_weight → Mentions p q
  settled_mentions firsts external = record {
    names = subst (Keeps p.table.names) (sym greatest_names) (keeps_greatest first count entries p.table.names);
    tracked = tracked_alike p q (subst (AreAlike p.table.names) (sym greatest_names) (chosen_alike first (greatest first count entries p.table.names) p.table.names)) firsts external;
    realizations = realizations;
  }

-- where there is a value, what two facts of it make
pub both_on_ok : {T E P Q R : Type 0} (r : Result T E) → (P → Q → R) → OnOk r P → OnOk r Q → OnOk r R
both_on_ok (Ok x) make p q = make p q
both_on_ok (Err e) make p q = tt
