-- What is kept of units, where there are none, and of units after others.
use Rattle.std.proofs.Common.{◌≡◌, inl, inr, List, [], ◌++◌, length, slice_get, sym, ap, ◌∙◌, subst, arith}
use Rattle.std.proofs.lemmas.List.Elements.{All-append, All-nil}
use Rattle.std.proofs.lemmas.Option.{slice_get_within}
use Rattle.std.specs.List.{All}
use Rattle.elab_rules.specs.declared.detail.Detail.{Detail}
use Rattle.elab_rules.specs.declared.entry.UnitEntry.{UnitEntry}
use Rattle.elab_rules.specs.declared.progress.Progress.{Progress}
use Rattle.elab_rules.specs.declared.units.Units.{Units}
use Rattle.elab_rules.specs.Details.{HaveOwn}
use Rattle.sig_elab.specs.Kept.{AreKept}
use Rattle.elab_rules.specs.Standing.{IsSettled}
use Rattle.elab_rules.specs.States.{State}
use Rattle.elab_rules.specs.Views.{state_of}
use Rattle.elab_rules.proofs.DistinctMore.{either_at}
use Rattle.elab_types.proofs.Lists.{no_some}

pub none_kept : (units : Units) (progress : Progress) → units.entries.items ≡ [] → AreKept units progress
none_kept units progress e = record {
  settled = subst (All (λ unit. IsSettled progress.table unit.entries)) (sym e) (All-nil _);
  own = λ n detail unit at there. absurd (no_some unit (sym (ap (λ (us : List UnitEntry). slice_get us n) e) ∙ there));
}

-- own names beside units, and beside others after them
pub own_appended : (s : State) (ds es : List Detail) (us vs : List UnitEntry) → length ds ≡ length us → HaveOwn s ds us → HaveOwn s es vs → HaveOwn s (ds ++ es) (us ++ vs)
own_appended s ds es us vs count h k n detail unit at there = elim (either_at ds es n detail at) [
  | inl d ↦ elim (either_at us vs n unit there) [
    | inl u ↦ h n detail unit d u
    | inr u ↦ absurd (let l = slice_get_within ds n detail d in omega (arith, l, count, u.1.0))
  ]
  | inr d ↦ elim (either_at us vs n unit there) [
    | inl u ↦ absurd (let l = slice_get_within us n unit u in omega (arith, l, count, d.1.0))
    | inr u ↦ k d.0 detail unit d.1.1 (ap (slice_get vs) (let same : d.0 ≡ u.0 = omega (arith, count, d.1.0, u.1.0) in same) ∙ u.1.1)
  ]
]

pub both_kept : (before added whole : Units) (progress : Progress) → whole.entries.items ≡ before.entries.items ++ added.entries.items → whole.details.items ≡ before.details.items ++ added.details.items
    → AreKept before progress → AreKept added progress → AreKept whole progress
both_kept before added whole progress e f h k = record {
  settled = subst (All (λ unit. IsSettled progress.table unit.entries)) (sym e) (All-append (λ (unit : UnitEntry). IsSettled progress.table unit.entries) before.entries.items added.entries.items h.settled k.settled);
  own = subst (λ ds. HaveOwn (state_of progress) ds whole.entries.items) (sym f)
      (subst (λ us. HaveOwn (state_of progress) (before.details.items ++ added.details.items) us) (sym e)
      (own_appended (state_of progress) before.details.items added.details.items before.entries.items added.entries.items (before.detailed).count h.own k.own));
}
