-- What is kept of units stays, as names are made and realized, and with a unit more.
use Rattle.std.proofs.Common.{◌≡◌, zero, suc, [], ◌∷◌, ◌++◌, length, sym, ap, subst, subst₂}
use Rattle.std.specs.List.{All}
use Rattle.std.proofs.lemmas.List.Elements.{All-append, All-cons, All-nil, All-weaker}
use Rattle.elab_env.specs.Table.{Table}
use Rattle.elab_rules.specs.declared.detail.Detail.{Detail}
use Rattle.elab_rules.specs.declared.entry.UnitEntry.{UnitEntry}
use Rattle.elab_rules.specs.declared.progress.Progress.{Progress}
use Rattle.elab_rules.specs.declared.units.Units.{Units}
use Rattle.elab_rules.specs.Details.{HasOwn, HaveOwn}
use Rattle.elab_rules.specs.Standing.{Grew, IsSettled, Mentions}
use Rattle.elab_rules.specs.States.{State}
use Rattle.elab_rules.specs.Views.{state_of}
use Rattle.elab_rules.proofs.AddedNames.{mentions_same}
use Rattle.elab_phrases.proofs.Stands.{over_all}
use Rattle.elab_phrases.proofs.Staying.{mentions_grew, own_stays, settled_stays}
use Rattle.sig_elab.specs.Kept.{AreKept}
use Rattle.sig_elab.proofs.UnitsKept.{own_appended}

-- names that are made or realized from the end of the names on
pub kept_grew : (units : Units) (p q : Progress) → Grew (length p.table.names) p q → AreKept units p → AreKept units q
kept_grew units p q grew h = record {
  settled = All-weaker (λ (unit : UnitEntry). IsSettled p.table unit.entries) (λ unit. IsSettled q.table unit.entries)
      (λ unit k. settled_stays (length p.table.names) p q unit.entries grew (over_all p.table.names unit.entries k.over) k) units.entries.items h.settled;
  own = λ n detail unit d u. let has = h.own n detail unit d u in own_stays (length p.table.names) p q detail unit grew has.made has;
}

-- only a weight was added
pub weighed_mentions : (p q : Progress) → q.table ≡ p.table → q.firsts ≡ p.firsts → q.external_weight ≡ p.external_weight → Mentions p q
weighed_mentions p q table = mentions_same p q (ap (λ (t : Table). t.names) table) (ap (λ (t : Table). t.realizations) table)

pub kept_mentions : (units : Units) (p q : Progress) → Mentions p q → AreKept units p → AreKept units q
kept_mentions units p q h = kept_grew units p q (mentions_grew (length p.table.names) p q h)

-- ---- a unit more
one_own : (s : State) (detail : Detail) (unit : UnitEntry) → HasOwn s detail unit → HaveOwn s (detail ∷ []) (unit ∷ [])
one_own s detail unit h zero d u at there = let same : detail ≡ d = cc in let beside : unit ≡ u = cc in subst₂ (HasOwn s) same beside h
one_own s detail unit h (suc n) d u at there = cc

pub kept_more : (units more : Units) (detail : Detail) (unit : UnitEntry) (p : Progress) → more.entries.items ≡ units.entries.items ++ unit ∷ [] → more.details.items ≡ units.details.items ++ detail ∷ []
    → IsSettled p.table unit.entries → HasOwn (state_of p) detail unit → AreKept units p → AreKept more p
kept_more units more detail unit p e f settled own h = record {
  settled = subst (All (λ unit. IsSettled p.table unit.entries)) (sym e)
      (All-append (λ (unit : UnitEntry). IsSettled p.table unit.entries) units.entries.items (unit ∷ []) h.settled
      (All-cons (λ (unit : UnitEntry). IsSettled p.table unit.entries) unit [] settled (All-nil _)));
  own = subst₂ (HaveOwn (state_of p)) (sym f) (sym e)
      (own_appended (state_of p) units.details.items (detail ∷ []) units.entries.items (unit ∷ []) (units.detailed).count h.own (one_own (state_of p) detail unit own));
}
