use Rattle.std.proofs.Common.{◌≡◌, ℕ, List, length, drop, Result, Ok, Err, IsErrAnd, refl, sym, ap, ap₂, ◌∙◌, subst, arith}
use Rattle.sig_parser.specs.declared.tree.DataDesc.{DataDesc}
use Rattle.elab_rules.specs.declared.body.Body.{Body}
use Rattle.elab_rules.specs.declared.progress.Progress.{Progress}
use Rattle.elab_rules.specs.declared.refusal.ElabRefusal.{ElabRefusal}
use Rattle.elab_rules.specs.Bodies.{Described, Site}
use Rattle.elab_rules.specs.Datatypes.{datatype_heads, datatypes_described, group_constructed, settled}
use Rattle.elab_rules.specs.Environments.{Environment}
use Rattle.elab_types.specs.Outcome.{and_then}
use Rattle.elab_rules.specs.Standing.{AreMade}
use Rattle.elab_rules.specs.States.{State}
use Rattle.elab_rules.specs.Views.{GivesBody, body_at, site_at, state_of}
use Rattle.elab_types.specs.Views.{texts}
use Rattle.elab_phrases.proofs.Extensions.{added_part, extended_twice}
use Rattle.elab_phrases.proofs.Sites.{body_mentions, site_mentions}
use Rattle.elab_phrases.proofs.Stands.{stands_mentions}
use Rattle.elab_phrases.proofs.Staying.{mentions_twice}
use Rattle.elab_phrases.proofs.Turns.{ends}
use Rattle.elab_phrases.proofs.datatypes.describe_datatypes.Goals as goal

module _ (ds : List DataDesc) (site : Site) (own : Environment) (s : State) where
  abbrev constructed_and_settled : Environment × State → Described
  constructed_and_settled heads =
      and_then (group_constructed ds (length s.names) site heads.0 heads.1) (λ r. Ok (r.0, settled (length s.names) (length ds) (drop (length own) r.0) r.1))

  heads_fail : (result : Result Body ElabRefusal) (e : ElabRefusal) (p : Progress) → IsErrAnd result (λ other. other ≡ e) → GivesBody (datatype_heads ds site own s) (Err e) p → GivesBody (datatypes_described ds site own s) result p
  heads_fail result e p handed gives = ends (datatype_heads ds site own s) constructed_and_settled (datatypes_described ds site own s) result e p refl handed gives

  module _ (next : Site) (heads : Environment) (t : State) (first : ℕ) (head : datatype_heads ds site own s ≡ Ok (heads, t)) (same : next ≡ site) (number : first ≡ length s.names) where
    group_there : group_constructed ds (length s.names) site heads t ≡ group_constructed ds first next heads t
    group_there = ap₂ (λ n at. group_constructed ds n at heads t) (sym number) (sym same)

    group_fails : (result : Result Body ElabRefusal) (e : ElabRefusal) (p : Progress) → IsErrAnd result (λ other. other ≡ e) → GivesBody (group_constructed ds first next heads t) (Err e) p → GivesBody (datatypes_described ds site own s) result p
    group_fails result e p handed gives =
        ends (group_constructed ds first next heads t) (λ r. Ok (r.0, settled (length s.names) (length ds) (drop (length own) r.0) r.1)) (datatypes_described ds site own s) result e p
        (sym (rw (head, group_there) refl)) handed gives

    are_described : (body entries : Environment) (u v : State) (count : ℕ) → group_constructed ds first next heads t ≡ Ok (body, u) → count ≡ length ds → entries ≡ drop (length own) body → v ≡ settled first count entries u
        → datatypes_described ds site own s ≡ Ok (body, v)
    are_described body entries u v count made counted among is =
        let group : group_constructed ds (length s.names) site heads t ≡ Ok (body, u) = group_there ∙ made in
        let state : v ≡ settled (length s.names) (length ds) (drop (length own) body) u =
        is ∙ ap₂ (λ n k. settled n k entries u) number counted ∙ ap (λ es. settled (length s.names) (length ds) es u) among in
        rw (head, group) (ap (λ x. Ok (body, x)) (sym state))

pub construct_group-requires-clause-made : goal.construct_group-requires-clause-made
construct_group-requires-clause-made c =
    subst (λ n. AreMade c.describe_heads.new.progress.table n (texts c.args.site.now.source) c.args.descs.now) (sym c.len-first.ensures.value) c.in_ok-heads.ensures.made

pub returns-in_err-heads-clause-outcome : goal.returns-in_err-heads-clause-outcome
returns-in_err-heads-clause-outcome c =
    let p = c.args.progress.now in
    heads_fail c.args.descs.now (site_at p c.args.site.now) (body_at p c.args.own.entries.items) (state_of p) _ _ c.describe_heads.new.progress c.from_residual.ensures.1 c.in_err-heads.ensures.outcome

pub returns-in_err-body-clause-outcome : goal.returns-in_err-body-clause-outcome
returns-in_err-body-clause-outcome c =
    let p = c.args.progress.now in
    let q = c.describe_heads.new.progress in
    group_fails c.args.descs.now (site_at p c.args.site.now) (body_at p c.args.own.entries.items) (state_of p) (site_at q c.args.site.now) _ _ _ c.in_ok-heads.ensures.outcome (site_mentions p q c.args.site.now c.in_ok-heads.ensures.mentions) c.len-first.ensures.value
    _ _ c.construct_group.new.progress c.from_residual-in_err-body.ensures.1 c.in_err-body.ensures.outcome

pub returns : goal.returns
returns c =
    let p = c.args.progress.now in
    let q = c.describe_heads.new.progress in
    let r = c.construct_group.new.progress in
    let new = c.settle_equality.new.progress in
    let site = c.args.site.now in
    let own = c.args.own.entries.items in
    let heads = c.in_ok-heads.ensures in
    let group = c.in_ok-body.ensures in
    let settle = c.in_ok-settle_equality.ensures in
    let body = c.in_ok-body.body.entries.items in
    let count : c.len-from.result ≡ length own = omega (arith, c.len-from.ensures, c.args.own.entries.ok.0) in
    let extended = extended_twice q r own _ body group.mentions heads.extended group.extended in
    record {
      outcome =
          are_described c.args.descs.now (site_at p site) (body_at p own) (state_of p) (site_at q site) _ _ _ heads.outcome (site_mentions p q site heads.mentions) c.len-first.ensures.value
          _ _ _ _ _ group.outcome refl (ap₂ drop count c.as_slice.ensures.value ∙ sym (added_part p r own body extended)) settle.settled
          ∙ ap (λ env. Ok (env, state_of new)) (sym (body_mentions r new body settle.mentions));
      stands = stands_mentions site.base r new site body settle.mentions group.stands;
      mentions = mentions_twice p r new (mentions_twice p q r heads.mentions group.mentions) settle.mentions;
    }
