use Rattle.std.proofs.Common.{◌≡◌, ℕ, List, length, min, IsTrue, sym, ap, ◌∙◌, subst, arith}
use Rattle.std.specs.List.{All}
use Rattle.elab_env.specs.Names.{is_described}
use Rattle.elab_env.specs.Table.{Table}
use Rattle.elab_rules.specs.Copies.{environment_weight, renumbered, with_copies, with_numbers}
use Rattle.elab_rules.specs.Distinct.{AreDistinct}
use Rattle.elab_rules.specs.Replacing.{environment_with}
use Rattle.elab_rules.specs.Views.{state_of}
use Rattle.elab_rules.proofs.IndexWith.{distinct_with}
use Rattle.sig_elab.proofs.CopiedNames.{own_described}
use Rattle.sig_elab.proofs.CopiedSignatures.{body_settled, copy_given, copy_mentions, copy_stands}
use Rattle.sig_elab.proofs.copies.copy_signature.Goals as goal

pub copy_names-requires : goal.copy_names-requires
copy_names-requires c =
    let p = c.args.progress.now in
    let ns = c.args.top.detail.now.own.numbers.items in
    record {
      described = subst (λ (t : Table). All (λ n. IsTrue (is_described t.names n)) ns) (sym c.in_ok-weigh.ensures.table)
          (subst (All (λ n. IsTrue (is_described p.table.names n))) (sym c.requires.own.numbers) (own_described c.args.top.unit.now (state_of p)));
    }

pub of-requires : goal.of-requires
of-requires c =
    let g = with_numbers (renumbered c.args.top.detail.now.own.numbers.items c.len-first.result) in
    record {
      distinct = subst AreDistinct (sym (c.in_ok-copies.ensures.value ∙ ap (environment_with g) c.as_slice-entries.ensures.value)) (distinct_with g c.args.top.unit.now.entries c.requires.distinct);
    }

pub returns : goal.returns
returns c =
    let p = c.args.progress.now in
    let w = c.weigh.new.self in
    let q = c.copy_names.new.progress in
    let site = c.args.site.now in
    let unit = c.args.top.unit.now in
    let own : List ℕ = c.args.top.detail.now.own.numbers.items in
    let table = c.in_ok-weigh.ensures.table in
    let mentions = c.in_ok-copy_names.ensures.mentions in
    let copies : state_of q ≡ with_copies site.path.now (length unit.id) own (state_of w) = c.in_ok-copy_names.ensures.copied ∙ ap (λ k. with_copies site.path.now k own (state_of w)) c.len.ensures.value in
    let first : c.len-first.result ≡ length p.table.names = c.len-first.ensures.value ∙ ap (λ (t : Table). length t.names) table in
    let numbered : c.in_ok-body.body.entries.items ≡ environment_with (with_numbers (renumbered own (length p.table.names))) unit.entries =
    c.in_ok-body.ensures.value ∙ c.in_ok-copies.ensures.value
    ∙ ap (environment_with (with_numbers (renumbered own c.len-first.result))) c.as_slice-entries.ensures.value
    ∙ ap (λ n. environment_with (with_numbers (renumbered own n)) unit.entries) first in
    let amount : c.weight_of_all.result ≡ min (environment_weight site.path.now unit.entries) 0xffff_ffff_ffff_ffff =
    c.weight_of_all.ensures.value site.path.now (omega arith) ∙ ap (λ es. min (environment_weight site.path.now es) 0xffff_ffff_ffff_ffff) c.as_slice-entries.ensures.value in
    let settled = body_settled p w q site unit own c.in_ok-body.body.entries.items table mentions c.is_sound.ensures.sound c.requires.own.numbers c.requires.settled copies numbered in
    record {
      outcome = copy_given p w q site unit own c.in_ok-body.body.entries.items table mentions c.is_sound.ensures.sound c.requires.own.numbers c.requires.settled copies numbered c.args.token
          (c.in_ok-weigh.ensures.outcome (environment_weight site.path.now unit.entries) amount);
      stands = copy_stands p w q site unit own c.in_ok-body.body.entries.items table mentions c.in_ok-weigh.ensures.firsts c.in_ok-weigh.ensures.external c.requires.begins settled;
      mentions = copy_mentions p w q site unit own c.in_ok-body.body.entries.items table mentions c.in_ok-weigh.ensures.firsts c.in_ok-weigh.ensures.external;
    }
