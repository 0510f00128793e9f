use Rattle.std.proofs.Common.{◌<◌, IsTrue, [], ◌∷◌, length, slice_index_or, ap, ◌∙◌, subst, arith}
use Rattle.std.proofs.lemmas.List.Elements.{All-weaker}
use Rattle.elab_env.specs.Names.{is_described}
use Rattle.elab_env.proofs.Kept.{described_within}
use Rattle.elab_rules.specs.Copies.{with_copies}
use Rattle.elab_rules.specs.Views.{state_of}
use Rattle.elab_phrases.proofs.Staying.{grows, mentions_twice}
use Rattle.sig_elab.proofs.CopiedNames.{copies_turn}
use Rattle.sig_elab.proofs.copies.copy_names.Goals as goal

pub loop-n-preserved : goal.loop-n-preserved
loop-n-preserved c =
    let p = c.args.progress.now in
    let now = c.loop-n.progress in
    let ns = c.args.own.now.numbers.items in
    let slice = c.as_slice-n-items.ensures.value in
    let many = grows p now c.loop-n.invariant.mentions.names in
    record {
      turns = copies_turn c.args.path.now c.args.count ns c.loop-n.n-index (state_of now) (state_of c.copy_name.new.progress) _ (subst (λ xs. c.loop-n.n-index < length xs) slice c.loop-n-test.true)
          (All-weaker (λ n. IsTrue (is_described p.table.names n)) (λ n. n < length now.table.names) (λ n d. let l = described_within p.table.names n d in omega (arith, l, many)) ns c.requires.described)
          (c.in_ok-copy_name.ensures.copied ∙ ap (λ xs. with_copies c.args.path.now c.args.count (slice_index_or xs c.loop-n.n-index 0 ∷ []) (state_of now)) slice) c.loop-n.invariant.turns;
      mentions = mentions_twice p now c.copy_name.new.progress c.loop-n.invariant.mentions c.in_ok-copy_name.ensures.mentions;
    }
