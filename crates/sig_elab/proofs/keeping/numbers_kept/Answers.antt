use Rattle.std.proofs.Common.{◌≡◌, ◌<◌, ◌++◌, ◌∷◌, [], length, slice_get, sym, ap, ◌∙◌, arith}
use Rattle.std.proofs.lemmas.Grind.{common_steps}
use Rattle.elab_rules.specs.Library.{number_kept}
use Rattle.elab_rules.specs.Views.{gone_of}
use Rattle.sig_elab.proofs.KeptNumbers.{flags_count, number_counted, number_passed, number_within, numbers_pushed}
use Rattle.sig_elab.proofs.keeping.numbers_kept.Goals as goal
use Rattle.sig_elab.proofs.keeping.numbers_kept.Goals.{then-is_kept, else-is_kept}

pub loop-n-preserved : goal.loop-n-preserved
loop-n-preserved c =
    let table = c.args.table.now in
    let flags = gone_of table in
    let n = c.loop-n.n in
    let xs = c.loop-n.numbers.items in
    let within : n < length flags = omega (arith, c.len-n-end.ensures.value, c.loop-n-test.true, flags_count table) in
    let small = number_within flags n in
    let before = c.loop-n.invariant.kept in
    let count : length xs ≡ n = omega (arith, c.loop-n.invariant.count, c.loop-n.numbers.ok.0) in
    record {
      count = grind (arith, common_steps);
      kept = elim c.if-is_kept.branch [
        | then-is_kept w ↦ let e = number_counted flags n c.loop-n.kept within before (sym w.if-is_kept.true ∙ c.is_kept.ensures.value) in w.kept-is ∙ grind (arith, common_steps)
        | else-is_kept w ↦ w.kept-is ∙ number_passed flags n c.loop-n.kept within before (sym w.if-is_kept.false ∙ c.is_kept.ensures.value)
      ];
      each = λ m l.
          ap (λ ys. slice_get ys m) (c.in_ok-push.ensures.items ∙ ap (λ k. xs ++ k ∷ []) before)
          ∙ numbers_pushed (number_kept flags) xs n count c.loop-n.invariant.each m l;
    }
