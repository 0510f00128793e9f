use Rattle.std.proofs.Common.{◌≡◌, ◌<◌, suc, ◌++◌, ◌∷◌, [], drop, length, sym, ap, ◌∙◌, add-one, append_assoc, arith}
use Rattle.elab_rules.specs.Library.{kept_names}
use Rattle.elab_rules.specs.Views.{gone_of}
use Rattle.sig_elab.proofs.KeptNumbers.{flags_count, names_left, names_passed}
use Rattle.sig_elab.proofs.keeping.all_names.Goals as goal
use Rattle.sig_elab.proofs.keeping.all_names.Goals.{then-is_kept+in_ok-copy_name+in_ok-push, else-is_kept}

pub loop-n-preserved : goal.loop-n-preserved
loop-n-preserved c =
    let table = c.args.table.now in
    let names = table.names in
    let flags = gone_of table in
    let n = c.loop-n.n in
    let within : n < length names = omega (arith, c.len-n-end.ensures.value, c.loop-n-test.true) in
    let flagged : n < length flags = omega (arith, within, flags_count table) in
    ap (λ k. c.if-is_kept.names ++ kept_names (drop k names) (drop k flags)) (add-one n)
    ∙ elim c.if-is_kept.branch [
      | then-is_kept+in_ok-copy_name+in_ok-push w ↦
          let rest = kept_names (drop (suc n) names) (drop (suc n) flags) in
          let copied : w.in_ok-copy_name.field-0 ≡ w.name.result.now = w.in_ok-copy_name.ensures.value in
          ap (λ xs. xs ++ rest) (w.names-is ∙ w.in_ok-push.ensures.pushed ∙ ap (λ x. c.loop-n.names ++ x ∷ []) copied)
          ∙ append_assoc c.loop-n.names (w.name.result.now ∷ []) rest
          ∙ ap (λ xs. c.loop-n.names ++ xs) (sym (names_left names flags n w.name.result.now w.name.ensures.value flagged (sym w.if-is_kept.true ∙ c.is_kept.ensures.value)))
      | else-is_kept w ↦
          ap (λ xs. xs ++ kept_names (drop (suc n) names) (drop (suc n) flags)) w.names-is
          ∙ ap (λ xs. c.loop-n.names ++ xs) (sym (names_passed names flags n within flagged (sym w.if-is_kept.false ∙ c.is_kept.ensures.value)))
    ]
    ∙ c.loop-n.invariant
