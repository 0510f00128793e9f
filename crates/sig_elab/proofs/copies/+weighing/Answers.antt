use Rattle.std.proofs.Common.{◌≡◌, ◌+◌, [], ◌∷◌, min, length, sym, ap, ◌∙◌, arith}
use Rattle.elab_rules.specs.Copies.{environment_weight}
use Rattle.elab_rules.specs.States.{within}
use Rattle.elab_phrases.proofs.Added.{length_within}
use Rattle.sig_elab.proofs.EntryWeights.{structure_weighs, weight_structure}
use Rattle.sig_elab.proofs.copies.+weighing.Goals as goal

pub weight_of-returns-in-Structure : goal.weight_of-returns-in-Structure
weight_of-returns-in-Structure t c = record {
  value = λ text is.
      let id = c.in-Structure.id in
      let path : c.args.path ≡ min (length text) 0xffff_ffff_ffff_ffff = is in
      let bytes : c.len.result ≡ length id = c.len.ensures.value in
      let first : c.saturating_add-in-Structure.result ≡ min (c.args.path + c.len.result) 0xffff_ffff_ffff_ffff = c.saturating_add-in-Structure.ensures in
      let second : c.saturating_add-inner.result ≡ min (c.saturating_add-in-Structure.result + 1) 0xffff_ffff_ffff_ffff = c.saturating_add-inner.ensures in
      let inner : c.saturating_add-inner.result ≡ min (length (within text id)) 0xffff_ffff_ffff_ffff = omega (arith, length_within text id, path, bytes, first, second) in
      let at : c.weight_at-in-Structure.result ≡ min (c.args.path + (length id + 2)) 0xffff_ffff_ffff_ffff =
      c.weight_at-in-Structure.ensures.value ∙ ap (λ bs. min (c.args.path + (length bs + 2)) 0xffff_ffff_ffff_ffff) c.as_slice-in-Structure.ensures.value in
      let all : c.weight_of_all.result ≡ min (environment_weight (within text id) c.in-Structure.entries) 0xffff_ffff_ffff_ffff =
      c.weight_of_all.ensures.value (within text id) inner ∙ ap (λ es. min (environment_weight (within text id) es) 0xffff_ffff_ffff_ffff) c.as_slice-in-Structure-2.ensures.value in
      let sum : c.saturating_add-in-Structure-2.result ≡ min (c.weight_at-in-Structure.result + c.weight_of_all.result) 0xffff_ffff_ffff_ffff = c.saturating_add-in-Structure-2.ensures in
      structure_weighs 0xffff_ffff_ffff_ffff (length text) c.args.path (length id + 2) _ _ _ _ path at all sum
      ∙ ap (λ n. min n 0xffff_ffff_ffff_ffff) (sym (weight_structure text id c.in-Structure.entries))
      ∙ ap (λ e. min (environment_weight text (e ∷ [])) 0xffff_ffff_ffff_ffff) (sym c.in-Structure.is);
}
