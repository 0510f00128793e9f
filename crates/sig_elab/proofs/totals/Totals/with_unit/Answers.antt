use Rattle.std.proofs.Common.{◌+◌, min, ap, ◌∙◌}
use Rattle.sig_elab.proofs.UnitTotals.{totals_more}
use Rattle.sig_elab.proofs.totals.Totals.with_unit.Goals as goal

pub returns : goal.returns
returns c = record {
  more = λ units s t so_far.
      totals_more c.args.self _ units c.args.unit.now s t _ _ _ _ _ _ _ _ _ _ _
      c.in_ok-tycons.ensures.value c.in_ok-members.ensures.value c.as_slice-3.ensures.value c.as_slice.ensures.value c.as_slice-2.ensures.value
      c.len-count.ensures.value c.saturating_add-3.ensures c.len-id.ensures.value c.total_normal-normal.ensures.value c.total_of_members-of_members.ensures.value c.total_of_tycons-of_tycons.ensures.value
      c.saturating_add.ensures c.saturating_add-2.ensures
      (c.saturating_add-6.ensures
      ∙ ap (λ n. min (n + c.total_of_members-of_members.result) 0xffff_ffff_ffff_ffff) (c.saturating_add-5.ensures
      ∙ ap (λ n. min (n + c.total_of_tycons-of_tycons.result) 0xffff_ffff_ffff_ffff) c.saturating_add-4.ensures))
      so_far;
}
