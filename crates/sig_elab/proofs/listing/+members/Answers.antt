use Rattle.std.proofs.Common.{◌++◌, ap, ◌∙◌}
use Rattle.std.proofs.lemmas.Result.{on_ok_weaker}
use Rattle.sig_elab.proofs.Listings.{members_within}
use Rattle.sig_elab.proofs.listing.+members.Goals as goal

pub push_members_of-returns-in_ok-path-in-Structure : goal.push_members_of-returns-in_ok-path-in-Structure
push_members_of-returns-in_ok-path-in-Structure t c = record {
  pushed =
      on_ok_weaker c.push_members.result
      (λ e. e ∙ ap (λ more. c.args.members.now ++ more)
      (members_within _ _ _ _ _ _ _ _ c.in-Structure.is c.as_slice-in-Structure.ensures.value c.in_ok-path-in-Structure.ensures.value c.as_slice-in-Structure-2.ensures.value c.as_slice-in-Structure-3.ensures.value))
      c.push_members.ensures.pushed;
}
