use Rattle.std.proofs.Common.{◌∙◌, get_or, subst, sym}
use Rattle.search_core.specs.Telling.{AreTold}
use Rattle.search_core.proofs.Found.{AreFound, all_found, found_none, found_one, found_other, stands}
use Rattle.search_core.proofs.searching.search.Goals as goal
use Rattle.search_core.proofs.searching.search.Goals.{in-Found+in_ok-details-in-Found+in_ok-push-in-Found, in-Apart}

pub loop-i-init : goal.loop-i-init
loop-i-init c = (
  subst (AreFound c.args.lib.now c.args.mode c.args.query.now 0) (sym c.new-hits.ensures.empty)
      (found_none c.args.lib.now c.args.mode c.args.query.now),
  c.in_ok-told.ensures.told c.args.lib.now.names c.args.mode c.args.query.now,
)

pub loop-i-preserved : goal.loop-i-preserved
loop-i-preserved c =
    let member = get_or c.as_slice-members.result.now c.loop-i.i c.index-members-i.result in
    let at = stands c.args.lib.now c.as_slice-members.result.now c.loop-i.i c.index-members-i.result
    c.as_slice-members.ensures.value c.loop-i-test.true in
    elim c.match-branch-4.branch [
      | in-Found+in_ok-details-in-Found+in_ok-push-in-Found w ↦
          let this = rw w.in-Found.is at c.in_ok-found.ensures in
          let told = w.in_ok-details-in-Found.ensures c.args.lib.now.names c.args.mode this.1 c.loop-i.invariant.1 in (
            found_one c.args.lib.now c.args.mode c.args.query.now c.loop-i.i member at c.loop-i.hits
                c.loop-i.invariant.0 w.in_ok-details-in-Found.details (w.hits-is ∙ w.in_ok-push-in-Found.ensures.pushed)
                (this.0, told.0),
            subst (AreTold c.args.lib.now.names c.args.mode c.args.query.now) (sym w.told-is) told.1,
          )
      | in-Apart w ↦ (
        found_other c.args.lib.now c.args.mode c.args.query.now c.loop-i.i member at c.loop-i.hits
            c.loop-i.invariant.0 w.hits-is (rw w.in-Apart.is at c.in_ok-found.ensures),
        subst (AreTold c.args.lib.now.names c.args.mode c.args.query.now) (sym w.told-is) c.loop-i.invariant.1,
      )
    ]

pub returns : goal.returns
returns c =
    record {
      hits = all_found c.args.lib.now c.args.mode c.args.query.now c.as_slice-members.result.now c.loop-i.i
          c.loop-i.hits c.as_slice-members.ensures.value c.loop-i-test.false c.loop-i.invariant.0;
    }
