use Rattle.std.proofs.Common.{◌∙◌}
use Rattle.search_core.proofs.Images.{all_images, next_image, partner_image}
use Rattle.search_core.proofs.converting.images.Goals as goal
use Rattle.search_core.proofs.converting.images.Goals.{in-Some+in_ok-push-in-Some, in-None+in_ok-push-in-None+in_ok-next-in-None}

pub loop-n-preserved : goal.loop-n-preserved
loop-n-preserved c = elim c.match-partner.branch [
  | in-Some+in_ok-push-in-Some w ↦
      partner_image c.args.scheme.now c.requires.scheme c.args.partners.now c.args.from c.loop-n.n c.loop-n-test.true
      c.loop-n.by c.match-partner.by c.loop-n.next c.loop-n.invariant
      w.in-Some.v c.match-partner.next (rw w.in-Some.is at c.partner.ensures.some) w.next-is
      (w.by-is ∙ w.in_ok-push-in-Some.ensures.pushed)
  | in-None+in_ok-push-in-None+in_ok-next-in-None w ↦
      next_image c.args.scheme.now c.requires.scheme c.args.partners.now c.args.from c.loop-n.n c.loop-n-test.true
      c.loop-n.by c.match-partner.by c.loop-n.next c.loop-n.invariant
      w.has_mark-eq.result c.match-partner.next (c.partner.ensures.none w.in-None.is) w.has_mark-eq.ensures.value
      (w.next-is ∙ w.in_ok-next-in-None.ensures.value) (w.by-is ∙ w.in_ok-push-in-None.ensures.pushed)
]

pub returns-clause-value : goal.returns-clause-value
returns-clause-value c =
    all_images c.args.scheme.now c.requires.scheme c.args.partners.now c.args.from c.loop-n.n c.loop-n.by c.loop-n.next
    c.loop-n-test.false c.loop-n.invariant
