use Rattle.std.proofs.Common.{None, Some, arith}
use Rattle.elab_env.proofs.Meant.{followed_out, followed_to, linked_more, linked_start}
use Rattle.elab_env.proofs.Placed.{StandsAt, placed}
use Rattle.elab_env.proofs.resolving.follow.Goals as goal

pub links-init : goal.links-init
links-init c = linked_start _ _ _ _

pub realization-requires : goal.realization-requires
realization-requires c = record { within = (placed _ _ _ (Some c.in-Some.place) c.in-Some.ensures.place).within }

pub returns-in-None : goal.returns-in-None
returns-in-None c = record {
  followed = followed_to _ _ c.in-Some.ensures.sound.realizations _ _ _ c.links.at c.links.invariant c.in-Some.place _ (placed _ _ _ (Some c.in-Some.place) c.in-Some.ensures.place) c.realization.ensures.value;
  sound = c.in-Some.ensures.sound;
}

pub links-smaller : goal.links-smaller
links-smaller c =
    let stands : StandsAt c.args.table.now.realizations c.links.at c.in-Some.place c.links.name = placed _ _ _ (Some c.in-Some.place) c.in-Some.ensures.place in
    omega (arith, stands.later, stands.within)

pub links-preserved : goal.links-preserved
links-preserved c = linked_more _ _ c.in-Some.ensures.sound.realizations _ _ _ c.links.at c.links.invariant _ c.in-Some.place _
    (placed _ _ _ (Some c.in-Some.place) c.in-Some.ensures.place) c.realization.ensures.value c.in-Some-denoted_name.ensures.name

pub returns : goal.returns
returns c = record { sound = c.in_default.ensures.sound; followed = followed_out _ _ c.in_default.ensures.sound.realizations _ _ _ c.links.at c.links.invariant (placed c.args.table.now.realizations c.links.at c.links.name None c.in_default.ensures.place) }
