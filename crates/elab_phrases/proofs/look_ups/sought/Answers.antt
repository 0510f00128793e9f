use Rattle.std.proofs.Common.{◌+◌, ◌-◌, ◌∷◌, length, drop, take, refl, sym, arith, length-drop}
use Rattle.std.proofs.lemmas.List.{take_all}
use Rattle.std.proofs.lemmas.List.Elements.{All-cons}
use Rattle.type_core.specs.Types.{IsOver}
use Rattle.elab_rules.specs.Standing.{AreOver}
use Rattle.elab_rules.specs.Views.{bodies_seen, site_of}
use Rattle.elab_phrases.proofs.SoughtLevels.{sought_declared, sought_elsewhere, sought_nothing, structure_sought_over}
use Rattle.elab_phrases.proofs.look_ups.sought.Goals as goal

pub returns-in-Some-type_along-clause-over : goal.returns-in-Some-type_along-clause-over
returns-in-Some-type_along-clause-over c =
    let site = site_of c.args.site.now in
    let own = c.args.own.entries.now in
    λ names sees.
    c.in-Some-type_along.ensures.over names
    (structure_sought_over (IsOver names) _ _ site (own ∷ site.around) (All-cons (AreOver names) own site.around sees.body sees.around) sees.units (sym c.in-Some-structure_sought.ensures.value))

pub returns-in-None-type_along-clause-value : goal.returns-in-None-type_along-clause-value
returns-in-None-type_along-clause-value c =
    let path = c.args.path.now in
    let dot = c.in-Some.dot in
    let left = length path - (dot + 1) in
    sought_nothing path (take dot path) (take dot path) (drop (dot + 1) path) (take left (drop (dot + 1) path)) (site_of c.args.site.now) (bodies_seen c.args.own c.args.site.now) c.in-Some.ensures.value.1 refl
    (take_all left (drop (dot + 1) path) (omega (arith, length-drop (dot + 1) path)))
    c.in-Some-structure_sought.env.entries.now c.in-Some-structure_sought.ensures.value c.in-None-type_along.ensures.value

pub returns-then-is_top-clause-value : goal.returns-then-is_top-clause-value
returns-then-is_top-clause-value c =
    let path = c.args.path.now in
    let dot = c.in-Some.dot in
    sought_declared path (take dot path) (take dot path) (drop (dot + 1) path) (drop (dot + 1) path) (site_of c.args.site.now) (bodies_seen c.args.own c.args.site.now) c.in-Some.ensures.value.1 refl refl c.is_top.result c.in-None.ensures.value
    c.is_top.ensures.value c.if-is_top.true

pub returns-else-is_top-clause-value : goal.returns-else-is_top-clause-value
returns-else-is_top-clause-value c =
    let path = c.args.path.now in
    let dot = c.in-Some.dot in
    sought_elsewhere path (take dot path) (take dot path) (drop (dot + 1) path) (drop (dot + 1) path) (site_of c.args.site.now) (bodies_seen c.args.own c.args.site.now) c.in-Some.ensures.value.1 refl refl c.is_top.result c.in-None.ensures.value
    c.is_top.ensures.value c.if-is_top.false
