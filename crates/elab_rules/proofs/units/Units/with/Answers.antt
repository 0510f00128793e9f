use Rattle.std.proofs.Common.{◌≡◌, ◌∷◌, [], length, take, sym, ap, subst, subst₂, ◌∙◌, arith}
use Rattle.std.proofs.lemmas.List.{take_at}
use Rattle.elab_rules.specs.Details.{AreDetails}
use Rattle.elab_rules.specs.Places.{ArePlaced}
use Rattle.elab_rules.proofs.DetailsMore.{details_appended, one_detail}
use Rattle.elab_rules.proofs.units.Units.with.Goals as goal

pub place_all-requires-clause-placed : goal.place_all-requires-clause-placed
place_all-requires-clause-placed c =
    let own = c.args.self in
    let end : length own.entries.items ≡ c.len-count.result = omega (arith, c.len-count.ensures, own.entries.ok.0) in
    subst (ArePlaced own.places)
    (sym (ap (take c.len-count.result) (c.as_slice.ensures.value ∙ c.in_ok-push.ensures.items) ∙ take_at own.entries.items (c.args.unit ∷ []) c.len-count.result end)) own.placed

pub invariant_of-result : goal.invariant_of-result
invariant_of-result c = record {
  placed = subst (ArePlaced c.place_all.new.places) c.as_slice.ensures.value c.in_ok-place_all.ensures.placed;
  detailed = subst₂ AreDetails (sym c.in_ok-push-2.ensures.items) (sym c.in_ok-push.ensures.items)
      (details_appended c.args.self.details.items (c.args.detail ∷ []) c.args.self.entries.items (c.args.unit ∷ []) c.args.self.detailed (one_detail c.args.detail c.args.unit c.requires.detailed));
}
