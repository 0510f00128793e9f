use Rattle.std.proofs.Common.{◌≡◌, ◌++◌, length, take, sym, ap, subst, subst₂, ◌∙◌, arith}
use Rattle.std.proofs.lemmas.List.{take_at}
use Rattle.elab_rules.specs.Details.{AreDetails}
use Rattle.elab_rules.specs.Places.{ArePlaced}
use Rattle.elab_rules.proofs.DetailsMore.{details_appended}
use Rattle.elab_rules.proofs.units.Units.append.Goals as goal

pub invariant_of-self-in-Ok : goal.invariant_of-self-in-Ok
invariant_of-self-in-Ok c =
    let own = c.args.self.now in
    let more = c.args.more in
    let appended : c.append-2.new.self.items ≡ own.entries.items ++ more.entries.items = c.in_ok-append-2.ensures.items ∙ ap (λ es. es ++ more.entries.items) c.reserve.ensures.items in
    record {
      placed = subst (ArePlaced c.place_all.new.places) c.as_slice.ensures.value c.in-Ok.ensures.placed;
      detailed = subst₂ AreDetails (sym c.in_ok-append.ensures.items) (sym appended)
          (details_appended own.details.items more.details.items own.entries.items more.entries.items own.detailed more.detailed);
    }

pub invariant_of-self-in-Err : goal.invariant_of-self-in-Err
invariant_of-self-in-Err c =
    let own = c.args.self.now in
    let more = c.args.more in
    let count = c.len-count.result in
    let appended : c.append-2.new.self.items ≡ own.entries.items ++ more.entries.items = c.in_ok-append-2.ensures.items ∙ ap (λ es. es ++ more.entries.items) c.reserve.ensures.items in
    let end : length own.entries.items ≡ count = omega (arith, c.len-count.ensures, own.entries.ok.0) in
    let entries_back : c.truncate.new.self.items ≡ own.entries.items =
    c.truncate.ensures.items ∙ ap (take count) appended ∙ take_at own.entries.items more.entries.items count end in
    let details_back : c.truncate-in-Err.new.self.items ≡ own.details.items =
    c.truncate-in-Err.ensures.items ∙ ap (take count) c.in_ok-append.ensures.items ∙ take_at own.details.items more.details.items count (own.detailed.count ∙ end) in
    record {
      placed = subst (ArePlaced c.place_all.new.places) (ap (take count) c.as_slice.ensures.value ∙ sym c.truncate.ensures.items) c.in-Err.ensures.kept;
      detailed = subst₂ AreDetails (sym details_back) (sym entries_back) own.detailed;
    }
