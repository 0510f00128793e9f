use Rattle.std.proofs.Common.{◌≡◌, [], ◌∷◌, ◌++◌, ap, sym, ◌∙◌}
use Rattle.search_core.specs.declared.answer.Details.{Details}
use Rattle.search_core.proofs.Telling.{of_type, told_new}
use Rattle.search_core.proofs.told.Told.tell.Goals as goal

pub returns-in_ok-push-in-None : goal.returns-in_ok-push-in-None
returns-in_ok-push-in-None c = λ names m is told.
    let details : Details = c.in_ok-details-in-None.details in
    let are = c.in_ok-details-in-None.ensures names m is in (
      are,
      told_new names m c.args.query.now c.args.self.now (record {
        types = c.number.new.self;
        details = c.push.new.self;
      }) told c.args.scheme.now.body c.in_ok-number.number c.in_ok-number.ensures.value details
          (sym c.in-None.ensures.value)
          (c.in_ok-push-in-None.ensures.pushed
          ∙ ap (λ (last : Details). c.args.self.now.details ++ last ∷ []) c.in_ok-share-in-None.ensures.value)
          (of_type names m c.args.query.now c.args.scheme.now details c.requires.scheme are),
    )
