use Rattle.std.proofs.Common.{◌≡◌, ◌==◌, length, sym, ap, ◌∙◌, arith}
use Rattle.elab_types.specs.Finding.{place_of}
use Rattle.elab_rules.proofs.NumbersPlaced.{number_more}
use Rattle.elab_rules.proofs.own_names.OwnNames.with.Goals as goal

pub invariant_of-result : goal.invariant_of-result
invariant_of-result c =
    let numbers = c.args.self.numbers in
    let end : c.len.result ≡ length numbers.items = omega (arith, c.len.ensures, numbers.ok.0) in
    record { placed = λ m. number_more numbers.items c.args.n c.len.result m _ _ end (c.args.self.placed m) (c.in_ok-insert_new.ensures.inserted m) ∙ ap (place_of (λ k. k == m)) (sym c.in_ok-push.ensures.items) }
