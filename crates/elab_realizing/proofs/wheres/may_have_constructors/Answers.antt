use Rattle.std.proofs.Common.{◌≡◌, true, false, not, is_some, ap, ◌∙◌, rules}
use Rattle.elab_rules.specs.Replacing.{denoted}
use Rattle.elab_realizing.proofs.EntryTests.{or_false, or_true, some_denoted}
use Rattle.elab_realizing.proofs.wheres.may_have_constructors.Goals as goal

pub returns-then-is_some : goal.returns-then-is_some
returns-then-is_some c =
    let some : is_some c.denoted_name.result ≡ true = search rules in
    record { value = or_true _ (is_some (denoted c.args.fun.now)) (some_denoted c.args.fun.now c.denoted_name.result c.denoted_name.ensures.name c.denoted_name.ensures.none ∙ some) }

pub returns : goal.returns
returns c =
    let none : is_some c.denoted_name.result ≡ false = search rules in
    record { value = ap not c.in_ok-has_constructors.ensures.value ∙ or_false _ (is_some (denoted c.args.fun.now)) (some_denoted c.args.fun.now c.denoted_name.result c.denoted_name.ensures.name c.denoted_name.ensures.none ∙ none) }
