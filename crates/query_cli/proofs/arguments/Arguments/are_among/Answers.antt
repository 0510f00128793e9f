use Rattle.std.proofs.Common.{map, string_bytes, sym, ◌∙◌}
use Rattle.query_cli.proofs.Options.{once, twice}
use Rattle.query_cli.proofs.arguments.Arguments.are_among.Goals as goal

pub returns-then-has : goal.returns-then-has
returns-then-has c = record {
  value = twice string_bytes c.args.self.before.now c.loop-i.i c.word-item.result c.as_str-word.result.now c.loop-i-test.true c.word-item.is c.as_str-word.ensures.value
      (map (λ name. name.now) c.args.known.now) (sym c.if-not-is_option.ensures.value) (sym c.has.ensures.value ∙ c.if-has.true) c.loop-i.invariant;
}

pub loop-i-preserved : goal.loop-i-preserved
loop-i-preserved c =
    once string_bytes c.args.self.before.now c.loop-i.i c.word-item.result c.as_str-word.result.now c.loop-i-test.true c.word-item.is c.as_str-word.ensures.value
    (map (λ name. name.now) c.args.known.now) (sym c.if-not-is_option.ensures.value) (sym c.is_known.ensures.value ∙ c.if-not-is_known.false) (sym c.has.ensures.value ∙ c.if-has.false) c.loop-i.invariant
