use Rattle.std.proofs.Common.{◌<◌, length, ◌∙◌, arith}
use Rattle.std.proofs.lemmas.List.{length-map}
use Rattle.sml_lexer.specs.Tokens.{text_of}
use Rattle.elab_types.specs.Sources.{texts_of}
use Rattle.elab_types.proofs.FirstPlaces.{firsts_more, met_more}
use Rattle.elab_types.proofs.texts.first_tokens.Goals as goal

pub loop-token-preserved : goal.loop-token-preserved
loop-token-preserved c =
    let texts = texts_of c.args.bytes.now c.args.tokens.now in
    let within : c.loop-token.token < length texts = omega (arith, length-map c.args.tokens.now (text_of c.args.bytes.now), c.loop-token-test.true) in
    let here = c.text_of.ensures.value in
    record {
      firsts = c.in_ok-push.ensures.pushed ∙ firsts_more texts c.loop-token.token _ _ _ _ within here (c.loop-token.invariant.met c.text_of.result.now) c.in_ok-first.ensures.value c.loop-token.invariant.firsts;
      met = λ other. c.in_ok-first.ensures.met other ∙ met_more texts c.loop-token.token _ other _ within here (c.loop-token.invariant.met other);
    }
