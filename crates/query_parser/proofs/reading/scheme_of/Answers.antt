use Rattle.std.proofs.Common.{arith}
use Rattle.query_parser.proofs.Asked.{few_variables, is_query, narrow, phrase_typed}
use Rattle.query_parser.proofs.reading.scheme_of.Goals as goal

pub close-requires : goal.close-requires
close-requires c =
    let typed = phrase_typed c.args.lib.now c.requires.valid _ _ c.requires.tokens _ c.requires.phrase c.in_ok-t.t c.in_ok-t.ensures.outcome in
    record { fits = few_variables c.in_ok-t.t typed.small }

pub returns-clause-query : goal.returns-clause-query
returns-clause-query c =
    let typed = phrase_typed c.args.lib.now c.requires.valid _ _ c.requires.tokens _ c.requires.phrase c.in_ok-t.t c.in_ok-t.ensures.outcome in
    is_query _ _ typed (narrow _ _ c.normal_size.ensures.value (omega arith)) _ c.in_ok-scheme.ensures.value
