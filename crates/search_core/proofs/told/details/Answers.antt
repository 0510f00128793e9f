use Rattle.search_core.proofs.Details.{matched_details, paired_details}
use Rattle.search_core.proofs.told.details.Goals as goal

pub returns-in_ok-new-in-Paired-2 : goal.returns-in_ok-new-in-Paired-2
returns-in_ok-new-in-Paired-2 c = λ names m is.
    paired_details names c.args.scheme.now c.args.query.now m c.args.found c.in-Paired.pairing
    c.in_ok-new-in-Paired.field-0 c.in_ok-conv-in-Paired.conv c.in_ok-new-in-Paired-2.field-0 c.in-Paired.is
    c.in_ok-new-in-Paired.ensures.value c.in_ok-new-in-Paired-2.ensures.value c.in_ok-conv-in-Paired.ensures.paired is

pub returns-in_ok-new-in-Matched-3 : goal.returns-in_ok-new-in-Matched-3
returns-in_ok-new-in-Matched-3 c = λ names m is.
    matched_details names c.args.scheme.now c.args.query.now m c.args.found c.in-Matched.instance
    c.in_ok-new-in-Matched-2.field-0 c.in-Matched.pairing c.in_ok-new-in-Matched.field-0 c.in_ok-conv-in-Matched.conv
    c.in_ok-new-in-Matched-3.field-0 c.in-Matched.is c.in_ok-new-in-Matched-2.ensures.value
    c.in_ok-new-in-Matched.ensures.value c.in_ok-new-in-Matched-3.ensures.value
    (record {
      to = c.in_ok-conv-in-Matched.ensures.to;
      from = c.in_ok-conv-in-Matched.ensures.from;
      inverse_pair = c.in_ok-conv-in-Matched.ensures.inverse_pair;
    }) is
