use Rattle.std.proofs.Common.{◌+◌, drop, take}
use Rattle.sig_base.proofs.LongIdentifiers.{two_parts}
use Rattle.lib_valid.proofs.paths.is_path.Goals as goal

pub returns-then-is_long : goal.returns-then-is_long
returns-then-is_long c =
    let text = c.args.text.now in
    let dot = c.in-Some.field-0 in
    let two = two_parts text (take dot text) (drop (dot + 1) text) c.in-Some.ensures.value.1 in
    let short = c.has_short_parts.ensures.exact in
    record { exact = ((λ h. ((two, c.is_long.ensures.exact.0 c.if-is_long.true), short.0 h)), (λ h. short.1 h.1)) }
