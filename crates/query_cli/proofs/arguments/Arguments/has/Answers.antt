use Rattle.std.proofs.Common.{sym, ◌∙◌, map, string_bytes}
use Rattle.query_cli.specs.Words.{is_option}
use Rattle.query_cli.proofs.Options.{has-filter}
use Rattle.query_cli.proofs.arguments.Arguments.has.Goals as goal

pub returns : goal.returns
returns c = record { value = c.has.ensures.value ∙ sym (has-filter is_option (map string_bytes c.args.self.before.now) c.args.option.now c.requires) }
