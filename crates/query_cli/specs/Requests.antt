-- What borrowed words hold, while no memory is taken yet.
use Rattle.std.specs.Prelude.{ℕ, not, List, ◌++◌, map, filter, string_bytes}
use Rattle.query_cli.specs.Words.{is_option}
use Rattle.query_cli.specs.declared.arguments.Arguments.{Arguments}
use Rattle.query_cli.specs.declared.request.Request.{Request}
use Rattle.query_cli.specs.declared.request.Request.TheVariants as request
use Rattle.query_cli.specs.declared.command.Command.{Command}
use Rattle.query_cli.specs.declared.command.Command.TheVariants as command

-- the options among arguments
abbrev pub options_in : Arguments → List (List ℕ)
options_in arguments = filter is_option (map string_bytes arguments.before.now)

-- the values among arguments
abbrev pub values_in : Arguments → List (List ℕ)
values_in arguments = filter (λ word. not (is_option word)) (map string_bytes arguments.before.now) ++ map string_bytes arguments.after.now

-- the command that is asked for
abbrev pub asked : Request → Command
asked (request.Listing files from_index) = command.Listing (values_in files) from_index
asked (request.Find mode query files names from_index) = command.Find mode query.now (values_in files) names from_index
asked (request.Index out files) = command.Index out.now (values_in files)
asked (request.Gen n) = command.Gen n
