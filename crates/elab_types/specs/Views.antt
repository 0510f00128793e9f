-- What contracts see of a source.
use Rattle.std.specs.Prelude.{ℕ, List}
use Rattle.elab_types.specs.declared.source.Source.{Source}
use Rattle.elab_types.specs.Sources.{texts_of}

-- the texts of a source's tokens
abbrev pub texts : Source → List (List ℕ)
texts source = texts_of source.bytes.now source.tokens.now
