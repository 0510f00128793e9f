-- What a declaration declares.
use Rattle.std.specs.Prelude.{ℕ, List, map}
use Rattle.sig_elab.specs.declared.declaration.Declaration.{Declaration}
use Rattle.elab_types.specs.Sources.{text_at}
use Rattle.elab_types.specs.Views.{texts}

-- the identifiers of a declaration
abbrev pub declared_ids : Declaration → List (List ℕ)
declared_ids declaration = map (λ bind. text_at (texts declaration.source) bind.id) declaration.binds.now
