-- Bodies that have more entries.
use Rattle.std.specs.Prelude.{◌≡◌, ◌++◌}
use Rattle.elab_rules.specs.declared.progress.Progress.{Progress}
use Rattle.elab_rules.specs.Environments.{Environment}
use Rattle.elab_rules.specs.Views.{body_at}

-- a body has the entries of the body before it, and then others, which are by now what they are
pub record IsExtended (progress : Progress) (own body : Environment) : Type 0 where
  pub more : Environment
  pub grown : body ≡ own ++ more
  pub stays : body_at progress more ≡ more
