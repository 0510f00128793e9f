-- What signature expressions are for, and those that are not ended.
use Rattle.std.specs.Prelude.{ℕ, List}
use Rattle.sig_parser.specs.declared.tree.Bind.{Bind}
use Rattle.sig_parser.specs.declared.tree.SigBase.{SigBase}
use Rattle.sig_parser.specs.declared.tree.Spec.{Spec}
use Rattle.sig_parser.specs.declared.tree.WherePart.{WherePart}
use Rattle.sig_parser.specs.declared.point.Group.{Group}

-- what a signature expression is for
pub data Goal : Type 0 where
  -- a binding, with those before it and its identifier
  Binding : Group → List Bind → ℕ → Goal
  -- an `include`
  Including : Goal

-- a body that is not ended: what it is for, the number of its `sig`, and the specifications so far
pub record Level : Type 0 where
  pub goal : Goal
  pub first : ℕ
  pub specs : List Spec

-- a signature expression that may go on by `where`
pub record Open : Type 0 where
  pub goal : Goal
  pub first : ℕ
  pub base : SigBase
  pub parts : List WherePart
