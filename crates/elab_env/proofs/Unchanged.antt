-- Types that resolving does not change, as a walk over their parts finds them.
use Rattle.std.proofs.Common.{◌≡◌, false, List, map, sym, ap, ap₂, ◌∙◌}
use Rattle.type_core.specs.declared.ty.VarId.{VarId}
use Rattle.type_core.specs.declared.ty.NameId.{NameId}
use Rattle.type_core.specs.declared.ty.Ty.{Ty}
use Rattle.type_core.specs.declared.ty.Field.{Field}
use Rattle.type_core.specs.declared.ty.Ty.TheVariants as ty
use Rattle.elab_env.specs.declared.realization.Realization.{Realization}
use Rattle.elab_env.specs.Realizations.{field_resolved, resolved}
use Rattle.elab_env.specs.Table.{is_realized}
use Rattle.elab_env.proofs.Resolved.{resolved_arrow, resolved_other, resolved_rec, resolved_tup, resolved_var}

module _ (rs : List Realization) (t : Ty) where
  unchanged : (u : Ty) → t ≡ u → resolved rs u ≡ u → resolved rs t ≡ t
  unchanged u e same = ap (resolved rs) e ∙ same ∙ sym e

  pub unchanged_var : (v : VarId) → t ≡ ty.Var v → resolved rs t ≡ t
  unchanged_var v e = unchanged _ e (resolved_var rs v)

  pub unchanged_con : (name : NameId) (ts parts : List Ty) → t ≡ ty.Con name ts → parts ≡ ts → is_realized rs name.0 ≡ false → map (resolved rs) parts ≡ parts → resolved rs t ≡ t
  unchanged_con name ts parts e p free same = unchanged _ (e ∙ ap (ty.Con name) (sym p)) (resolved_other rs name parts free ∙ ap (ty.Con name) same)

  pub unchanged_rec : (fields parts : List Field) → t ≡ ty.Rec fields → parts ≡ fields → map (field_resolved rs) parts ≡ parts → resolved rs t ≡ t
  unchanged_rec fields parts e p same = unchanged _ (e ∙ ap ty.Rec (sym p)) (resolved_rec rs parts ∙ ap ty.Rec same)

  pub unchanged_tup : (ts parts : List Ty) → t ≡ ty.Tup ts → parts ≡ ts → map (resolved rs) parts ≡ parts → resolved rs t ≡ t
  unchanged_tup ts parts e p same = unchanged _ (e ∙ ap ty.Tup (sym p)) (resolved_tup rs parts ∙ ap ty.Tup same)

  pub unchanged_arrow : (a b p q : Ty) → t ≡ ty.Arrow a b → p ≡ a → q ≡ b → resolved rs p ≡ p → resolved rs q ≡ q → resolved rs t ≡ t
  unchanged_arrow a b p q e f g first second = unchanged _ (e ∙ ap₂ ty.Arrow (sym f) (sym g)) (resolved_arrow rs p q ∙ ap₂ ty.Arrow first second)
