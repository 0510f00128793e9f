-- The identity of a type undoes itself.
use Rattle.std.proofs.Common.{◌≡◌, [], ◌∷◌, refl, sym, ap, ◌∙◌, subst₂}
use Rattle.type_core.specs.declared.ty.Ty.{Ty}
use Rattle.type_core.specs.declared.ty.Ty.TheVariants as ty
use Rattle.type_core.specs.Types.{IsType}
use Rattle.conv_terms.specs.declared.term.Term.{Term}
use Rattle.conv_terms.specs.declared.term.Term.TheVariants as term
use Rattle.conv_terms.specs.Shifting.{shifted}
use Rattle.conv_terms.specs.Substitution.{image, substituted}
use Rattle.conv_terms.proofs.Equations.{shifted_var, shifted_lam, traversed_var}
use Rattle.conv_terms.proofs.Moving.{image_same, shifted_by_none}
use Rattle.conv_typing.specs.Typing.{HasType}
use Rattle.conv_typing.specs.Conversion.{Converts}
use Rattle.conv_typing.specs.InversePair.{IsInversePair, identity, composed}
use Rattle.conv_typing.proofs.TypesAlone.{has_type_is_type}
use Rattle.conv_typing.proofs.Kept.{converts_typed}

identity_typed : (a : Ty) → IsType a → HasType [] (identity a) (ty.Arrow a a)
identity_typed a is = HasType.lam a (term.Var 0) is (HasType.var 0 refl is)

-- the identity in a context of one variable
shifted_identity : (a : Ty) → shifted 0 1 (identity a) ≡ term.Lam a (term.Var 1)
shifted_identity a = shifted_lam 0 1 a (term.Var 0) ∙ ap (term.Lam a) (shifted_var 0 1 0)

put_alone : (e : Term) → substituted 1 e (term.Var 1) ≡ e
put_alone e = traversed_var (image 1 e) 1 0 ∙ image_same 1 e 0 ∙ shifted_by_none e 1

applied : (a : Ty) (e : Term) → HasType (a ∷ []) e a → Converts (a ∷ []) a (term.App (shifted 0 1 (identity a)) e) e
applied a e k = subst₂ (λ f r. Converts (a ∷ []) a (term.App f e) r) (sym (shifted_identity a)) (put_alone e) (Converts.beta a (term.Var 1) e (HasType.var 1 refl (has_type_is_type k)) k)

twice : (a : Ty) → IsType a → Converts [] (ty.Arrow a a) (composed a (identity a) (identity a)) (identity a)
twice a is =
    let once = applied a (term.Var 0) (HasType.var 0 refl is) in
    Converts.lam a _ _ is (Converts.chain (applied a _ (converts_typed once).0) once)

pub identities_inverse : (a : Ty) → IsType a → IsInversePair a a (identity a) (identity a)
identities_inverse a is = record { to_typed = identity_typed a is; from_typed = identity_typed a is; undone = twice a is; redone = twice a is }

pub turned_round : (a b : Ty) (to from : Term) → IsInversePair a b to from → IsInversePair b a from to
turned_round a b to from pair = record { to_typed = pair.from_typed; from_typed = pair.to_typed; undone = pair.redone; redone = pair.undone }
