-- An inverse pair stays one where its terms are converted.
use Rattle.std.proofs.Common.{[], ◌∷◌, refl}
use Rattle.type_core.specs.declared.ty.Ty.{Ty}
use Rattle.type_core.specs.declared.ty.Ty.TheVariants as ty
use Rattle.conv_terms.specs.declared.term.Term.{Term}
use Rattle.conv_typing.specs.Typing.{HasType}
use Rattle.conv_typing.specs.Conversion.{Converts}
use Rattle.conv_typing.specs.InversePair.{IsInversePair, composed}
use Rattle.conv_typing.proofs.TypesAlone.{argument_is_type}
use Rattle.conv_typing.proofs.Kept.{converts_typed}
use Rattle.conv_typing.proofs.Congruence.{shifted_converts}

composed_converts : (a b : Ty) (f g h k : Term) → Converts [] (ty.Arrow a b) f g → Converts [] (ty.Arrow b a) h k → Converts [] (ty.Arrow a a) (composed a h f) (composed a k g)
composed_converts a b f g h k one two =
    let is = argument_is_type a b (converts_typed one).0 in
    Converts.lam a _ _ is
    (Converts.app _ _ _ _ (shifted_converts [] (a ∷ []) [] (ty.Arrow b a) h k two)
    (Converts.app _ _ _ _ (shifted_converts [] (a ∷ []) [] (ty.Arrow a b) f g one) (Converts.same (HasType.var 0 refl is))))

pub inverse_pair_converted : (a b : Ty) (to from other back : Term) → IsInversePair a b to from → Converts [] (ty.Arrow a b) to other → Converts [] (ty.Arrow b a) from back → IsInversePair a b other back
inverse_pair_converted a b to from other back pair k l = record {
  to_typed = (converts_typed k).1;
  from_typed = (converts_typed l).1;
  undone = Converts.chain (Converts.back (composed_converts a b to other from back k l)) pair.undone;
  redone = Converts.chain (Converts.back (composed_converts b a from back to other l k)) pair.redone;
}
