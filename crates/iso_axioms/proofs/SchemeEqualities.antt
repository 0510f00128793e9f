-- Equality of schemes is an equivalence where that of types is one and is kept by renaming.
use Rattle.std.proofs.Common.{◌≡◌, refl, sym, ap, ◌∙◌, subst}
use Rattle.type_core.specs.declared.ty.Ty.{Ty}
use Rattle.type_core.specs.declared.ty.Scheme.{Scheme}
use Rattle.type_core.specs.Renaming.{AreEqualUpToNames, Renames, Renaming, renamed}
use Rattle.type_core.specs.Types.{IsType}
use Rattle.type_core.specs.Variables.{variables}
use Rattle.type_core.proofs.Renamed.{renamed_kept, renamed_renamed}
use Rattle.iso_axioms.specs.SchemeEquality.{AreEqualIn, IsEquivalence}
use Rattle.iso_axioms.proofs.Extended.{extended, extended_keeps_marks, extended_one_to_one, inverse, inverse_keeps_marks, inverse_one_to_one, inverse_undoes, renamed_extended}

module _ (Equal : Ty → Ty → Type 0)
    (turned : (a b : Ty) → Equal a b → Equal b a)
    (joined : (a b c : Ty) → Equal a b → Equal b c → Equal a c)
    (kept : (r : Renaming) (a b : Ty) → Equal a b → Equal (renamed r a) (renamed r b)) where
  scheme_symmetric : (a b : Scheme) → AreEqualIn Equal a b → AreEqualIn Equal b a
  scheme_symmetric a b e =
      let vs = variables a.body in
      let one = e.2.one_to_one in
      let back : Renaming = inverse e.0 vs one in
      let undone : renamed back e.1 ≡ a.body = ap (renamed back) (sym e.2.makes) ∙ inverse_undoes e.0 vs one a.body (λ v o. o) in (
        back,
        renamed back b.body,
        record {
          one_to_one = λ v w p q. inverse_one_to_one e.0 vs one v w;
          keeps_marks = λ v p. inverse_keeps_marks e.0 vs one e.2.keeps_marks v;
          makes = refl;
        },
        subst (Equal (renamed back b.body)) undone (kept back b.body e.1 (turned e.1 b.body e.3)),
      )

  -- the second renaming moves the variables that only the first type has out of the way
  scheme_transitive : (a b c : Scheme) → AreEqualIn Equal a b → AreEqualIn Equal b c → AreEqualIn Equal a c
  scheme_transitive a b c e f =
      let vs = variables b.body in
      let s : Renaming = extended f.0 vs in
      let both : Renaming = λ v. s (e.0 v) in
      let second : renamed s b.body ≡ f.1 = renamed_extended f.0 vs b.body (λ v o. o) ∙ f.2.makes in (
        both,
        renamed s e.1,
        record {
          one_to_one = λ v w p q same. e.2.one_to_one v w p q (extended_one_to_one f.0 vs f.2.one_to_one (e.0 v) (e.0 w) same);
          keeps_marks = λ v p. extended_keeps_marks f.0 vs f.2.keeps_marks (e.0 v) ∙ e.2.keeps_marks v p;
          makes = sym (renamed_renamed s e.0 a.body) ∙ ap (renamed s) e.2.makes;
        },
        joined (renamed s e.1) f.1 c.body (subst (Equal (renamed s e.1)) second (kept s e.1 b.body e.3)) f.3,
      )

  pub are_equivalence : ((a : Ty) → IsType a → Equal a a) → IsEquivalence (AreEqualIn Equal)
  are_equivalence itself = record {
    reflexive = λ a p. (λ v. v, a.body, record { one_to_one = λ v w p q e. e; keeps_marks = λ v p. refl; makes = renamed_kept a.body }, itself a.body p);
    symmetric = scheme_symmetric;
    transitive = scheme_transitive;
  }

-- the theory of identity
pub of_identity : (a b : Scheme) → AreEqualIn ◌≡◌ a b → AreEqualUpToNames a b
of_identity a b e = (e.0, subst (Renames e.0 a.body) e.3 e.2)

pub in_identity : (a b : Scheme) → AreEqualUpToNames a b → AreEqualIn ◌≡◌ a b
in_identity a b e = (e.0, b.body, e.1, refl)

pub names_equivalence : IsEquivalence AreEqualUpToNames
names_equivalence =
    let E : IsEquivalence (AreEqualIn ◌≡◌) = are_equivalence ◌≡◌ (λ a b. sym) (λ a b c e f. e ∙ f) (λ r a b e. ap (renamed r) e) (λ a p. refl) in
    record {
      reflexive = λ a p. of_identity a a (E.reflexive a p);
      symmetric = λ a b e. of_identity b a (E.symmetric a b (in_identity a b e));
      transitive = λ a b c e f. of_identity a c (E.transitive a b c (in_identity a b e) (in_identity b c f));
    }
