-- Where types obey the meetings of a word, the factors of the pattern with these types agree with those that are split.
use Rattle.std.proofs.Common.{◌≡◌, ℕ, List, [], ◌∷◌, ◌++◌, map, refl, sym, ap, ap₂, ◌∙◌, subst}
use Rattle.type_core.specs.declared.ty.NameId.{NameId}
use Rattle.type_core.specs.declared.ty.VarId.{VarId}
use Rattle.type_core.specs.declared.ty.Ty.{Ty}
use Rattle.type_core.specs.declared.ty.Field.{Field}
use Rattle.type_core.specs.declared.ty.Ty.TheVariants as ty
use Rattle.type_core.specs.declared.ty.Ty.TheVariants.{rolls-Var, rolls-Con, rolls-Rec, rolls-Tup, rolls-Arrow}
use Rattle.type_core.specs.declared.ty.Ty.TheOpen.{Ty-F, Var, Con, Rec, Tup, Arrow}
use Rattle.type_core.specs.declared.ty.Ty.TheViews.{out-Ty, roll-Ty, roll-out-Ty}
use Rattle.type_core.specs.Lists.{concatenated}
use Rattle.type_core.specs.Substitution.{field_substituted, substituted}
use Rattle.type_core.proofs.Trees.{EachOf, substituted_var, substituted_con, substituted_rec, substituted_tup, substituted_arrow, substituted_field}
use Rattle.iso_axioms.specs.Axioms.{◌⇒◌}
use Rattle.iso_normal.specs.declared.factor.Factor.{Factor}
use Rattle.iso_normal.specs.declared.factor.Factor.TheVariants as factor
use Rattle.iso_normal.specs.Agreement.{Agree}
use Rattle.iso_normal.specs.Factors.{AreFactors, factors, factors_of_arrow, none}
use Rattle.iso_normal.proofs.Agreeing.{agree_append, agree_arrow, agree_of_eq, agree_refl, agree_sym, agree_trans}
use Rattle.iso_normal.proofs.Readings.{factors_con, factors_rec, factors_tup, factors_arrow}
use Rattle.iso_normal.proofs.Reified.{arrow_factors}
use Rattle.iso_normal.proofs.Sound.{arrow_curried}
use Rattle.linear_match.specs.Meetings.{MeetEach, MeetFields, Meeting, Meets, ObeysAll, fields_more, fields_none, meet_more, meet_none, meets_application, meets_arrow, meets_record, meets_tuple, meets_variable, type_for}
use Rattle.linear_match.specs.Splits.{SplitEach, Splits, split_application, split_arrow, split_more, split_none, split_other, split_record, split_tuple, split_variable}
use Rattle.linear_match.proofs.Dealing.{dealt_agrees, sorted_agrees}
use Rattle.linear_match.proofs.Wholes.{dealt_all, factors_of_each, is_atom, sorted_all, whole}

-- a type by its level
pub typed : {t : Ty} {x : Ty-F Ty Field} → out-Ty t ≡ x → t ≡ roll-Ty x
typed {t} e = sym (roll-out-Ty t) ∙ ap roll-Ty e

same_field : (p t : Field) {u : Ty} → p.label ≡ t.label → u ≡ t.ty
    → ◌≡◌ {A = Field} (record { label = p.label; ty = u }) t
same_field p t e f = λ i. record { label = e i; ty = f i }

module _ (by : List Ty) where
  -- the pattern with these types, by its level
  abbrev pub given : Ty-F Ty Field → Ty
  given x = substituted by (roll-Ty x)

  pub given_out : (p : Ty) → given (out-Ty p) ≡ substituted by p
  given_out p = ap (substituted by) (roll-out-Ty p)

  pub given_var : (v : VarId) → given (Var v) ≡ type_for by v
  given_var v = ap (substituted by) (rolls-Var v) ∙ substituted_var by v

  pub given_con : (name : NameId) (ps : List Ty) → given (Con name ps) ≡ ty.Con name (map (substituted by) ps)
  given_con name ps = ap (substituted by) (rolls-Con name ps) ∙ substituted_con by name ps

  pub given_rec : (ps : List Field) → given (Rec ps) ≡ ty.Rec (map (field_substituted by) ps)
  given_rec ps = ap (substituted by) (rolls-Rec ps) ∙ substituted_rec by ps

  pub given_tup : (ps : List Ty) → given (Tup ps) ≡ ty.Tup (map (substituted by) ps)
  given_tup ps = ap (substituted by) (rolls-Tup ps) ∙ substituted_tup by ps

  pub given_arrow : (p q : Ty) → given (Arrow p q) ≡ (substituted by p ⇒ substituted by q)
  given_arrow p q = ap (substituted by) (rolls-Arrow p q) ∙ substituted_arrow by p q

  -- and its factors
  pub con_alone : (name : NameId) (ps : List Ty)
      → factors (given (Con name ps)) ≡ factor.Atom (given (Con name ps)) ∷ []
  con_alone name ps = ap factors (given_con name ps) ∙ factors_con name _
      ∙ ap (λ t. factor.Atom t ∷ []) (sym (given_con name ps))

  pub rec_alone : (ps : List Field) → factors (given (Rec ps)) ≡ factor.Atom (given (Rec ps)) ∷ []
  rec_alone ps = ap factors (given_rec ps) ∙ factors_rec _ ∙ ap (λ t. factor.Atom t ∷ []) (sym (given_rec ps))

  pub tup_parts : (ps : List Ty) → factors (given (Tup ps)) ≡ concatenated (map factors (map (substituted by) ps))
  tup_parts ps = ap factors (given_tup ps) ∙ factors_tup _

  pub arrow_parts : (p q : Ty)
      → factors (given (Arrow p q)) ≡ factors_of_arrow (factors (substituted by p)) (factors (substituted by q))
  arrow_parts p q = ap factors (given_arrow p q) ∙ factors_arrow _ _

  -- meetings of two parts
  pub obeys_both : (ms ns : List Meeting) → ObeysAll by ms → ObeysAll by ns → ObeysAll by (ms ++ ns)
  obeys_both [] ns o q = q
  obeys_both (m ∷ ms) ns o q = (o.0, obeys_both ms ns o.1 q)

  pub obeys_parts : (ms ns : List Meeting) → ObeysAll by (ms ++ ns) → ObeysAll by ms × ObeysAll by ns
  obeys_parts [] ns o = (tt, o)
  obeys_parts (m ∷ ms) ns o = ((o.0, (obeys_parts ms ns o.1).0), (obeys_parts ms ns o.1).1)

  -- what is met is the pattern with these types
  mutual
    pub met : {x : Ty-F Ty Field} {t : Ty} {ms : List Meeting} → Meets x t ms → ObeysAll by ms → given x ≡ t
    met (meets_variable v t) o = given_var v ∙ o.0
    met (meets_application {ps} {ts} name e each) o = given_con name ps ∙ ap (ty.Con name) (all_met each o)
        ∙ sym (typed e ∙ rolls-Con name ts)
    met (meets_record {ps} {ts} e each) o = given_rec ps ∙ ap ty.Rec (fields_met each o) ∙ sym (typed e ∙ rolls-Rec ts)
    met (meets_tuple {ps} {ts} e each) o = given_tup ps ∙ ap ty.Tup (all_met each o) ∙ sym (typed e ∙ rolls-Tup ts)
    met (meets_arrow {p} {q} {u} {v} {ms} {ns} e m n) o = let os = obeys_parts ms ns o in
        given_arrow p q ∙ ap₂ ◌⇒◌ (sym (given_out p) ∙ met m os.0) (sym (given_out q) ∙ met n os.1)
        ∙ sym (typed e ∙ rolls-Arrow u v)

    all_met : {ps ts : List Ty} {ms : List Meeting} → MeetEach ps ts ms → ObeysAll by ms → map (substituted by) ps ≡ ts
    all_met meet_none o = refl
    all_met (meet_more {p} {ms} {ns} m each) o = let os = obeys_parts ms ns o in
        ap₂ ◌∷◌ (sym (given_out p) ∙ met m os.0) (all_met each os.1)

    fields_met : {ps ts : List Field} {ms : List Meeting} → MeetFields ps ts ms → ObeysAll by ms
        → map (field_substituted by) ps ≡ ts
    fields_met fields_none o = refl
    fields_met (fields_more {p} {t} {ms} {ns} l m each) o = let os = obeys_parts ms ns o in
        ap₂ ◌∷◌ (substituted_field by p ∙ same_field p t l (sym (given_out p.ty)
        ∙ met m os.0)) (fields_met each os.1)

  -- what is split agrees with the factors of the pattern with these types
  at_type : (p : Ty) {fs : List Factor} → Agree (factors (given (out-Ty p))) fs → Agree (factors (substituted by p)) fs
  at_type p {fs} a = subst (λ t. Agree (factors t) fs) (given_out p) a

  one_atom_agrees : (x : Ty-F Ty Field) {f : Factor} {t : Ty} → factors (given x) ≡ factor.Atom (given x) ∷ []
      → given x ≡ t → f ≡ factor.Atom t → Agree (factors (given x)) (f ∷ [])
  one_atom_agrees x e i j = agree_of_eq (e ∙ ap (λ t. factor.Atom t ∷ []) i ∙ ap (λ g. g ∷ []) (sym j))

  mutual
    pub follows : {x : Ty-F Ty Field} {fs : List Factor} {word : List ℕ} {ms : List Meeting} → AreFactors fs
        → Splits x fs word ms → ObeysAll by ms → Agree (factors (given x)) fs
    follows are (split_variable v fs) o = subst (λ t. Agree (factors t) fs) (sym (given_var v)) o.0
    follows are (split_application {ps} name e m) o =
        one_atom_agrees (Con name ps) (con_alone name ps) (met m o) (is_atom e)
    follows are (split_record {ps} e m) o = one_atom_agrees (Rec ps) (rec_alone ps) (met m o) (is_atom e)
    follows are (split_tuple {ps} {fs} d each) o =
        agree_trans (agree_of_eq (tup_parts ps))
        (agree_trans (all_follow (dealt_all AreFactors factors_of_each d are) each o) (agree_sym (dealt_agrees d)))
    follows are (split_arrow {p} {q} {results} {sent} {kept} {ms} {ns} e sorted a b) o =
        let f = whole e are in
        let parts = sorted_all AreFactors factors_of_each sorted f.left in
        let os = obeys_parts ms ns o in
        agree_trans (agree_of_eq (arrow_parts p q))
        (agree_trans (agree_arrow (at_type p (follows parts.0 a os.0))
        (at_type q (follows (arrow_factors parts.1 f.right) b os.1)))
        (agree_trans (agree_of_eq (sym (arrow_curried sent kept results)))
        (agree_trans (agree_arrow (agree_sym (sorted_agrees sorted)) (agree_refl results)) (agree_of_eq f.again))))
    follows are (split_other {p} {q} {ms} {ns} n a b) o =
        let os = obeys_parts ms ns o in
        agree_trans (agree_of_eq (arrow_parts p q))
        (agree_arrow (at_type p (follows none a os.0)) (at_type q (follows are b os.1)))

    all_follow : {ps : List Ty} {pieces : List (List Factor)} {word : List ℕ} {ms : List Meeting}
        → EachOf AreFactors pieces → SplitEach ps pieces word ms → ObeysAll by ms
        → Agree (concatenated (map factors (map (substituted by) ps))) (concatenated pieces)
    all_follow are split_none o = agree_refl []
    all_follow are (split_more {p} {ms} {ns} a each) o = let os = obeys_parts ms ns o in
        agree_append (at_type p (follows are.0 a os.0)) (all_follow are.1 each os.1)
