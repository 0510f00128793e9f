-- Fields of record types.
use Rattle.std.proofs.Common.{◌≡◌, ℕ, ◌+◌, ◌<◌, true, false, List, [], ◌∷◌, ◌++◌, map, length, drop, get_or, Result, Ok, Err, sym, ap, ◌∙◌, subst, rules}
use Rattle.ty_parser.specs.declared.tree.FieldExp.{FieldExp}
use Rattle.ty_parser.specs.declared.tree.TyExp.TheFolds.{fold_out-FieldExp}
use Rattle.type_core.specs.declared.ty.Field.{Field}
use Rattle.type_core.specs.declared.ty.Ty.{Ty}
use Rattle.elab_rules.specs.declared.refusal.ElabRefusal.{ElabRefusal}
use Rattle.elab_rules.specs.declared.refusal.Why.TheVariants.{Duplicate}
use Rattle.elab_rules.specs.Outcome.{Outcome, GivesWith}
use Rattle.elab_types.specs.Outcome.{and_then, checked, failed}
use Rattle.elab_types.specs.Sources.{text_at}
use Rattle.elab_rules.specs.States.{State}
use Rattle.elab_rules.specs.Types.{Place, field_typed, fields_typed, typed}
use Rattle.elab_types.specs.Records.{is_new_label}
use Rattle.elab_types.proofs.Lists.{dropped}
use Rattle.elab_rules.proofs.Outcomes.{fails_then}

-- ---- one field
field_is : (part : FieldExp) → field_typed part ≡ (part.label, typed part.ty)
field_is part = search (rules, fold_out-FieldExp)

fields_next : (p : Place) (done : List Field) (parts : List FieldExp) (i : ℕ) (part d : FieldExp) (s : State) → i < length parts → part ≡ get_or parts i d
    → fields_typed p done (map field_typed (drop i parts)) s
    ≡ checked (is_new_label (text_at p.site.texts part.label) done) Duplicate part.label
    (and_then (typed part.ty p s) (λ r. fields_typed p (done ++ record { label = text_at p.site.texts part.label; ty = r.0 } ∷ []) (map field_typed (drop (i + 1) parts)) r.1))
fields_next p done parts i part d s within is =
    ap (λ rest. fields_typed p done (map field_typed rest) s) (dropped parts i part d within is)
    ∙ ap (λ first. fields_typed p done (first ∷ map field_typed (drop (i + 1) parts)) s) (field_is part)

pub fields_twice : (p : Place) (done : List Field) (parts : List FieldExp) (i : ℕ) (part d : FieldExp) (s : State) (text : List ℕ) (whole : Outcome (List Field × State)) → i < length parts → part ≡ get_or parts i d
    → text ≡ text_at p.site.texts part.label → is_new_label text done ≡ false → fields_typed p done (map field_typed (drop i parts)) s ≡ whole → whole ≡ failed Duplicate part.label
fields_twice p done parts i part d s text whole within is t old e =
    sym e ∙ fields_next p done parts i part d s within is
    ∙ ap (λ new. checked new Duplicate part.label (and_then (typed part.ty p s) (λ r. fields_typed p (done ++ record { label = text_at p.site.texts part.label; ty = r.0 } ∷ []) (map field_typed (drop (i + 1) parts)) r.1)))
    (ap (λ l. is_new_label l done) (sym t) ∙ old)

fields_on : (p : Place) (done : List Field) (parts : List FieldExp) (i : ℕ) (part d : FieldExp) (s : State) (text : List ℕ) (whole : Outcome (List Field × State)) → i < length parts → part ≡ get_or parts i d
    → text ≡ text_at p.site.texts part.label → is_new_label text done ≡ true → fields_typed p done (map field_typed (drop i parts)) s ≡ whole
    → and_then (typed part.ty p s) (λ r. fields_typed p (done ++ record { label = text_at p.site.texts part.label; ty = r.0 } ∷ []) (map field_typed (drop (i + 1) parts)) r.1) ≡ whole
fields_on p done parts i part d s text whole within is t new e =
    sym (fields_next p done parts i part d s within is
    ∙ ap (λ b. checked b Duplicate part.label (and_then (typed part.ty p s) (λ r. fields_typed p (done ++ record { label = text_at p.site.texts part.label; ty = r.0 } ∷ []) (map field_typed (drop (i + 1) parts)) r.1)))
    (ap (λ l. is_new_label l done) (sym t) ∙ new))
    ∙ e

pub fields_fail : (p : Place) (done : List Field) (parts : List FieldExp) (i : ℕ) (part d : FieldExp) (s t : State) (text : List ℕ) (whole : Outcome (List Field × State)) (e : ElabRefusal) (result : Result (List Field) ElabRefusal)
    → i < length parts → part ≡ get_or parts i d → text ≡ text_at p.site.texts part.label → is_new_label text done ≡ true → fields_typed p done (map field_typed (drop i parts)) s ≡ whole
    → result ≡ Err e → GivesWith {A = Ty} (typed part.ty p s) (Err e) t → GivesWith whole result t
fields_fail p done parts i part d s t text whole e result within is l new w handed gives =
    subst (λ r. GivesWith whole r t) (sym handed)
    (subst (λ o. GivesWith {A = List Field} o (Err e) t) (fields_on p done parts i part d s text whole within is l new w) (fails_then (typed part.ty p s) _ e t t gives))

pub fields_more : (p : Place) (done pushed : List Field) (parts : List FieldExp) (i : ℕ) (part d : FieldExp) (s t : State) (text label : List ℕ) (ty : Ty) (whole : Outcome (List Field × State)) → i < length parts
    → part ≡ get_or parts i d → text ≡ text_at p.site.texts part.label → is_new_label text done ≡ true → typed part.ty p s ≡ Ok (ty, t) → label ≡ text → pushed ≡ done ++ record { label = label; ty = ty } ∷ []
    → fields_typed p done (map field_typed (drop i parts)) s ≡ whole → fields_typed p pushed (map field_typed (drop (i + 1) parts)) t ≡ whole
fields_more p done pushed parts i part d s t text label ty whole within is l new ok same push e =
    ap (λ fields. fields_typed p fields (map field_typed (drop (i + 1) parts)) t) (push ∙ ap (λ x. done ++ record { label = x; ty = ty } ∷ []) (same ∙ l))
    ∙ sym (ap (λ o. and_then o (λ r. fields_typed p (done ++ record { label = text_at p.site.texts part.label; ty = r.0 } ∷ []) (map field_typed (drop (i + 1) parts)) r.1)) ok)
    ∙ fields_on p done parts i part d s text whole within is l new e
