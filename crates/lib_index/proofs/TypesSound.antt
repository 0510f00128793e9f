-- A type that is read is spelled so, and its variables are those that are told.
use Rattle.std.proofs.Common.{◌≡◌, ℕ, zero, suc, Bool, false, List, [], ◌∷◌, ◌++◌, slice_get, Option, Some, None, refl, sym, ap, subst, ◌∙◌}
use Rattle.lib_index.specs.declared.type_reading.Form.{Form}
use Rattle.lib_index.specs.declared.type_reading.Form.TheVariants as form
use Rattle.lib_index.specs.IndexText.{bytes_text, field_text, list_text, number_text, type_text}
use Rattle.lib_index.specs.Reading.{◌>>=◌, Reader, Rest, application_at, arrow_at, bytes_at, coded, field_at, form_of, list_at, many, number_at, of_form, record_at, spent, tuple_at, type_at, variable_at, variable_of, whole_type_at}
use Rattle.lib_index.proofs.Fields.{ahead, Anything, IsBytes, IsSound, Takes, appended, bind_some, bytes_sound, coded_sound, number_sound, some_is, spent_rest}
use Rattle.lib_index.proofs.Lists.{list_sound, many_sound, texts}
use Rattle.lib_index.proofs.EachOf.{each_appended, each_concatenated}
use Rattle.lib_index.proofs.TypeTexts.{text_arrow, text_con, text_field, text_rec, text_tup, text_var}
use Rattle.type_core.specs.declared.names.TypeName.{TypeName}
use Rattle.type_core.specs.declared.ty.Field.{Field}
use Rattle.type_core.specs.declared.ty.Ty.{Ty}
use Rattle.type_core.specs.declared.ty.Ty.TheVariants as ty
use Rattle.type_core.specs.declared.ty.VarId.{VarId}
use Rattle.type_core.specs.Variables.{field_variables, variables}
use Rattle.type_core.proofs.Trees.{EachOf, variables_arrow, variables_con, variables_field, variables_rec, variables_tup, variables_var}

-- the variable is the one that its number tells
abbrev pub IsTold : Option (List Bool) → VarId → Type 0
IsTold marks v = variable_of marks v.n ≡ Some v

-- each variable of the type is
abbrev pub AreTold : Option (List Bool) → Ty → Type 0
AreTold marks t = EachOf (IsTold marks) (variables t)

abbrev pub AreFieldTold : Option (List Bool) → Field → Type 0
AreFieldTold marks field = EachOf (IsTold marks) (field_variables field)

nothing_good : (xs : List Ty) → EachOf Anything xs
nothing_good [] = tt
nothing_good (x ∷ xs) = (tt, nothing_good xs)

no_fields_good : (xs : List Field) → EachOf Anything xs
no_fields_good [] = tt
no_fields_good (x ∷ xs) = (tt, no_fields_good xs)

-- the byte of a form
abbrev pub form_byte : Form → ℕ
form_byte form.Variable = 0
form_byte form.Application = 1
form_byte form.Tuple = 2
form_byte form.Arrow = 3
form_byte form.Record = 4

form_is : (b : ℕ) (f : Form) → form_of b ≡ Some f → b ≡ form_byte f
form_is zero f e = ap form_byte (some_is form.Variable f e)
form_is (suc zero) f e = ap form_byte (some_is form.Application f e)
form_is (suc (suc zero)) f e = ap form_byte (some_is form.Tuple f e)
form_is (suc (suc (suc zero))) f e = ap form_byte (some_is form.Arrow f e)
form_is (suc (suc (suc (suc zero)))) f e = ap form_byte (some_is form.Record f e)
form_is (suc (suc (suc (suc (suc b))))) f e = absurd cc

pub form_again : (f : Form) → form_of (form_byte f) ≡ Some f
form_again form.Variable = refl
form_again form.Application = refl
form_again form.Tuple = refl
form_again form.Arrow = refl
form_again form.Record = refl

behind : (b : ℕ) (from text to whole : List ℕ) → whole ≡ b ∷ text → from ≡ text ++ to → b ∷ from ≡ whole ++ to
behind b from text to whole e f = ap (λ t. b ∷ t) f ∙ ap (λ t. t ++ to) (sym e)

marked : (n : ℕ) (o : Option Bool) (v : VarId) → (o >>= λ mark. Some (record { n = n; eq = mark })) ≡ Some v → v.n ≡ n
marked n (Some mark) v e = ap (λ (w : VarId). w.n) (sym (some_is (record { n = n; eq = mark }) v e))
marked n None v e = absurd cc

number_kept : (marks : Option (List Bool)) (n : ℕ) (v : VarId) → variable_of marks n ≡ Some v → v.n ≡ n
number_kept None n v e = ap (λ (w : VarId). w.n) (sym (some_is (record { n = n; eq = false }) v e))
number_kept (Some marks) n v e = marked n (slice_get marks n) v e

module _ (names : List TypeName) (marks : Option (List Bool)) where
  -- behind the byte of its form
  abbrev IsSoundBehind : ℕ → Reader Ty → Type 0
  IsSoundBehind b read = (from : Rest) (t : Ty) (to : Rest) → IsBytes from.bytes → read from ≡ Some (t, to)
      → Takes type_text (AreTold marks) Anything (b ∷ from.bytes) to.bytes t

  given : (b : ℕ) (from : List ℕ) (made : Ty) (after : Rest) (t : Ty) (to : Rest) → ◌≡◌ {A = Option (Ty × Rest)}
      (Some (made, after)) (Some (t, to))
      → Takes type_text (AreTold marks) Anything (b ∷ from) after.bytes made → Takes type_text
      (AreTold marks) Anything (b ∷ from) to.bytes t
  given b from made after t to e taken = subst (λ (p : Ty × Rest). Takes type_text (AreTold marks) Anything
      (b ∷ from) p.1.bytes p.0) (some_is (made, after) (t, to) e) taken

  variable_sound : IsSoundBehind 0 (variable_at marks)
  unfolding variable_at
  variable_sound from t to fits e =
      let b = bind_some (number_at from) (t, to) e in
      let c = bind_some (variable_of marks b.0.0) (t, to) b.2 in
      let s = number_sound from b.0.0 b.0.1 fits b.1 in
      let n-is = number_kept marks b.0.0 c.0 c.1 in
      let told : IsTold marks c.0 = ap (variable_of marks) n-is ∙ c.1 in
      given 0 from.bytes (ty.Var c.0) b.0.1 t to c.2 (record {
        rest = s.rest;
        fact = subst (EachOf (IsTold marks)) (sym (variables_var c.0)) (told, tt);
        spelled = λ _. behind 0 from.bytes (number_text b.0.0) b.0.1.bytes (type_text (ty.Var c.0)) (text_var c.0
            ∙ ap (λ n. 0 ∷ number_text n) n-is) (s.spelled tt);
      })

  module _ (part : Reader Ty) (sound : IsSound part type_text (AreTold marks) Anything) where
    application_sound : IsSoundBehind 1 (application_at names part)
    unfolding application_at
    application_sound from t to fits e =
        let b = bind_some (number_at from) (t, to) e in
        let c = bind_some (slice_get names b.0.0) (t, to) b.2 in
        let d = bind_some (many part c.0.arity b.0.1) (t, to) c.2 in
        let s = number_sound from b.0.0 b.0.1 fits b.1 in
        let u = many_sound part type_text (AreTold marks) Anything sound c.0.arity b.0.1 d.0.0 d.0.1 s.rest d.1 in
        given 1 from.bytes (ty.Con (record { 0 = b.0.0 }) d.0.0) d.0.1 t to d.2 (record {
          rest = u.rest;
          fact = subst (EachOf (IsTold marks)) (sym (variables_con (record { 0 = b.0.0 }) d.0.0)) (each_concatenated
              (IsTold marks) variables d.0.0 u.fact.1);
          spelled = λ _. behind 1 from.bytes (number_text b.0.0 ++ texts type_text d.0.0) d.0.1.bytes _
              (text_con (record { 0 = b.0.0 }) d.0.0)
              (appended from.bytes (number_text b.0.0) b.0.1.bytes (texts type_text d.0.0) d.0.1.bytes (s.spelled tt)
              (u.spelled (nothing_good d.0.0)));
        })

    tuple_sound : IsSoundBehind 2 (tuple_at part)
    unfolding tuple_at
    tuple_sound from t to fits e =
        let b = bind_some (list_at part from) (t, to) e in
        let u = list_sound part type_text (AreTold marks) Anything sound from b.0.0 b.0.1 fits b.1 in
        given 2 from.bytes (ty.Tup b.0.0) b.0.1 t to b.2 (record {
          rest = u.rest;
          fact = subst (EachOf (IsTold marks)) (sym (variables_tup b.0.0)) (each_concatenated
              (IsTold marks) variables b.0.0 u.fact.1);
          spelled = λ _. behind 2 from.bytes (list_text type_text b.0.0) b.0.1.bytes _ (text_tup b.0.0)
              (u.spelled (nothing_good b.0.0));
        })

    arrow_sound : IsSoundBehind 3 (arrow_at part)
    unfolding arrow_at
    arrow_sound from t to fits e =
        let b = bind_some (part from) (t, to) e in
        let c = bind_some (part b.0.1) (t, to) b.2 in
        let s = sound from b.0.0 b.0.1 fits b.1 in
        let u = sound b.0.1 c.0.0 c.0.1 s.rest c.1 in
        given 3 from.bytes (ty.Arrow b.0.0 c.0.0) c.0.1 t to c.2 (record {
          rest = u.rest;
          fact = subst (EachOf (IsTold marks)) (sym (variables_arrow b.0.0 c.0.0)) (each_appended (IsTold marks)
              (variables b.0.0) (variables c.0.0) s.fact u.fact);
          spelled = λ _. behind 3 from.bytes (type_text b.0.0 ++ type_text c.0.0) c.0.1.bytes _ (text_arrow b.0.0 c.0.0)
              (appended from.bytes (type_text b.0.0) b.0.1.bytes (type_text c.0.0) c.0.1.bytes (s.spelled tt)
              (u.spelled tt));
        })

    field_sound : IsSound (field_at part) field_text (AreFieldTold marks) Anything
    unfolding field_at
    field_sound from field to fits e =
        let b = bind_some (bytes_at from) (field, to) e in
        let c = bind_some (part b.0.1) (field, to) b.2 in
        let s = bytes_sound from b.0.0 b.0.1 fits b.1 in
        let u = sound b.0.1 c.0.0 c.0.1 s.rest c.1 in
        let made : Field = record { label = b.0.0; ty = c.0.0 } in
        let taken : Takes field_text (AreFieldTold marks) Anything from.bytes c.0.1.bytes made = record {
          rest = u.rest;
          fact = subst (EachOf (IsTold marks)) (sym (variables_field made)) u.fact;
          spelled = λ _. appended from.bytes (bytes_text b.0.0) b.0.1.bytes (type_text c.0.0) c.0.1.bytes
              (s.spelled tt) (u.spelled tt) ∙ ap (λ text. text ++ c.0.1.bytes) (sym (text_field made));
        } in
        subst (λ (p : Field × Rest). Takes field_text (AreFieldTold marks) Anything from.bytes p.1.bytes p.0)
        (some_is (made, c.0.1) (field, to) c.2) taken

    record_sound : IsSoundBehind 4 (record_at part)
    unfolding record_at
    record_sound from t to fits e =
        let b = bind_some (list_at (field_at part) from) (t, to) e in
        let u = list_sound (field_at part) field_text
        (AreFieldTold marks) Anything field_sound from b.0.0 b.0.1 fits b.1 in
        given 4 from.bytes (ty.Rec b.0.0) b.0.1 t to b.2 (record {
          rest = u.rest;
          fact = subst (EachOf (IsTold marks)) (sym (variables_rec b.0.0)) (each_concatenated
              (IsTold marks) field_variables b.0.0 u.fact.1);
          spelled = λ _. behind 4 from.bytes (list_text field_text b.0.0) b.0.1.bytes _ (text_rec b.0.0)
              (u.spelled (no_fields_good b.0.0));
        })

    of_form_sound : (f : Form) → IsSoundBehind (form_byte f) (of_form f names marks part)
    of_form_sound form.Variable = variable_sound
    of_form_sound form.Application = application_sound
    of_form_sound form.Tuple = tuple_sound
    of_form_sound form.Arrow = arrow_sound
    of_form_sound form.Record = record_sound

  type_sound : (height : ℕ) → IsSound (type_at names marks height) type_text (AreTold marks) Anything
  unfolding type_at
  type_sound zero from t to fits e = absurd cc
  type_sound (suc height) from t to fits e =
      let part = type_at names marks height in
      let b = bind_some (spent 1 from) (t, to) e in
      let c = bind_some (coded form_of b.0) (t, to) b.2 in
      let bytes-are : from.bytes ≡ b.0.bytes = spent_rest 1 from b.0 b.1 in
      let s = coded_sound form_of form_byte form_is b.0 c.0.0 c.0.1 (subst IsBytes bytes-are fits) c.1 in
      let u = of_form_sound part (type_sound height) c.0.0 c.0.1 t to s.rest c.2 in
      subst (λ bytes. Takes type_text (AreTold marks) Anything bytes to.bytes t) (sym (bytes-are ∙ s.spelled tt)) u

  pub whole_type_sound : IsSound (whole_type_at names marks) type_text (AreTold marks) Anything
  unfolding whole_type_at
  whole_type_sound from t to fits e =
      let start : Rest = ahead 2000 from.bytes in
      let b = bind_some (type_at names marks 200 start) (t, to) e in
      let s = type_sound 200 start b.0.0 b.0.1 fits b.1 in
      subst (λ (p : Ty × Rest). Takes type_text (AreTold marks) Anything from.bytes p.1.bytes p.0)
      (some_is (b.0.0, ahead from.left b.0.1.bytes) (t, to) b.2) s
