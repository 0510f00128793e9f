-- A type that is spelled is read.
use Rattle.std.proofs.Common.{◌≡◌, ℕ, zero, suc, ◌+◌, ◌-◌, ◌^◌, ◌<◌, ◌≤◌, Bool, true, true≢false, List, [], ◌∷◌, ◌++◌, length, map, slice_get, Option, Some, None, refl, sym, ap, subst, ◌∙◌, append_assoc, arith, eqb-true}
use Rattle.std.proofs.lemmas.Option.{slice_get_within}
use Rattle.lib_index.specs.declared.type_reading.Form.{Form}
use Rattle.lib_index.specs.declared.type_reading.Form.TheVariants as form
use Rattle.lib_index.specs.IndexText.{bytes_text, field_text, list_text, number_text, type_text}
use Rattle.lib_index.specs.Reading.{Reader, application_at, arrow_at, field_at, form_of, many, of_form, record_at, tuple_at, type_at, variable_at, whole_type_at}
use Rattle.lib_index.proofs.Fields.{ahead, IsComplete, bytes_complete, coded_complete, number_complete, spent_complete}
use Rattle.lib_index.proofs.Lists.{list_complete, many_complete, texts}
use Rattle.lib_index.proofs.EachOf.{both, each_left, each_right}
use Rattle.lib_index.proofs.TypesSound.{IsTold, form_again, form_byte}
use Rattle.lib_index.proofs.TypeTexts.{text_arrow, text_con, text_field, text_rec, text_tup, text_var}
use Rattle.type_core.specs.declared.names.TypeName.{TypeName}
use Rattle.type_core.specs.declared.ty.Field.{Field}
use Rattle.type_core.specs.declared.ty.NameId.{NameId}
use Rattle.type_core.specs.declared.ty.Ty.{Ty}
use Rattle.type_core.specs.declared.ty.Ty.TheVariants as ty
use Rattle.type_core.specs.declared.ty.VarId.{VarId}
use Rattle.type_core.specs.Height.{field_height, height_of}
use Rattle.type_core.specs.Lists.{all_true, concatenated, greatest_of, sum_of}
use Rattle.type_core.specs.Size.{field_size, size_of}
use Rattle.type_core.specs.Types.{is_over, takes}
use Rattle.type_core.specs.Variables.{field_variables, variables}
use Rattle.type_core.specs.Weight.{labels_of}
use Rattle.type_core.proofs.Trees.{EachOf, height_arrow, height_con, height_field, height_rec, height_tup, height_var, induct_type, labels_arrow, labels_con, labels_rec, labels_tup, size_arrow, size_con, size_field, size_rec, size_tup, size_var, variables_arrow, variables_con, variables_field, variables_rec, variables_tup, variables_var}
use Rattle.type_core.proofs.TypeTests.{is_over_arrow, is_over_con, is_over_rec, is_over_tup}

pub has_node : (t : Ty) → 1 ≤ size_of t
has_node = induct_type (λ t. 1 ≤ size_of t)
    (λ v. omega (arith, size_var v))
    (λ name ts ihs. omega (arith, size_con name ts))
    (λ fields ihs. omega (arith, size_rec fields))
    (λ ts ihs. omega (arith, size_tup ts))
    (λ a b p q. omega (arith, size_arrow a b))

is_high : (t : Ty) → 1 ≤ height_of t
is_high = induct_type (λ t. 1 ≤ height_of t)
    (λ v. omega (arith, height_var v))
    (λ name ts ihs. omega (arith, height_con name ts))
    (λ fields ihs. omega (arith, height_rec fields))
    (λ ts ihs. omega (arith, height_tup ts))
    (λ a b p q. omega (arith, height_arrow a b))

nodes_of : (ts : List Ty) → length ts ≤ sum_of (map size_of ts)
nodes_of [] = omega arith
nodes_of (t ∷ ts) = omega (arith, has_node t, nodes_of ts)

field_nodes_of : (fields : List Field) → length fields ≤ sum_of (map field_size fields)
field_nodes_of [] = omega arith
field_nodes_of (field ∷ fields) = omega (arith, size_field field, has_node field.ty, field_nodes_of fields)

taken_name : (o : Option TypeName) (count : ℕ) → takes o count ≡ true → (name : TypeName) × (o ≡ Some name)
    × (name.arity ≡ count)
taken_name None count e = absurd (true≢false (sym e))
taken_name (Some name) count e = (name, refl, eqb-true name.arity count e)

-- a label whose length has a text
abbrev pub HasLength : List ℕ → Type 0
HasLength label = length label < 2 ^ 32

module _ (names : List TypeName) (marks : Option (List Bool)) where
  -- a variable that is told, and whose number has a text
  abbrev pub IsKnown : VarId → Type 0
  IsKnown v = IsTold marks v × (v.n < 2 ^ 32)

  -- what is read of at most this height
  pub record Fits (height : ℕ) (t : Ty) : Type 0 where
    pub low : height_of t ≤ height
    pub nodes : size_of t < 2 ^ 32
    pub over : is_over names t ≡ true
    pub known : EachOf IsKnown (variables t)
    pub labels : EachOf HasLength (labels_of t)

  abbrev FitsField : ℕ → Field → Type 0
  FitsField height field = HasLength field.label × Fits height field.ty

  each_fits : (height : ℕ) (ts : List Ty) → greatest_of (map height_of ts) ≤ height → sum_of (map size_of ts) < 2 ^ 32
      → all_true (map (is_over names) ts) ≡ true
      → EachOf IsKnown (concatenated (map variables ts)) → EachOf HasLength (concatenated (map labels_of ts))
      → EachOf (Fits height) ts
  each_fits height [] h n o k l = tt
  each_fits height (t ∷ ts) h n o k l =
      let b = both (is_over names t) (all_true (map (is_over names) ts)) o in (
        record {
          low = omega (arith, h);
          nodes = omega (arith, n);
          over = b.0;
          known = each_left IsKnown (variables t) (concatenated (map variables ts)) k;
          labels = each_left HasLength (labels_of t) (concatenated (map labels_of ts)) l;
        },
        each_fits height ts (omega (arith, h)) (omega (arith, n)) b.1 (each_right IsKnown (variables t) (concatenated
            (map variables ts)) k) (each_right HasLength (labels_of t) (concatenated (map labels_of ts)) l),
      )

  each_field_fits : (height : ℕ) (fields : List Field) → greatest_of (map field_height fields) ≤ height
      → sum_of (map field_size fields) < 2 ^ 32 → all_true (map (λ field. is_over names field.ty) fields) ≡ true
      → EachOf IsKnown (concatenated (map field_variables fields)) → EachOf HasLength (concatenated
      (map (λ field. field.label ∷ labels_of field.ty) fields)) → EachOf (FitsField height) fields
  each_field_fits height [] h n o k l = tt
  each_field_fits height (field ∷ fields) h n o k l =
      let b = both (is_over names field.ty) (all_true (map (λ f. is_over names f.ty) fields)) o in
      let more = concatenated (map (λ f. f.label ∷ labels_of f.ty) fields) in (
        (
          l.0,
          record {
            low = omega (arith, h, height_field field);
            nodes = omega (arith, n, size_field field);
            over = b.0;
            known = subst (EachOf IsKnown) (variables_field field) (each_left IsKnown (field_variables field)
                (concatenated (map field_variables fields)) k);
            labels = each_left HasLength (labels_of field.ty) more l.1;
          },
        ),
        each_field_fits height fields (omega (arith, h)) (omega (arith, n)) b.1 (each_right IsKnown
            (field_variables field) (concatenated (map field_variables fields)) k) (each_right HasLength
            (labels_of field.ty) more l.1),
      )

  module _ (few : length names < 2 ^ 32) (height : ℕ) (complete : IsComplete
      (type_at names marks height) type_text size_of (Fits height)) where
    abbrev part : Reader Ty
    part = type_at names marks height

    -- the text of a type of this form is read at its place
    abbrev IsRead : Ty → Type 0
    IsRead t = (left after : ℕ) (bytes : List ℕ) → Fits (suc height) t → left ≡ size_of t + after
        → type_at names marks (suc height) (ahead left (type_text t ++ bytes)) ≡ Some
        (t, ahead after bytes)

    opened : (f : Form) (t : Ty) (text : List ℕ) (left more : ℕ) (bytes : List ℕ) → type_text t ≡ form_byte f ∷ text
        → left ≡ 1 + more
        → type_at names marks (suc height) (ahead left (type_text t ++ bytes))
        ≡ of_form f names marks part (ahead more (text ++ bytes))
    unfolding type_at
    opened f t text left more bytes e l =
        ap (λ z. type_at names marks (suc height) (ahead left (z ++ bytes))) e
        ∙ rw (
          spent_complete 1 left more (form_byte f ∷ (text ++ bytes)) l,
          coded_complete form_of form_byte f more
              (text ++ bytes) (form_again f),
        ) refl

    variable_read : (v : VarId) → IsRead (ty.Var v)
    unfolding variable_at
    variable_read v left after bytes fits e =
        let known = subst (EachOf IsKnown) (variables_var v) fits.known in
        opened form.Variable (ty.Var v) (number_text v.n) left after bytes (text_var v) (omega (arith, e, size_var v))
        ∙ rw (number_complete v.n after bytes known.0.1, known.0.0) refl

    application_read : (name : NameId) (ts : List Ty) → IsRead (ty.Con name ts)
    unfolding application_at
    application_read name ts left after bytes fits e =
        let b = both (takes (slice_get names name.0) (length ts)) (all_true (map (is_over names) ts))
        (sym (is_over_con names name ts) ∙ fits.over) in
        let found = taken_name (slice_get names name.0) (length ts) b.0 in
        let within = slice_get_within names name.0 found.0 found.1 in
        let fit = each_fits height ts (omega (arith, height_con name ts, fits.low)) (omega (
          arith,
          size_con name ts,
          fits.nodes,
        )) b.1 (subst (EachOf IsKnown) (variables_con name ts) fits.known) (subst (EachOf HasLength)
        (labels_con name ts) fits.labels) in
        let more = sum_of (map size_of ts) + after in
        let first = number_complete name.0 more (texts type_text ts ++ bytes) (omega (arith, within, few)) in
        let others = many_complete part type_text size_of (Fits height) complete ts more after bytes fit refl in
        let arguments : many part found.0.arity (ahead more (texts type_text ts ++ bytes)) ≡ Some
        (ts, ahead after bytes) = rw found.2 others in
        opened form.Application (ty.Con name ts) (number_text name.0 ++ texts type_text ts) left more bytes
        (text_con name ts) (omega (arith, e, size_con name ts))
        ∙ ap (λ t. application_at names part (ahead more t)) (append_assoc (number_text name.0)
        (texts type_text ts) bytes)
        ∙ rw (first, found.1, arguments) refl

    tuple_read : (ts : List Ty) → IsRead (ty.Tup ts)
    unfolding tuple_at
    tuple_read ts left after bytes fits e =
        let fit = each_fits height ts (omega (arith, height_tup ts, fits.low)) (omega (
          arith,
          size_tup ts,
          fits.nodes,
        )) (sym (is_over_tup names ts) ∙ fits.over) (subst (EachOf IsKnown)
        (variables_tup ts) fits.known) (subst (EachOf HasLength) (labels_tup ts) fits.labels) in
        let more = sum_of (map size_of ts) + after in
        let components = list_complete part type_text size_of (Fits height) complete ts more after bytes
        (omega (arith, nodes_of ts, size_tup ts, fits.nodes)) fit refl in
        opened form.Tuple (ty.Tup ts) (list_text type_text ts) left more bytes (text_tup ts)
        (omega (arith, e, size_tup ts)) ∙ rw components refl

    arrow_read : (a b : Ty) → IsRead (ty.Arrow a b)
    unfolding arrow_at
    arrow_read a b left after bytes fits e =
        let over = both (is_over names a) (is_over names b) (sym (is_over_arrow names a b) ∙ fits.over) in
        let known = subst (EachOf IsKnown) (variables_arrow a b) fits.known in
        let labels = subst (EachOf HasLength) (labels_arrow a b) fits.labels in
        let fits_a : Fits height a = record {
          low = omega (arith, height_arrow a b, fits.low);
          nodes = omega (arith, size_arrow a b, fits.nodes);
          over = over.0;
          known = each_left IsKnown (variables a) (variables b) known;
          labels = each_left HasLength (labels_of a) (labels_of b) labels;
        } in
        let fits_b : Fits height b = record {
          low = omega (arith, height_arrow a b, fits.low);
          nodes = omega (arith, size_arrow a b, fits.nodes);
          over = over.1;
          known = each_right IsKnown (variables a) (variables b) known;
          labels = each_right HasLength (labels_of a) (labels_of b) labels;
        } in
        let more = size_of a + (size_of b + after) in
        let first = complete a more (size_of b + after) (type_text b ++ bytes) fits_a refl in
        let second = complete b (size_of b + after) after bytes fits_b refl in
        opened form.Arrow (ty.Arrow a b) (type_text a ++ type_text b) left more bytes (text_arrow a b)
        (omega (arith, e, size_arrow a b))
        ∙ ap (λ t. arrow_at part (ahead more t)) (append_assoc (type_text a) (type_text b) bytes)
        ∙ rw (first, second) refl

    field_complete : IsComplete (field_at part) field_text field_size (FitsField height)
    unfolding field_at
    field_complete field left after bytes fits e =
        let l : left ≡ size_of field.ty + after = omega (arith, e, size_field field) in
        let first = bytes_complete field.label left (type_text field.ty ++ bytes) fits.0 in
        let second = complete field.ty left after bytes fits.1 l in
        ap (λ t. field_at part (ahead left t)) (ap (λ t. t ++ bytes) (text_field field)
        ∙ append_assoc (bytes_text field.label) (type_text field.ty) bytes)
        ∙ rw (first, second) refl

    record_read : (fields : List Field) → IsRead (ty.Rec fields)
    unfolding record_at
    record_read fields left after bytes fits e =
        let fit = each_field_fits height fields (omega (arith, height_rec fields, fits.low))
        (omega (arith, size_rec fields, fits.nodes)) (sym (is_over_rec names fields) ∙ fits.over)
        (subst (EachOf IsKnown) (variables_rec fields) fits.known) (subst (EachOf HasLength)
        (labels_rec fields) fits.labels) in
        let more = sum_of (map field_size fields) + after in
        let read = list_complete (field_at part) field_text field_size
        (FitsField height) field_complete fields more after bytes (omega (
          arith,
          field_nodes_of fields,
          size_rec fields,
          fits.nodes,
        )) fit refl in
        opened form.Record (ty.Rec fields) (list_text field_text fields) left more bytes (text_rec fields)
        (omega (arith, e, size_rec fields)) ∙ rw read refl

    each_read : (t : Ty) → IsRead t
    each_read = induct_type IsRead variable_read (λ name ts ihs. application_read name ts) (λ fields ihs.
        record_read fields) (λ ts ihs. tuple_read ts) (λ a b p q. arrow_read a b)

  type_complete : length names < 2 ^ 32 → (height : ℕ) → IsComplete (type_at names marks height) type_text size_of
      (Fits height)
  type_complete few zero t left after bytes fits e = absurd (omega (arith, is_high t, fits.low))
  type_complete few (suc height) t left after bytes fits e = each_read few height
      (type_complete few height) t left after bytes fits e

  pub whole_type_complete : length names < 2 ^ 32 → (t : Ty) (left : ℕ) (bytes : List ℕ) → Fits 200 t → size_of t ≤ 2000
      → whole_type_at names marks (ahead left (type_text t ++ bytes)) ≡ Some
      (t, ahead left bytes)
  unfolding whole_type_at
  whole_type_complete few t left bytes fits few_nodes =
      let read = type_complete few 200 t 2000 (2000 - size_of t) bytes fits (omega (arith, few_nodes)) in
      rw read refl
