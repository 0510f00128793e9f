-- How long the index text of a valid library is.
use Rattle.std.proofs.Common.{◌≡◌, ℕ, suc, ◌+◌, ◌*◌, ◌≤◌, Bool, true, false, not, if◌then◌else◌, List, [], ◌∷◌, ◌++◌, length, map, refl, ap, subst, ◌∙◌, arith, inl, inr}
use Rattle.std.proofs.lemmas.List.{length-append, length-map}
use Rattle.std.specs.Prelude.{slice_index_or}
use Rattle.std.specs.List.{filter}
use Rattle.sig_base.specs.LongIdentifiers.{parts}
use Rattle.lib_index.specs.IndexText.{bytes_text, equality_byte, field_text, flag, index_text, list_text, marks, member_text, name_text, number_text, scheme_text, tycon_text, type_text, unit_text}
use Rattle.lib_index.proofs.Fitting.{described_among, each_of_all, weights}
use Rattle.lib_index.proofs.Lists.{texts}
use Rattle.lib_index.proofs.EachOf.{each_left, each_right, each_weaker}
use Rattle.lib_index.proofs.TypesComplete.{has_node}
use Rattle.lib_index.proofs.TypeTexts.{text_arrow, text_con, text_field, text_rec, text_tup, text_var}
use Rattle.type_core.specs.declared.library.Library.{Library}
use Rattle.type_core.specs.declared.library.Tycon.{Tycon}
use Rattle.type_core.specs.declared.library.Unit as declared
use Rattle.type_core.specs.declared.member.Member.{Member}
use Rattle.type_core.specs.declared.names.TypeName.{TypeName}
use Rattle.type_core.specs.declared.ty.Field.{Field}
use Rattle.type_core.specs.declared.ty.Ty.{Ty}
use Rattle.type_core.specs.Lists.{concatenated, sum_of}
use Rattle.type_core.specs.Size.{field_size, size_of}
use Rattle.type_core.specs.ValidLibrary.{IsLabel, IsTypeOf, IsValidLibrary, own_names}
use Rattle.type_core.specs.Variables.{by_first_occurrence}
use Rattle.type_core.specs.Weight.{label_bytes, labels_of, member_weight, name_weight, tycon_weight, unit_weight}
use Rattle.type_core.proofs.LabelBytes.{bytes_arrow, bytes_con, bytes_rec, bytes_tup}
use Rattle.type_core.proofs.Renamed.{variables_bounded}
use Rattle.type_core.proofs.Trees.{AtField, EachOf, induct_type, labels_arrow, labels_con, labels_rec, labels_tup, size_arrow, size_con, size_field, size_rec, size_tup, size_var}

-- a text of at least one byte
abbrev HasByte : List ℕ → Type 0
HasByte text = 1 ≤ length text

label_has_byte : (label : List ℕ) → IsLabel label → HasByte label
label_has_byte [] is = elim is.1 [ inl i ↦ elim i [ inl a ↦ absurd a.0 | inr s ↦ absurd s.0 ] | inr n ↦ absurd cc ]
label_has_byte (b ∷ label) is = omega arith

path_has_byte : (path : List ℕ) → 2 ≤ length (parts path) → HasByte path
path_has_byte [] l = absurd (omega (arith, l))
path_has_byte (b ∷ path) l = omega arith

-- ---- types: at most 5 bytes a node and 5 a byte of a label

abbrev IsBrief : Ty → Type 0
IsBrief t = EachOf HasByte (labels_of t) → length (type_text t) ≤ 5 * size_of t + 5 * label_bytes t

parts_brief : (ts : List Ty) → EachOf IsBrief ts → EachOf HasByte (concatenated (map labels_of ts))
    → length (texts type_text ts) ≤ 5 * sum_of (map size_of ts) + 5 * sum_of (map label_bytes ts)
parts_brief [] ihs l = omega arith
parts_brief (t ∷ ts) ihs l =
    let first = ihs.0 (each_left HasByte (labels_of t) (concatenated (map labels_of ts)) l) in
    let others = parts_brief ts ihs.1 (each_right HasByte (labels_of t) (concatenated (map labels_of ts)) l) in
    omega (arith, first, others, length-append (type_text t) (texts type_text ts))

abbrev labels_with : Field → List (List ℕ)
labels_with field = field.label ∷ labels_of field.ty

abbrev label_cost : Field → ℕ
label_cost field = length field.label + label_bytes field.ty

fields_brief : (fields : List Field) → EachOf (AtField IsBrief) fields → EachOf HasByte (concatenated
    (map labels_with fields)) → length (texts field_text fields) ≤ 5 * sum_of (map field_size fields) + 5 * sum_of
    (map label_cost fields)
fields_brief [] ihs l = omega arith
fields_brief (field ∷ fields) ihs l =
    let label = field.label in
    let more = concatenated (map labels_with fields) in
    let first = ihs.0 (each_left HasByte (labels_of field.ty) more l.1) in
    let others = fields_brief fields ihs.1 (each_right HasByte (labels_of field.ty) more l.1) in
    let here : length (field_text field) ≡ length (bytes_text label) + length (type_text field.ty) = ap length
    (text_field field) ∙ length-append (bytes_text label) (type_text field.ty) in
    omega (
      arith,
      first,
      others,
      l.0,
      here,
      size_field field,
      length-append (field_text field)
          (texts field_text fields),
    )

type_brief : (t : Ty) → IsBrief t
type_brief = induct_type IsBrief
    (λ v l. omega (arith, ap length (text_var v), size_var v))
    (λ name ts ihs l. omega (
      arith,
      ap length (text_con name ts),
      size_con name ts,
      bytes_con name ts,
      parts_brief ts ihs (subst (EachOf HasByte) (labels_con name ts) l),
    ))
    (λ fields ihs l. omega (
      arith,
      ap length (text_rec fields),
      size_rec fields,
      bytes_rec fields,
      fields_brief fields ihs (subst (EachOf HasByte) (labels_rec fields) l),
    ))
    (λ ts ihs l. omega (
      arith,
      ap length (text_tup ts),
      size_tup ts,
      bytes_tup ts,
      parts_brief ts ihs
          (subst (EachOf HasByte) (labels_tup ts) l),
    ))
    (λ a b p q l. let both = subst (EachOf HasByte) (labels_arrow a b) l in omega (
      arith,
      ap length (text_arrow a b),
      length-append (type_text a) (type_text b),
      size_arrow a b,
      bytes_arrow a b,
      p (each_left HasByte (labels_of a) (labels_of b) both),
      q (each_right HasByte (labels_of a)
          (labels_of b) both),
    ))

-- ---- lists: three times a text is at most 25 times a weight

texts_length : {A : Type 0} (text : A → List ℕ) (xs : List A) → length (texts text xs) ≡ sum_of
    (map (λ x. length (text x)) xs)
texts_length text [] = refl
texts_length text (x ∷ xs) = omega (arith, length-append (text x) (texts text xs), texts_length text xs)

list_length : {A : Type 0} (text : A → List ℕ) (xs : List A) → length (list_text text xs) ≡ 4 + sum_of
    (map (λ x. length (text x)) xs)
list_length text xs = omega (arith, texts_length text xs)

mark_texts_length : (ms : List Bool) → length (texts (λ mark. flag mark ∷ []) ms) ≡ length ms
mark_texts_length [] = refl
mark_texts_length (m ∷ ms) = ap suc (mark_texts_length ms)

marks_text_length : (ms : List Bool) → length (list_text (λ mark. flag mark ∷ []) ms) ≡ 4 + length ms
marks_text_length ms = omega (arith, mark_texts_length ms)

abbrev IsLight : {A : Type 0} → (A → ℕ) → (A → ℕ) → A → Type 0
IsLight f w x = 3 * f x ≤ 25 * w x

sums_brief : {A : Type 0} (f w : A → ℕ) (xs : List A) → EachOf (IsLight f w) xs → 3 * sum_of
    (map f xs) ≤ 25 * sum_of (map w xs)
sums_brief f w [] h = omega arith
sums_brief f w (x ∷ xs) h = omega (arith, h.0, sums_brief f w xs h.1)

-- ---- units, names, type constructors and members

name_length : (name : TypeName) → length (name_text name) ≡ 10 + length name.path
name_length name = omega (
  arith,
  length-append (bytes_text name.path) (number_text name.arity
      ++ equality_byte name.equality ∷ flag name.external ∷ []),
)

-- the text of a described name of this path
abbrev path_text : List ℕ → ℕ
path_text path = 10 + length path

abbrev path_of : TypeName → List ℕ
path_of name = name.path

names_brief : (names : List TypeName) → EachOf (λ name. HasByte name.path) names
    → 3 * sum_of (map (λ name. length (name_text name)) names) ≤ 25 * sum_of (map name_weight names) + 3 * sum_of
    (map path_text (map path_of (filter (λ name. not name.external) names)))
names_brief [] h = omega arith
names_brief (name ∷ names) h = cases name.external (names_brief names h.1)
  where
    cases : (external : Bool) → 3 * sum_of (map (λ n. length (name_text n)) names) ≤ 25 * sum_of
        (map name_weight names) + 3 * sum_of (map path_text (map path_of (filter (λ n. not n.external) names)))
        → 3 * (length (name_text name) + sum_of (map (λ n. length (name_text n)) names)) ≤ 25 *
        ((if external then 1 + length name.path else 0) + sum_of (map name_weight names))
        + 3 * sum_of (map path_text (map path_of (if not external then name ∷ filter
        (λ n. not n.external) names else filter (λ n. not n.external) names)))
    cases true l = omega (arith, l, name_length name, h.0)
    cases false l = omega (arith, l, name_length name)

-- a type constructor with the described name of its path
abbrev tycon_cost : Tycon → ℕ
tycon_cost tycon = path_text tycon.path + length (tycon_text tycon)

tycon_brief : (tycon : Tycon) → HasByte tycon.path → EachOf HasByte (labels_of tycon.fun.body)
    → 3 * tycon_cost tycon ≤ 25 * tycon_weight tycon
tycon_brief tycon h l =
    let body = tycon.fun.body in
    omega (
      arith,
      h,
      type_brief body l,
      has_node body,
      length-append (bytes_text tycon.path)
          (number_text tycon.fun.arity ++ type_text body),
      length-append (number_text tycon.fun.arity) (type_text body),
    )

tycon_parts : (tycons : List Tycon) → sum_of (map tycon_cost tycons) ≡ sum_of (map path_text
    (map (λ tycon. tycon.path) tycons)) + sum_of (map (λ tycon. length (tycon_text tycon)) tycons)
tycon_parts [] = refl
tycon_parts (tycon ∷ tycons) = omega (arith, tycon_parts tycons)

abbrev member_length : Member → ℕ
member_length member = length (member_text member)

member_brief : (member : Member) → EachOf HasByte (labels_of member.scheme.body) → 3 * length
    (member_text member) ≤ 25 * member_weight member
member_brief member l =
    let body = member.scheme.body in
    let ms = marks member.scheme in
    let count : length ms ≡ length (by_first_occurrence body) = length-map (by_first_occurrence body) (λ v. v.eq) in
    omega (
      arith,
      type_brief body l,
      has_node body,
      count,
      variables_bounded body,
      marks_text_length ms,
      length-append
          (bytes_text member.path) (scheme_text member.scheme),
      length-append (list_text (λ mark. flag mark ∷ []) ms)
          (type_text body),
    )

unit_brief : (u : declared.Unit) → 3 * length (unit_text u) ≤ 25 * unit_weight u
unit_brief u = omega arith

each_unit_brief : (us : List declared.Unit) → EachOf (λ (u : declared.Unit). 3 * length
    (unit_text u) ≤ 25 * unit_weight u) us
each_unit_brief [] = tt
each_unit_brief (u ∷ us) = (unit_brief u, each_unit_brief us)

body_labels : (library : Library) (t : Ty) → IsTypeOf library t → EachOf HasByte (labels_of t)
body_labels library t is = each_weaker IsLabel HasByte label_has_byte (labels_of t) (each_of_all IsLabel
    (labels_of t) is.labels)

pub text_length : (library : Library) → IsValidLibrary library → length (index_text library) ≤ 67108864
unfolding index_text
text_length library valid =
    let own = own_names library in
    let tycons = library.tycons in
    let members = library.members in
    let u = sums_brief (λ u. length (unit_text u)) unit_weight library.units (each_unit_brief library.units) in
    let n = names_brief own (each_of_all (λ (name : TypeName). HasByte name.path) own
    (λ k d l. path_has_byte (slice_index_or own k d).path (valid.name_paths k d l).0.0)) in
    let described = described_among library valid path_text in
    let t = sums_brief tycon_cost tycon_weight tycons (each_of_all (IsLight tycon_cost tycon_weight) tycons
    (λ k d l. tycon_brief (slice_index_or tycons k d) (path_has_byte (slice_index_or tycons k d).path
    (valid.tycon_paths k d l).0.0)
    (body_labels library (slice_index_or tycons k d).fun.body (valid.tycon_types k d l)))) in
    let m = sums_brief member_length member_weight members (each_of_all (IsLight member_length member_weight) members
    (λ k d l. member_brief (slice_index_or members k d) (body_labels library
    (slice_index_or members k d).scheme.body (valid.member_types k d l)))) in
    let last = list_text tycon_text tycons ++ list_text member_text members in
    let lengths : length (index_text library) ≡ 8 + (length (list_text unit_text library.units) +
    (length (list_text name_text own) + (length (list_text tycon_text tycons) + length
    (list_text member_text members)))) =
    omega (
      arith,
      length-append (list_text unit_text library.units) (list_text name_text own ++ last),
      length-append (list_text name_text own) last,
      length-append (list_text tycon_text tycons)
          (list_text member_text members),
    ) in
    let limit = weights library valid in
    omega (
      arith,
      lengths,
      list_length unit_text library.units,
      list_length name_text own,
      list_length tycon_text tycons,
      list_length member_text members,
      u,
      n,
      described,
      t,
      tycon_parts tycons,
      m,
      limit,
    )
