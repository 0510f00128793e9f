-- Types that are equal up to isomorphism and the names of variables have one normal size.
use Rattle.std.proofs.Common.{◌≡◌, ℕ, ◌+◌, ◌*◌, List, [], ◌∷◌, ◌++◌, map, refl, sym, ap, ap₂, ◌∙◌, arith}
use Rattle.std.proofs.Math.Nat.{add-mul, mul-add, mul-zero, zero-mul}
use Rattle.type_core.specs.declared.ty.Field.{Field}
use Rattle.type_core.specs.declared.ty.Scheme.{Scheme}
use Rattle.type_core.specs.declared.ty.Ty.{Ty}
use Rattle.type_core.specs.declared.ty.Ty.TheVariants as ty
use Rattle.type_core.specs.Coordinates.{coordinate_count}
use Rattle.type_core.specs.Lists.{sum_of}
use Rattle.type_core.specs.NormalSize.{normal_size_of}
use Rattle.type_core.specs.Renaming.{Renaming, field_renamed, renamed}
use Rattle.type_core.specs.Size.{field_size, size_of}
use Rattle.type_core.proofs.NormalSizes.{count_arrow, count_con, count_rec, count_tup, count_var}
use Rattle.type_core.proofs.Trees.{AtField, EachOf, induct_type, normal_size_arrow, normal_size_con, normal_size_rec, normal_size_tup, normal_size_var, renamed_arrow, renamed_con, renamed_field, renamed_rec, renamed_tup, renamed_var, size_arrow, size_con, size_field, size_rec, size_tup, size_var}
use Rattle.iso_axioms.specs.Axioms.{◌⇒◌, ◌⊗◌, IsoAxiom, LinearAxiom, associate, commute, curry, distribute, from_unit, linear, nest, times_unit, to_unit, unit}
use Rattle.iso_axioms.specs.SchemeEquality.{AreEqualIn}
use Rattle.iso_axioms.specs.Theory.{IsIsomorphic, in_component, in_from, in_to, of_axiom, reflexive, symmetric, transitive}

-- as many coordinates, and of the same size together
record HaveOneMeasure (a b : Ty) : Type 0 where
  count : coordinate_count a ≡ coordinate_count b
  size : normal_size_of a ≡ normal_size_of b

-- a renamed type
module _ (r : Renaming) where
  all_renamed : (P : Ty → Type 0) (f : Ty → ℕ) → ((t : Ty) → P t → f (renamed r t) ≡ f t) → (ts : List Ty) → EachOf P ts → sum_of (map f (map (renamed r) ts)) ≡ sum_of (map f ts)
  all_renamed P f kept [] each = refl
  all_renamed P f kept (t ∷ ts) each = ap₂ ◌+◌ (kept t each.0) (all_renamed P f kept ts each.1)

  abbrev HasItsSize : Ty → Type 0
  HasItsSize t = size_of (renamed r t) ≡ size_of t

  sizes_renamed : (ts : List Ty) → EachOf HasItsSize ts → sum_of (map size_of (map (renamed r) ts)) ≡ sum_of (map size_of ts)
  sizes_renamed = all_renamed HasItsSize size_of (λ t same. same)

  field_sizes_renamed : (fields : List Field) → EachOf (AtField HasItsSize) fields → sum_of (map field_size (map (field_renamed r) fields)) ≡ sum_of (map field_size fields)
  field_sizes_renamed [] each = refl
  field_sizes_renamed (field ∷ fields) each = ap₂ ◌+◌ (ap field_size (renamed_field r field) ∙ size_field _ ∙ each.0 ∙ sym (size_field field)) (field_sizes_renamed fields each.1)

  size_renamed : (t : Ty) → HasItsSize t
  size_renamed = induct_type HasItsSize
      (λ v. ap size_of (renamed_var r v) ∙ size_var (r v) ∙ sym (size_var v))
      (λ name ts each. ap size_of (renamed_con r name ts) ∙ size_con name _ ∙ ap (λ n. 1 + n) (sizes_renamed ts each) ∙ sym (size_con name ts))
      (λ fields each. ap size_of (renamed_rec r fields) ∙ size_rec _ ∙ ap (λ n. 1 + n) (field_sizes_renamed fields each) ∙ sym (size_rec fields))
      (λ ts each. ap size_of (renamed_tup r ts) ∙ size_tup _ ∙ ap (λ n. 1 + n) (sizes_renamed ts each) ∙ sym (size_tup ts))
      (λ a b p q. ap size_of (renamed_arrow r a b) ∙ size_arrow _ _ ∙ ap₂ (λ m n. 1 + (m + n)) p q ∙ sym (size_arrow a b))

  abbrev HasItsMeasure : Ty → Type 0
  HasItsMeasure t = HaveOneMeasure (renamed r t) t

  atom_renamed : (t u : Ty) → renamed r t ≡ u → coordinate_count u ≡ 1 → coordinate_count t ≡ 1 → normal_size_of u ≡ size_of u → normal_size_of t ≡ size_of t → HasItsMeasure t
  atom_renamed t u e one also_one size also_size = record {
    count = ap coordinate_count e ∙ one ∙ sym also_one;
    size = ap normal_size_of e ∙ size ∙ ap size_of (sym e) ∙ size_renamed t ∙ sym also_size;
  }

  measure_renamed : (t : Ty) → HasItsMeasure t
  measure_renamed = induct_type HasItsMeasure
      (λ v. atom_renamed (ty.Var v) (ty.Var (r v)) (renamed_var r v) (count_var (r v)) (count_var v) (normal_size_var (r v)) (normal_size_var v))
      (λ name ts each. atom_renamed (ty.Con name ts) (ty.Con name (map (renamed r) ts)) (renamed_con r name ts) (count_con name _) (count_con name ts) (normal_size_con name _) (normal_size_con name ts))
      (λ fields each. atom_renamed (ty.Rec fields) (ty.Rec (map (field_renamed r) fields)) (renamed_rec r fields) (count_rec _) (count_rec fields) (normal_size_rec _) (normal_size_rec fields))
      (λ ts each. record {
        count = ap coordinate_count (renamed_tup r ts) ∙ count_tup _ ∙ all_renamed HasItsMeasure coordinate_count (λ t same. same.count) ts each ∙ sym (count_tup ts);
        size = ap normal_size_of (renamed_tup r ts) ∙ normal_size_tup _ ∙ all_renamed HasItsMeasure normal_size_of (λ t same. same.size) ts each ∙ sym (normal_size_tup ts);
      })
      (λ a b p q. record {
        count = ap coordinate_count (renamed_arrow r a b) ∙ count_arrow _ _ ∙ q.count ∙ sym (count_arrow a b);
        size = ap normal_size_of (renamed_arrow r a b) ∙ normal_size_arrow _ _ ∙ ap₂ ◌+◌ (ap₂ ◌*◌ q.count p.size) q.size ∙ sym (normal_size_arrow a b);
      })

-- products
over_sum : (n x y z : ℕ) → n * (x + (y + 0)) + z ≡ n * x + (n * y + z)
over_sum n x y z = omega (arith, mul-add n x (y + 0), mul-add n y 0, mul-zero n)

sum_times : (m n x y z : ℕ) → (m + (n + 0)) * x + (y + (z + 0)) ≡ (m * x + y) + ((n * x + z) + 0)
sum_times m n x y z = omega (arith, add-mul m (n + 0) x, add-mul n 0 x, zero-mul x)

-- each axiom
size_unit : normal_size_of unit ≡ 0
size_unit = normal_size_tup []

count_unit : coordinate_count unit ≡ 0
count_unit = count_tup []

of_linear : {a b : Ty} → LinearAxiom a b → HaveOneMeasure a b
of_linear (commute a b) = record {
  count = omega (arith, count_tup (a ∷ b ∷ []), count_tup (b ∷ a ∷ []));
  size = omega (arith, normal_size_tup (a ∷ b ∷ []), normal_size_tup (b ∷ a ∷ []));
}
of_linear (associate a b c) = record {
  count = omega (arith, count_tup (a ∷ (b ⊗ c) ∷ []), count_tup (b ∷ c ∷ []), count_tup ((a ⊗ b) ∷ c ∷ []), count_tup (a ∷ b ∷ []));
  size = omega (arith, normal_size_tup (a ∷ (b ⊗ c) ∷ []), normal_size_tup (b ∷ c ∷ []), normal_size_tup ((a ⊗ b) ∷ c ∷ []), normal_size_tup (a ∷ b ∷ []));
}
of_linear (curry a b c) = record {
  count = count_arrow (a ⊗ b) c ∙ sym (count_arrow a (b ⇒ c) ∙ count_arrow b c);
  size = normal_size_arrow (a ⊗ b) c ∙ ap (λ n. coordinate_count c * n + normal_size_of c) (normal_size_tup (a ∷ b ∷ []))
      ∙ over_sum (coordinate_count c) (normal_size_of a) (normal_size_of b) (normal_size_of c)
      ∙ sym (normal_size_arrow a (b ⇒ c) ∙ ap₂ (λ m n. m * normal_size_of a + n) (count_arrow b c) (normal_size_arrow b c));
}
of_linear (times_unit a) = record {
  count = omega (arith, count_tup (a ∷ unit ∷ []), count_unit);
  size = omega (arith, normal_size_tup (a ∷ unit ∷ []), size_unit);
}
of_linear (from_unit a) = record {
  count = count_arrow unit a;
  size = normal_size_arrow unit a ∙ ap (λ n. coordinate_count a * n + normal_size_of a) size_unit ∙ omega (arith, mul-zero (coordinate_count a));
}
of_linear (nest a b c ts) = record {
  count = omega (arith, count_tup (a ∷ b ∷ c ∷ ts), count_tup (a ∷ ty.Tup (b ∷ c ∷ ts) ∷ []), count_tup (b ∷ c ∷ ts));
  size = omega (arith, normal_size_tup (a ∷ b ∷ c ∷ ts), normal_size_tup (a ∷ ty.Tup (b ∷ c ∷ ts) ∷ []), normal_size_tup (b ∷ c ∷ ts));
}

of_iso : {a b : Ty} → IsoAxiom a b → HaveOneMeasure a b
of_iso (linear l) = of_linear l
of_iso (distribute a b c) = record {
  count = count_arrow a (b ⊗ c) ∙ count_tup (b ∷ c ∷ []) ∙ ap₂ (λ m n. m + (n + 0)) (sym (count_arrow a b)) (sym (count_arrow a c)) ∙ sym (count_tup ((a ⇒ b) ∷ (a ⇒ c) ∷ []));
  size = normal_size_arrow a (b ⊗ c) ∙ ap₂ (λ m n. m * normal_size_of a + n) (count_tup (b ∷ c ∷ [])) (normal_size_tup (b ∷ c ∷ []))
      ∙ sum_times (coordinate_count b) (coordinate_count c) (normal_size_of a) (normal_size_of b) (normal_size_of c)
      ∙ ap₂ (λ m n. m + (n + 0)) (sym (normal_size_arrow a b)) (sym (normal_size_arrow a c)) ∙ sym (normal_size_tup ((a ⇒ b) ∷ (a ⇒ c) ∷ []));
}
of_iso (to_unit a) = record {
  count = count_arrow a unit;
  size = normal_size_arrow a unit ∙ ap (λ n. n * normal_size_of a + normal_size_of unit) count_unit ∙ omega (arith, zero-mul (normal_size_of a));
}

-- each derivation
in_place : (f : Ty → ℕ) (before after : List Ty) {a b : Ty} → f a ≡ f b → sum_of (map f (before ++ a ∷ after)) ≡ sum_of (map f (before ++ b ∷ after))
in_place f [] after e = ap (λ n. n + sum_of (map f after)) e
in_place f (t ∷ before) after e = ap (λ n. f t + n) (in_place f before after e)

one_measure : {a b : Ty} → IsIsomorphic a b → HaveOneMeasure a b
one_measure (of_axiom p q step) = of_iso step
one_measure (reflexive a p) = record { count = refl; size = refl }
one_measure (symmetric h) = let m = one_measure h in record { count = sym m.count; size = sym m.size }
one_measure (transitive g h) = let m = one_measure g in let n = one_measure h in record { count = m.count ∙ n.count; size = m.size ∙ n.size }
one_measure (in_from {a} {b} c p h) =
    let m = one_measure h in
    record {
      count = count_arrow a c ∙ sym (count_arrow b c);
      size = normal_size_arrow a c ∙ ap (λ n. coordinate_count c * n + normal_size_of c) m.size ∙ sym (normal_size_arrow b c);
    }
one_measure (in_to {a} {b} c p h) =
    let m = one_measure h in
    record {
      count = count_arrow c a ∙ m.count ∙ sym (count_arrow c b);
      size = normal_size_arrow c a ∙ ap₂ (λ n k. n * normal_size_of c + k) m.count m.size ∙ sym (normal_size_arrow c b);
    }
one_measure (in_component before after p h) =
    let m = one_measure h in
    record {
      count = count_tup _ ∙ in_place coordinate_count before after m.count ∙ sym (count_tup _);
      size = normal_size_tup _ ∙ in_place normal_size_of before after m.size ∙ sym (normal_size_tup _);
    }

pub equal_sizes : (a b : Scheme) → AreEqualIn IsIsomorphic a b → normal_size_of a.body ≡ normal_size_of b.body
equal_sizes a b e =
    let r : Renaming = e.0 in
    sym (measure_renamed r a.body).size ∙ ap normal_size_of e.2.makes ∙ (one_measure e.3).size
