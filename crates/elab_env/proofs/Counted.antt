-- Sizes with sizes in place of variables.
use Rattle.std.proofs.Common.{◌≡◌, ℕ, zero, suc, ◌+◌, ◌-◌, ◌<◌, ◌≤◌, Bool, true, min, nat_lt, List, [], ◌∷◌, ◌++◌, length, drop, map, get_or, take, slice_get, Some, None, refl, sym, ap, ap₂, ◌∙◌, arith}
use denote.Ref.{Bor}
use Rattle.std.proofs.lemmas.Bool.{and_parts, ltb-true}
use Rattle.std.proofs.lemmas.List.{append-nil, take_all}
use Rattle.type_core.specs.declared.ty.VarId.{VarId}
use Rattle.type_core.specs.declared.ty.NameId.{NameId}
use Rattle.type_core.specs.declared.ty.Ty.{Ty}
use Rattle.type_core.specs.declared.ty.Field.{Field}
use Rattle.type_core.specs.declared.ty.Ty.TheVariants as ty
use Rattle.type_core.specs.declared.ty.Ty.TheVariants.{rolls-Var, rolls-Con, rolls-Rec, rolls-Tup, rolls-Arrow}
use Rattle.type_core.specs.declared.ty.Ty.TheFolds.{fold-Field, fold-roll-Ty, fold-roll-Field}
use Rattle.type_core.specs.Lists.{all_true, sum_of}
use Rattle.type_core.specs.Size.{field_size, size_field_step, size_of}
use Rattle.type_core.specs.Substitution.{VariablesBelow, allows, each_variable, or_variable, substituted}
use Rattle.type_core.proofs.Trees.{AtField, EachOf, induct_type, size_var, size_con, size_rec, size_tup, size_arrow, size_field, each_variable_var, substituted_var, substituted_con}
use Rattle.elab_env.specs.declared.realization.Realization.{Realization}
use Rattle.elab_env.specs.declared.sizes.Sizes.{Sizes}
use Rattle.elab_env.specs.declared.sizes.Sizes.TheVariants as variants
use Rattle.elab_env.specs.declared.sizes.Sizes.TheVariants.{rolls-Nothing, rolls-Then}
use Rattle.elab_env.specs.declared.sizes.Sizes.TheFolds.{fold-roll-Sizes}
use Rattle.elab_env.specs.Realizations.{field_resolved, resolved}
use Rattle.elab_env.specs.Sized.{listed, listed_step, size_at, sized, sized_step}
use Rattle.elab_env.proofs.Parts.{at_type, map_map}
use Rattle.elab_env.proofs.Equations.{substituted_inside, variables_partwise}
use Rattle.elab_env.proofs.Resolved.{resolved_arrow, resolved_rec, resolved_tup, resolved_var}
use Rattle.elab_env.proofs.Walked.{last_taken}

-- ---- the sizes that are held
pub listed_nothing : listed variants.Nothing ≡ []
listed_nothing = ap listed (sym rolls-Nothing) ∙ fold-roll-Sizes _ listed_step _

pub listed_then : (size : ℕ) (rest : Bor Sizes) → listed (variants.Then size rest) ≡ size ∷ listed rest.now
listed_then size rest = ap listed (sym (rolls-Then size rest)) ∙ fold-roll-Sizes _ listed_step _

pub size_here : (sizes : Sizes) (size : ℕ) (rest : Bor Sizes) (n : ℕ) → sizes ≡ variants.Then size rest → n ≡ 0 → slice_get (listed sizes) n ≡ Some size
size_here sizes size rest n e z = ap₂ slice_get (ap listed e ∙ listed_then size rest) z

pub size_later : (sizes : Sizes) (size : ℕ) (rest : Bor Sizes) (n : ℕ) → sizes ≡ variants.Then size rest → (n ≡ 0 → ⊥) → slice_get (listed rest.now) (n - 1) ≡ slice_get (listed sizes) n
size_later sizes size rest n e z =
    ap (slice_get (size ∷ listed rest.now)) (let one : suc (n - 1) ≡ n = omega (arith, z) in one)
    ∙ ap (λ ns. slice_get ns n) (sym (ap listed e ∙ listed_then size rest))

pub no_size : (sizes : Sizes) (n : ℕ) → sizes ≡ variants.Nothing → slice_get (listed sizes) n ≡ None
no_size sizes n e = ap (λ ns. slice_get ns n) (ap listed e ∙ listed_nothing)

-- ---- the variants
module _ (sizes : List ℕ) where
  pub sized_var : (v : VarId) → sized sizes (ty.Var v) ≡ size_at (slice_get sizes v.n)
  sized_var v = ap (sized sizes) (sym (rolls-Var v)) ∙ fold-roll-Ty _ _ (sized_step sizes) size_field_step _

  pub sized_con : (name : NameId) (ts : List Ty) → sized sizes (ty.Con name ts) ≡ 1 + sum_of (map (sized sizes) ts)
  sized_con name ts = ap (sized sizes) (sym (rolls-Con name ts)) ∙ fold-roll-Ty _ _ (sized_step sizes) size_field_step _

  field_sized : (field : Field) → fold-Field ℕ ℕ (sized_step sizes) size_field_step field ≡ sized sizes field.ty
  field_sized field = fold-roll-Field _ _ (sized_step sizes) size_field_step (record { label = field.label; ty = field.ty })

  fields_sized : (fields : List Field) → map (fold-Field ℕ ℕ (sized_step sizes) size_field_step) fields ≡ map (λ field. sized sizes field.ty) fields
  fields_sized [] = refl
  fields_sized (field ∷ fields) = ap₂ ◌∷◌ (field_sized field) (fields_sized fields)

  pub sized_rec : (fields : List Field) → sized sizes (ty.Rec fields) ≡ 1 + sum_of (map (λ field. sized sizes field.ty) fields)
  sized_rec fields = ap (sized sizes) (sym (rolls-Rec fields)) ∙ fold-roll-Ty _ _ (sized_step sizes) size_field_step _ ∙ ap (λ ns. 1 + sum_of ns) (fields_sized fields)

  pub sized_tup : (ts : List Ty) → sized sizes (ty.Tup ts) ≡ 1 + sum_of (map (sized sizes) ts)
  sized_tup ts = ap (sized sizes) (sym (rolls-Tup ts)) ∙ fold-roll-Ty _ _ (sized_step sizes) size_field_step _

  pub sized_arrow : (a b : Ty) → sized sizes (ty.Arrow a b) ≡ 1 + (sized sizes a + sized sizes b)
  sized_arrow a b = ap (sized sizes) (sym (rolls-Arrow a b)) ∙ fold-roll-Ty _ _ (sized_step sizes) size_field_step _

-- ---- two ways of counting that agree up to a limit
module _ (limit : ℕ) (f g : Ty → ℕ) where
  abbrev Alike : Ty → Type 0
  Alike t = min (f t) limit ≡ min (g t) limit

  sums_alike : (ts : List Ty) → EachOf Alike ts → min (1 + sum_of (map f ts)) limit ≡ min (1 + sum_of (map g ts)) limit
  sums_alike [] hs = refl
  sums_alike (t ∷ ts) hs = omega (arith, hs.0, sums_alike ts hs.1)

  field_sums_alike : (fields : List Field) → EachOf (AtField Alike) fields → min (1 + sum_of (map (λ field. f field.ty) fields)) limit ≡ min (1 + sum_of (map (λ field. g field.ty) fields)) limit
  field_sums_alike [] hs = refl
  field_sums_alike (field ∷ fields) hs = omega (arith, hs.0, field_sums_alike fields hs.1)

  pub alike : ((v : VarId) → Alike (ty.Var v))
      → ((name : NameId) (ts : List Ty) → (f (ty.Con name ts) ≡ 1 + sum_of (map f ts)) × (g (ty.Con name ts) ≡ 1 + sum_of (map g ts)))
      → ((fields : List Field) → (f (ty.Rec fields) ≡ 1 + sum_of (map (λ field. f field.ty) fields)) × (g (ty.Rec fields) ≡ 1 + sum_of (map (λ field. g field.ty) fields)))
      → ((ts : List Ty) → (f (ty.Tup ts) ≡ 1 + sum_of (map f ts)) × (g (ty.Tup ts) ≡ 1 + sum_of (map g ts)))
      → ((a b : Ty) → (f (ty.Arrow a b) ≡ 1 + (f a + f b)) × (g (ty.Arrow a b) ≡ 1 + (g a + g b)))
      → (t : Ty) → Alike t
  alike on_var on_con on_rec on_tup on_arrow = induct_type Alike on_var
      (λ name ts hs. through (on_con name ts) (sums_alike ts hs))
      (λ fields hs. through (on_rec fields) (field_sums_alike fields hs))
      (λ ts hs. through (on_tup ts) (sums_alike ts hs))
      (λ a b p q. let e = on_arrow a b in omega (arith, e.0, e.1, p, q))
    where
      through : {m n p q : ℕ} → (m ≡ p) × (n ≡ q) → min p limit ≡ min q limit → min m limit ≡ min n limit
      through e h = ap (λ k. min k limit) e.0 ∙ h ∙ sym (ap (λ k. min k limit) e.1)

-- ---- no sizes given, and sizes up to the limit
no_sizes_alike : (limit : ℕ) (t : Ty) → min (sized [] t) limit ≡ min (size_of t) limit
no_sizes_alike limit = alike limit (sized []) size_of
    (λ v. ap (λ n. min n limit) (sized_var [] v ∙ sym (size_var v)))
    (λ name ts. (sized_con [] name ts, size_con name ts))
    (λ fields. (sized_rec [] fields, size_rec fields ∙ ap (λ ns. 1 + sum_of ns) (field_sizes fields)))
    (λ ts. (sized_tup [] ts, size_tup ts))
    (λ a b. (sized_arrow [] a b, size_arrow a b))
  where
    field_sizes : (fields : List Field) → map field_size fields ≡ map (λ field. size_of field.ty) fields
    field_sizes [] = refl
    field_sizes (field ∷ fields) = ap₂ ◌∷◌ (size_field field) (field_sizes fields)

pub no_sizes : (limit : ℕ) (sizes : List ℕ) (t : Ty) → sizes ≡ [] → min (sized sizes t) limit ≡ min (size_of t) limit
no_sizes limit sizes t e = ap (λ ns. min (sized ns t) limit) e ∙ no_sizes_alike limit t

limited_at : (limit : ℕ) (sizes : List ℕ) (n : ℕ) → min (size_at (slice_get (map (λ size. min size limit) sizes) n)) limit ≡ min (size_at (slice_get sizes n)) limit
limited_at limit [] n = refl
limited_at limit (size ∷ sizes) zero = omega arith
limited_at limit (size ∷ sizes) (suc n) = limited_at limit sizes n

pub limited_sizes : (limit : ℕ) (sizes : List ℕ) (t : Ty) → min (sized (map (λ size. min size limit) sizes) t) limit ≡ min (sized sizes t) limit
limited_sizes limit sizes = let limited = map (λ size. min size limit) sizes in alike limit (sized limited) (sized sizes)
    (λ v. ap (λ n. min n limit) (sized_var limited v) ∙ limited_at limit sizes v.n ∙ sym (ap (λ n. min n limit) (sized_var sizes v)))
    (λ name ts. (sized_con limited name ts, sized_con sizes name ts))
    (λ fields. (sized_rec limited fields, sized_rec sizes fields))
    (λ ts. (sized_tup limited ts, sized_tup sizes ts))
    (λ a b. (sized_arrow limited a b, sized_arrow sizes a b))

-- ---- the size of a type with others in place of its variables
module _ (sizes : List ℕ) (by : List Ty) where
  size_in_place : (v : VarId) (us : List Ty) (n : ℕ) → n < length us → sized sizes (or_variable v (slice_get us n)) ≡ size_at (slice_get (map (sized sizes) us) n)
  size_in_place v [] n l = absurd (omega (arith, l))
  size_in_place v (u ∷ us) zero l = refl
  size_in_place v (u ∷ us) (suc n) l = size_in_place v us n (omega (arith, l))

  abbrev within : Ty → Bool
  within = each_variable (allows (length by) true)

  abbrev Counts : Ty → Type 0
  Counts t = within t ≡ true → sized sizes (substituted by t) ≡ sized (map (sized sizes) by) t

  all_count : (ts : List Ty) → EachOf Counts ts → all_true (map within ts) ≡ true → sum_of (map (sized sizes) (map (substituted by) ts)) ≡ sum_of (map (sized (map (sized sizes) by)) ts)
  all_count [] hs e = refl
  all_count (t ∷ ts) hs e = let p = and_parts (within t) _ e in ap₂ ◌+◌ (hs.0 p.0) (all_count ts hs.1 p.1)

  fields_count : (fields : List Field) → EachOf (AtField Counts) fields → all_true (map (λ field. within field.ty) fields) ≡ true
      → sum_of (map (λ field. sized sizes field.ty) (map (at_type (substituted by)) fields)) ≡ sum_of (map (λ field. sized (map (sized sizes) by) field.ty) fields)
  fields_count [] hs e = refl
  fields_count (field ∷ fields) hs e = let p = and_parts (within field.ty) _ e in ap₂ ◌+◌ (hs.0 p.0) (fields_count fields hs.1 p.1)

  pub sized_substituted : (t : Ty) → VariablesBelow (length by) t → sized sizes (substituted by t) ≡ sized (map (sized sizes) by) t
  sized_substituted = let inside = substituted_inside by in let parts = variables_partwise (allows (length by) true) in let others = map (sized sizes) by in induct_type Counts
      (λ v e. ap (sized sizes) (substituted_var by v) ∙ size_in_place v by v.n (ltb-true v.n (length by) (and_parts (nat_lt v.n (length by)) _ (sym (each_variable_var (allows (length by) true) v) ∙ e)).0) ∙ sym (sized_var others v))
      (λ name ts hs e. ap (sized sizes) (substituted_con by name ts) ∙ sized_con sizes name _ ∙ ap (λ n. 1 + n) (all_count ts hs (parts.on_con name ts e)) ∙ sym (sized_con others name ts))
      (λ fields hs e. ap (sized sizes) (inside.on_rec fields) ∙ sized_rec sizes _ ∙ ap (λ n. 1 + n) (fields_count fields hs (parts.on_rec fields e)) ∙ sym (sized_rec others fields))
      (λ ts hs e. ap (sized sizes) (inside.on_tup ts) ∙ sized_tup sizes _ ∙ ap (λ n. 1 + n) (all_count ts hs (parts.on_tup ts e)) ∙ sym (sized_tup others ts))
      (λ a b p q e. let k = and_parts (within a) (within b) (parts.on_arrow a b e) in ap (sized sizes) (inside.on_arrow a b) ∙ sized_arrow sizes _ _ ∙ ap₂ (λ m n. 1 + (m + n)) (p k.0) (q k.1) ∙ sym (sized_arrow others a b))

-- ---- sums up to the limit
limited_sum : {A : Type 0} (limit : ℕ) (g : A → ℕ) (xs : List A) → min (1 + sum_of (map (λ x. min (g x) limit) xs)) limit ≡ min (1 + sum_of (map g xs)) limit
limited_sum limit g [] = refl
limited_sum limit g (x ∷ xs) = let h = limited_sum limit g xs in omega (arith, h)

pub counted_parts : {A : Type 0} (limit n total : ℕ) (g : A → ℕ) (xs : List A) → total ≡ min (sum_of (map (λ x. min (g x) limit) xs)) limit → n ≡ min (1 + total) limit → n ≡ min (1 + sum_of (map g xs)) limit
counted_parts limit n total g xs e f = let h = limited_sum limit g xs in omega (arith, e, f, h)

pub counted_sides : (limit n first second sum left right : ℕ) → first ≡ min left limit → second ≡ min right limit → sum ≡ min (1 + first) limit → n ≡ min (sum + second) limit → n ≡ min (1 + (left + right)) limit
counted_sides limit n first second sum left right a b c d = omega (arith, a, b, c, d)

pub counted_more : {A : Type 0} (limit total sum part : ℕ) (g : A → ℕ) (xs : List A) (i : ℕ) (x : A) (all : ℕ) → i < length xs → x ≡ get_or xs i x → part ≡ g x → sum ≡ min (total + part) limit
    → min (total + sum_of (map g (drop i xs))) limit ≡ all → (sum ≤ limit) × (min (sum + sum_of (map g (drop (i + 1) xs))) limit ≡ all)
counted_more limit total sum part g xs i x all l e p s h =
    let here : sum_of (map g (drop i xs)) ≡ g x + sum_of (map g (drop (i + 1) xs)) = first_of g xs i x l e in
    (omega (arith, s), omega (arith, s, p, h, here))
  where
    first_of : {A : Type 0} (g : A → ℕ) (xs : List A) (i : ℕ) (x : A) → i < length xs → x ≡ get_or xs i x → sum_of (map g (drop i xs)) ≡ g x + sum_of (map g (drop (i + 1) xs))
    first_of g [] i x l e = absurd (omega (arith, l))
    first_of g (y ∷ xs) zero x l e = ap (λ z. g z + sum_of (map g xs)) (sym e)
    first_of g (y ∷ xs) (suc i) x l e = first_of g xs i x (omega (arith, l)) e ∙ ap (λ k. g x + sum_of (map g (drop k (y ∷ xs)))) (let more : suc (i + 1) ≡ suc i + 1 = omega arith in more)

-- ---- what stands for the parameters
append_assoc : {A : Type 0} (xs : List A) (y : A) (zs : List A) → xs ++ y ∷ zs ≡ (xs ++ y ∷ []) ++ zs
append_assoc [] y zs = refl
append_assoc (x ∷ xs) y zs = ap (λ rest. x ∷ rest) (append_assoc xs y zs)

pub done_later : (f : Ty → ℕ) (xs : List Ty) (count : ℕ) (x : Ty) (size : ℕ) (done : Bor Sizes) → (count ≡ 0 → ⊥) → count ≤ length xs → x ≡ get_or xs (count - 1) x → size ≡ f x
    → map f (take (count - 1) xs) ++ listed (variants.Then size done) ≡ map f (take count xs) ++ listed done.now
done_later f xs count x size done some l e s =
    ap (λ rest. map f (take (count - 1) xs) ++ rest) (listed_then size done ∙ ap (λ n. n ∷ listed done.now) s)
    ∙ append_assoc (map f (take (count - 1) xs)) (f x) (listed done.now)
    ∙ ap (λ ns. ns ++ listed done.now) (sym (last_taken f xs count x some l e))

module _ (limit : ℕ) (sizes : List ℕ) (rs : List Realization) where
  pub sizes_done : (ts parts : List Ty) → parts ≡ ts → map (λ t. min (sized sizes (resolved rs t)) limit) (take (length parts) parts) ++ listed variants.Nothing ≡ map (λ t. min (sized sizes (resolved rs t)) limit) ts
  sizes_done ts parts e = ap (λ rest. map (λ t. min (sized sizes (resolved rs t)) limit) (take (length parts) parts) ++ rest) listed_nothing ∙ append-nil _ ∙ ap (map (λ t. min (sized sizes (resolved rs t)) limit)) (take_all (length parts) parts (omega arith) ∙ e)

  pub counted_application : (env : List ℕ) (ts : List Ty) (body t : Ty) → env ≡ map (λ t. min (sized sizes (resolved rs t)) limit) ts → VariablesBelow (length (map (resolved rs) ts)) body
      → substituted (map (resolved rs) ts) body ≡ resolved rs t → min (sized env body) limit ≡ min (sized sizes (resolved rs t)) limit
  counted_application env ts body t e below is =
      ap (λ ns. min (sized ns body) limit) (e ∙ sym (map_map (λ size. min size limit) (λ t. sized sizes (resolved rs t)) ts) ∙ ap (map (λ size. min size limit)) (sym (map_map (sized sizes) (resolved rs) ts)))
      ∙ limited_sizes limit (map (sized sizes) (map (resolved rs) ts)) body
      ∙ sym (ap (λ n. min n limit) (sized_substituted sizes (map (resolved rs) ts) body below))
      ∙ ap (λ z. min (sized sizes z) limit) is

  pub counted_name : (name : NameId) (ts parts : List Ty) (t : Ty) (total n : ℕ) → ty.Con name (map (resolved rs) ts) ≡ resolved rs t → parts ≡ ts → total ≡ min (sum_of (map (λ t. min (sized sizes (resolved rs t)) limit) parts)) limit
      → n ≡ min (1 + total) limit → n ≡ min (sized sizes (resolved rs t)) limit
  counted_name name ts parts t total n is p e f =
      counted_parts limit n total (λ t. sized sizes (resolved rs t)) ts (e ∙ ap (λ us. min (sum_of (map (λ t. min (sized sizes (resolved rs t)) limit) us)) limit) p) f
      ∙ ap (λ ns. min (1 + sum_of ns) limit) (sym (map_map (sized sizes) (resolved rs) ts))
      ∙ ap (λ k. min k limit) (sym (sized_con sizes name (map (resolved rs) ts)) ∙ ap (sized sizes) is)

  pub counted_tup : (ts parts : List Ty) (t : Ty) (total n : ℕ) → t ≡ ty.Tup ts → parts ≡ ts → total ≡ min (sum_of (map (λ t. min (sized sizes (resolved rs t)) limit) parts)) limit
      → n ≡ min (1 + total) limit → n ≡ min (sized sizes (resolved rs t)) limit
  counted_tup ts parts t total n is p e f =
      counted_parts limit n total (λ t. sized sizes (resolved rs t)) ts (e ∙ ap (λ us. min (sum_of (map (λ t. min (sized sizes (resolved rs t)) limit) us)) limit) p) f
      ∙ ap (λ ns. min (1 + sum_of ns) limit) (sym (map_map (sized sizes) (resolved rs) ts))
      ∙ ap (λ k. min k limit) (sym (sized_tup sizes (map (resolved rs) ts)) ∙ ap (sized sizes) (sym (ap (resolved rs) is ∙ resolved_tup rs ts)))

  pub counted_rec : (fields parts : List Field) (t : Ty) (total n : ℕ) → t ≡ ty.Rec fields → parts ≡ fields → total ≡ min (sum_of (map (λ field. min (sized sizes (resolved rs field.ty)) limit) parts)) limit
      → n ≡ min (1 + total) limit → n ≡ min (sized sizes (resolved rs t)) limit
  counted_rec fields parts t total n is p e f =
      counted_parts limit n total (λ (field : Field). sized sizes (resolved rs field.ty)) fields (e ∙ ap (λ (us : List Field). min (sum_of (map (λ field. min (sized sizes (resolved rs field.ty)) limit) us)) limit) p) f
      ∙ ap (λ ns. min (1 + sum_of ns) limit) (sym (map_map (λ (field : Field). sized sizes field.ty) (field_resolved rs) fields))
      ∙ ap (λ k. min k limit) (sym (sized_rec sizes (map (field_resolved rs) fields)) ∙ ap (sized sizes) (sym (ap (resolved rs) is ∙ resolved_rec rs fields)))

  pub counted_arrow : (a b t : Ty) (first second sum n : ℕ) → t ≡ ty.Arrow a b → first ≡ min (sized sizes (resolved rs a)) limit → second ≡ min (sized sizes (resolved rs b)) limit → sum ≡ min (1 + first) limit
      → n ≡ min (sum + second) limit → n ≡ min (sized sizes (resolved rs t)) limit
  counted_arrow a b t first second sum n is p q e f =
      counted_sides limit n first second sum _ _ p q e f
      ∙ ap (λ k. min k limit) (sym (sized_arrow sizes (resolved rs a) (resolved rs b)) ∙ ap (sized sizes) (sym (ap (resolved rs) is ∙ resolved_arrow rs a b)))

  pub counted_var : (v : VarId) (t : Ty) (n : ℕ) → t ≡ ty.Var v → n ≡ size_at (slice_get sizes v.n) → n ≤ limit → n ≡ min (sized sizes (resolved rs t)) limit
  counted_var v t n is e l =
      (let least : n ≡ min n limit = omega (arith, l) in least)
      ∙ ap (λ k. min k limit) (e ∙ sym (sized_var sizes v) ∙ ap (sized sizes) (sym (ap (resolved rs) is ∙ resolved_var rs v)))
