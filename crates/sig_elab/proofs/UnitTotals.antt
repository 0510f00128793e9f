-- What units come to with one more, and the limits of a library.
use Rattle.std.proofs.Common.{◌≡◌, ℕ, suc, ◌+◌, ◌<◌, ◌≤◌, ◌&&◌, Bool, true, false, not, if◌then◌else◌, min, nat_le, List, [], ◌∷◌, ◌++◌, length, map, slice_get, slice_index_or, Some, Ok, refl, sym, ap, ap₂, ◌∙◌, arith}
use Rattle.std.proofs.lemmas.Bool.{and_parts, le-leb, lt-leb}
use Rattle.std.proofs.lemmas.List.{length-append, length-map}
use Rattle.std.proofs.lemmas.Option.{slice_get_within}
use Rattle.type_core.specs.declared.library.Tycon.{Tycon}
use Rattle.type_core.specs.declared.member.Member.{Member}
use Rattle.type_core.specs.declared.names.TypeName.{TypeName}
use Rattle.type_core.specs.declared.ty.Ty.{Ty}
use Rattle.type_core.specs.InitialNames.{initial_names}
use Rattle.type_core.specs.Lists.{concatenated, sum_of}
use Rattle.type_core.specs.NormalSize.{normal_size_of}
use Rattle.type_core.specs.Schemes.{closed}
use Rattle.type_core.specs.Weight.{library_weight, member_weight, name_weight, tycon_weight, type_weight, unit_weight}
use Rattle.elab_env.specs.Names.{is_described, is_own}
use Rattle.elab_env.specs.Sound.{IsSound}
use Rattle.elab_rules.specs.declared.entry.UnitEntry.{UnitEntry}
use Rattle.elab_rules.specs.declared.progress.Progress.{Progress}
use Rattle.elab_rules.specs.declared.refusal.Why.TheVariants.{LibraryTooLarge, TooManyMembers}
use Rattle.sig_elab.specs.declared.totals.Totals.{Totals}
use Rattle.elab_rules.specs.Copies.{with_numbers}
use Rattle.elab_rules.specs.Files.{library_limited, normal_sum}
use Rattle.elab_rules.specs.Library.{Basis, empty_basis, kept_names, library, number_kept, unit_members, unit_of, unit_tycons}
use Rattle.elab_rules.specs.Outcome.{Outcome}
use Rattle.elab_types.specs.Outcome.{checked, failed}
use Rattle.elab_types.proofs.Lists.{concatenated_more}
use Rattle.elab_rules.specs.States.{State, within}
use Rattle.sig_elab.specs.Totals.{AreTotals, described_weight}
use Rattle.elab_rules.specs.Tracking.{IsTracked}
use Rattle.elab_rules.specs.Views.{gone_of, state_of}
use Rattle.sig_elab.proofs.KeptNumbers.{gone_at, not_realized}
use Rattle.sig_elab.proofs.ListedAlike.{units_members_alike, units_tycons_alike}
use Rattle.elab_types.proofs.Renamed.{as_normal, labels_renamed, size_renamed}
use Rattle.elab_rules.proofs.Renumbered.{labels_numbered, normal_size_numbered, size_numbered}

-- ---- lists of one more
sum_appended : {A : Type 0} (f : A → ℕ) (xs ys : List A) → sum_of (map f (xs ++ ys)) ≡ sum_of (map f xs) + sum_of (map f ys)
sum_appended f [] ys = omega arith
sum_appended f (x ∷ xs) ys = omega (arith, sum_appended f xs ys)

-- ---- one unit more
abbrev basis : List UnitEntry → State → Basis
basis units s = record { units = units; state = s }

abbrev of_body : Member → ℕ
of_body member = normal_size_of member.scheme.body

units_more : (units : List UnitEntry) (unit : UnitEntry) → sum_of (map unit_weight (map unit_of (units ++ unit ∷ []))) ≡ sum_of (map unit_weight (map unit_of units)) + (1 + length unit.id)
units_more [] unit = omega arith
units_more (u ∷ units) unit = omega (arith, units_more units unit)

tycons_more : (units : List UnitEntry) (unit : UnitEntry) → sum_of (map tycon_weight (concatenated (map unit_tycons (units ++ unit ∷ [])))) ≡ sum_of (map tycon_weight (concatenated (map unit_tycons units))) + sum_of (map tycon_weight (unit_tycons unit))
tycons_more units unit = ap (λ ts. sum_of (map tycon_weight ts)) (concatenated_more unit_tycons units unit) ∙ sum_appended tycon_weight (concatenated (map unit_tycons units)) (unit_tycons unit)

all_members_more : (units : List UnitEntry) (unit : UnitEntry) → sum_of (map member_weight (concatenated (map unit_members (units ++ unit ∷ [])))) ≡ sum_of (map member_weight (concatenated (map unit_members units))) + sum_of (map member_weight (unit_members unit))
all_members_more units unit = ap (λ ms. sum_of (map member_weight ms)) (concatenated_more unit_members units unit) ∙ sum_appended member_weight (concatenated (map unit_members units)) (unit_members unit)

-- the weight of units, as they were written, without the names
abbrev plain_weight : List UnitEntry → ℕ
plain_weight units = sum_of (map unit_weight (map unit_of units)) + (sum_of (map tycon_weight (concatenated (map unit_tycons units))) + sum_of (map member_weight (concatenated (map unit_members units))))

members_more : (units : List UnitEntry) (unit : UnitEntry) → length (concatenated (map unit_members (units ++ unit ∷ []))) ≡ length (concatenated (map unit_members units)) + length (unit_members unit)
members_more units unit = ap length (concatenated_more unit_members units unit) ∙ length-append (concatenated (map unit_members units)) (unit_members unit)

normal_more : (units : List UnitEntry) (unit : UnitEntry) → sum_of (map of_body (concatenated (map unit_members (units ++ unit ∷ [])))) ≡ sum_of (map of_body (concatenated (map unit_members units))) + sum_of (map of_body (unit_members unit))
normal_more units unit =
    ap (λ ms. sum_of (map of_body ms)) (concatenated_more unit_members units unit)
    ∙ sum_appended of_body (concatenated (map unit_members units)) (unit_members unit)

sums : (u t m u' t' m' a b c : ℕ) → u' ≡ u + a → t' ≡ t + b → m' ≡ m + c → u' + (t' + m') ≡ (u + (t + m)) + (a + (b + c))
sums u t m u' t' m' a b c eu et em = omega (arith, eu, et, em)

weight_more : (units : List UnitEntry) (unit : UnitEntry) → plain_weight (units ++ unit ∷ []) ≡ plain_weight units + ((1 + length unit.id) + (sum_of (map tycon_weight (unit_tycons unit)) + sum_of (map member_weight (unit_members unit))))
weight_more units unit = sums _ _ _ _ _ _ _ _ _ (units_more units unit) (tycons_more units unit) (all_members_more units unit)

added_up : (total count whole part now most : ℕ) → total ≡ min whole most → count ≡ min part most → now ≡ min (total + count) most → now ≡ min (whole + part) most
added_up total count whole part now most t c n = omega (arith, t, c, n)

added_exactly : (total count whole part now most : ℕ) → total ≡ min whole most → count ≡ part → now ≡ min (total + count) most → now ≡ min (whole + part) most
added_exactly total count whole part now most t c n = omega (arith, t, c, n)

three_added : (total id tycons members now a b c most : ℕ) → id ≡ min a most → tycons ≡ min b most → members ≡ min c most → now ≡ min (min (min (total + id) most + tycons) most + members) most → now ≡ min (total + min (a + (b + c)) most) most
three_added total id tycons members now a b c most i t m n = omega (arith, i, t, m, n)

-- what units come to as they were written
record ArePlain (totals : Totals) (units : List UnitEntry) : Type 0 where
  members : totals.members ≡ min (length (concatenated (map unit_members units))) 0xffff_ffff_ffff_ffff
  normal : totals.normal ≡ min (sum_of (map of_body (concatenated (map unit_members units)))) 0xffff_ffff_ffff_ffff
  weight : totals.weight ≡ min (plain_weight units) 0xffff_ffff_ffff_ffff

-- names that are numbered anew weigh what they did
module _ (units : List UnitEntry) (s : State) where
  body_alike : (t : Ty) → normal_size_of (closed (with_numbers (number_kept s.gone) t)).body ≡ normal_size_of t
  body_alike t = (as_normal _ (with_numbers (number_kept s.gone) t)).normal ∙ normal_size_numbered (number_kept s.gone) t

  type_alike : (t : Ty) → type_weight (with_numbers (number_kept s.gone) t) ≡ type_weight t
  type_alike t = ap₂ (λ n (labels : List (List ℕ)). n + sum_of (map length labels)) (size_numbered (number_kept s.gone) t) (labels_numbered (number_kept s.gone) t)

  closed_alike : (t : Ty) → type_weight (closed (with_numbers (number_kept s.gone) t)).body ≡ type_weight t
  closed_alike t =
      ap₂ (λ n (labels : List (List ℕ)). n + sum_of (map length labels)) (size_renamed _ (with_numbers (number_kept s.gone) t)) (labels_renamed _ (with_numbers (number_kept s.gone) t))
      ∙ type_alike t

  members_count : length (library (basis units s)).members ≡ length (concatenated (map unit_members units))
  members_count =
      sym (length-map (library (basis units s)).members of_body)
      ∙ ap length (units_members_alike s.gone of_body (λ path value. body_alike value.scheme.body) units)
      ∙ length-map (concatenated (map unit_members units)) of_body

  normal_plain : normal_sum (basis units s) ≡ sum_of (map of_body (concatenated (map unit_members units)))
  normal_plain = ap sum_of (units_members_alike s.gone of_body (λ path value. body_alike value.scheme.body) units)

  weight_plain : described_weight (library (basis units s)) ≡ plain_weight units
  weight_plain =
      ap₂ (λ m n. sum_of (map unit_weight (map unit_of units)) + (m + n))
      (ap sum_of (units_tycons_alike s.gone tycon_weight (λ path type. ap (λ n. 1 + (length (within path type.id) + n)) (type_alike type.fun.body)) units))
      (ap sum_of (units_members_alike s.gone member_weight (λ path value. ap (λ n. 1 + (length (within path value.id) + n)) (closed_alike value.scheme.body)) units))

  plain_from : (totals : Totals) → AreTotals totals (basis units s) → ArePlain totals units
  plain_from totals are = record {
    members = are.members ∙ ap (λ n. min n 0xffff_ffff_ffff_ffff) members_count;
    normal = are.normal ∙ ap (λ n. min n 0xffff_ffff_ffff_ffff) normal_plain;
    weight = are.weight ∙ ap (λ n. min n 0xffff_ffff_ffff_ffff) weight_plain;
  }

  plain_to : (totals : Totals) → ArePlain totals units → AreTotals totals (basis units s)
  plain_to totals are = record {
    members = are.members ∙ ap (λ n. min n 0xffff_ffff_ffff_ffff) (sym members_count);
    normal = are.normal ∙ ap (λ n. min n 0xffff_ffff_ffff_ffff) (sym normal_plain);
    weight = are.weight ∙ ap (λ n. min n 0xffff_ffff_ffff_ffff) (sym weight_plain);
  }

pub totals_more : (totals more : Totals) (units : List UnitEntry) (unit : UnitEntry) (s t : State) (tycons tycon_items : List Tycon) (members member_items more_items : List Member) (count id weight normal of_tycons of_members : ℕ)
    → tycons ≡ unit_tycons unit → members ≡ unit_members unit → tycon_items ≡ tycons → member_items ≡ members → more_items ≡ members
    → count ≡ length members → weight ≡ min (id + 1) 0xffff_ffff_ffff_ffff → id ≡ length unit.id
    → normal ≡ min (sum_of (map of_body member_items)) 0xffff_ffff_ffff_ffff
    → of_members ≡ min (sum_of (map member_weight more_items)) 0xffff_ffff_ffff_ffff
    → of_tycons ≡ min (sum_of (map tycon_weight tycon_items)) 0xffff_ffff_ffff_ffff
    → more.members ≡ min (totals.members + count) 0xffff_ffff_ffff_ffff
    → more.normal ≡ min (totals.normal + normal) 0xffff_ffff_ffff_ffff
    → more.weight ≡ min (min (min (totals.weight + weight) 0xffff_ffff_ffff_ffff + of_tycons) 0xffff_ffff_ffff_ffff + of_members) 0xffff_ffff_ffff_ffff
    → AreTotals totals (basis units s) → AreTotals more (basis (units ++ unit ∷ []) t)
totals_more totals more units unit s t tycons tycon_items members member_items more_items count id weight normal of_tycons of_members is_tycons is_members t_items m_items r_items is_count is_weight is_id is_normal is_of_members is_of_tycons now_members now_normal now_weight so_far =
    let counted : count ≡ length (unit_members unit) = is_count ∙ ap length is_members in
    let normal_is : normal ≡ min (sum_of (map of_body (unit_members unit))) 0xffff_ffff_ffff_ffff = is_normal ∙ ap (λ ms. min (sum_of (map of_body ms)) 0xffff_ffff_ffff_ffff) (m_items ∙ is_members) in
    let members_are : of_members ≡ min (sum_of (map member_weight (unit_members unit))) 0xffff_ffff_ffff_ffff = is_of_members ∙ ap (λ ms. min (sum_of (map member_weight ms)) 0xffff_ffff_ffff_ffff) (r_items ∙ is_members) in
    let tycons_are : of_tycons ≡ min (sum_of (map tycon_weight (unit_tycons unit))) 0xffff_ffff_ffff_ffff = is_of_tycons ∙ ap (λ ts. min (sum_of (map tycon_weight ts)) 0xffff_ffff_ffff_ffff) (t_items ∙ is_tycons) in
    let id_is : weight ≡ min (1 + length unit.id) 0xffff_ffff_ffff_ffff = omega (arith, is_weight, is_id) in
    let plain = plain_from units s totals so_far in
    plain_to (units ++ unit ∷ []) t more (record {
      members = added_exactly totals.members count _ _ more.members _ plain.members counted now_members ∙ ap (λ n. min n 0xffff_ffff_ffff_ffff) (sym (members_more units unit));
      normal = added_up totals.normal normal _ _ more.normal _ plain.normal normal_is now_normal ∙ ap (λ n. min n 0xffff_ffff_ffff_ffff) (sym (normal_more units unit));
      weight =
          added_up totals.weight (min ((1 + length unit.id) + (sum_of (map tycon_weight (unit_tycons unit)) + sum_of (map member_weight (unit_members unit)))) 0xffff_ffff_ffff_ffff) _ _ more.weight _ plain.weight refl
          (three_added totals.weight weight of_tycons of_members more.weight _ _ _ 0xffff_ffff_ffff_ffff id_is tycons_are members_are now_weight)
          ∙ ap (λ n. min n 0xffff_ffff_ffff_ffff) (sym (weight_more units unit));
    })

-- ---- no units
pub nothing_weighs : (totals : Totals) → totals.members ≡ 0 → totals.normal ≡ 0 → totals.weight ≡ 0 → AreTotals totals empty_basis
nothing_weighs totals m n w = record { members = m; normal = n; weight = w }

-- ---- the weight of a library
all_weighed : (u t m n names total external weight most : ℕ) → total ≡ min (u + (t + m)) most → external ≡ min names most → n ≡ names → weight ≡ u + (t + (m + n)) → min (total + external) most ≡ min weight most
all_weighed u t m n names total external weight most a b c d = omega (arith, a, b, c, d)

-- names that are gone weigh nothing
kept_weight : (names : List TypeName) (flags : List Bool) → ((n : ℕ) (name : TypeName) → slice_get names n ≡ Some name → slice_index_or flags n false ≡ true → name_weight name ≡ 0)
    → sum_of (map name_weight (kept_names names flags)) ≡ sum_of (map name_weight names)
kept_weight [] flags light = refl
kept_weight (name ∷ names) [] light = ap (λ n. name_weight name + n) (kept_weight names [] (λ n x at gone. light (suc n) x at gone))
kept_weight (name ∷ names) (true ∷ flags) light =
    let zero_weight = light 0 name refl refl in
    let rest = kept_weight names flags (λ n x at gone. light (suc n) x at gone) in
    omega (arith, zero_weight, rest)
kept_weight (name ∷ names) (false ∷ flags) light = ap (λ n. name_weight name + n) (kept_weight names flags (λ n x at gone. light (suc n) x at gone))

own_weight : (name : TypeName) → is_own (Some name) ≡ true → name_weight name ≡ 0
own_weight name own = by_case name.external refl own
  where
    by_case : (b : Bool) → name.external ≡ b → not b ≡ true → (if name.external then 1 + length name.path else 0) ≡ 0
    by_case true is e = cc
    by_case false is e = ap (λ b. if b then 1 + length name.path else 0) is

-- a name that is gone was described
gone_weight : (p : Progress) → IsSound p.table → (n : ℕ) (name : TypeName) → slice_get p.table.names n ≡ Some name → slice_index_or (gone_of p.table) n false ≡ true → name_weight name ≡ 0
gone_weight p sound n name at gone = by_case (is_described p.table.names n) refl
  where
    within : n < length p.table.names
    within = slice_get_within p.table.names n name at

    by_case : (b : Bool) → is_described p.table.names n ≡ b → name_weight name ≡ 0
    by_case true is = own_weight name (ap is_own (sym at) ∙ (and_parts (nat_le (length initial_names) n) _ is).1)
    by_case false is =
        let left = not_realized p.table.names p.table.realizations n sound.realizations is in
        let flag = gone_at p.table n within in
        cc

-- what the library weighs, with the names from elsewhere
library_weighs : (totals : Totals) (p : Progress) (b : Basis) → IsSound p.table → IsTracked p → b.state ≡ state_of p → AreTotals totals b
    → min (totals.weight + p.external_weight) 0xffff_ffff_ffff_ffff ≡ min (library_weight (library b)) 0xffff_ffff_ffff_ffff
unfolding library_weight
library_weighs totals p b sound tracked same are =
    let names : sum_of (map name_weight (library b).names) ≡ sum_of (map name_weight p.table.names)
    = ap (λ (s : State). sum_of (map name_weight (kept_names s.names s.gone))) same ∙ kept_weight p.table.names (gone_of p.table) (gone_weight p sound) in
    all_weighed (sum_of (map unit_weight (library b).units)) (sum_of (map tycon_weight (library b).tycons)) (sum_of (map member_weight (library b).members)) _ _ totals.weight p.external_weight _ _ are.weight tracked.weighed names refl

-- ---- the limits
abbrev then_heavy : ℕ → Basis → Outcome Basis
then_heavy token basis = checked (nat_le (library_weight (library basis)) 8000000 && nat_le (normal_sum basis) 4000000) LibraryTooLarge token (Ok basis)

few : (totals : Totals) (basis : Basis) → AreTotals totals basis → totals.members ≤ 100000 → nat_le (length (library basis).members) 100000 ≡ true
few totals basis are below = le-leb (length (library basis).members) 100000 (omega (arith, are.members, below))

pub too_heavy : (totals : Totals) (p : Progress) (basis : Basis) (token heavier : ℕ) → IsSound p.table → IsTracked p → basis.state ≡ state_of p → AreTotals totals basis → totals.members ≤ 100000
    → heavier ≡ min (totals.weight + p.external_weight) 0xffff_ffff_ffff_ffff → 8000000 < heavier → library_limited token basis ≡ failed LibraryTooLarge token
too_heavy totals p basis token heavier sound tracked same are below e above =
    let weighs = library_weighs totals p basis sound tracked same are in
    let heavy : 8000000 < library_weight (library basis) = omega (arith, e, weighs, above) in
    ap (λ b. checked b TooManyMembers token (then_heavy token basis)) (few totals basis are below)
    ∙ ap (λ b. checked (b && nat_le (normal_sum basis) 4000000) LibraryTooLarge token (Ok basis)) (lt-leb (library_weight (library basis)) 8000000 heavy)

pub within_limits : (totals : Totals) (p : Progress) (basis : Basis) (token heavier : ℕ) → IsSound p.table → IsTracked p → basis.state ≡ state_of p → AreTotals totals basis → totals.members ≤ 100000
    → heavier ≡ min (totals.weight + p.external_weight) 0xffff_ffff_ffff_ffff → heavier ≤ 8000000 → totals.normal ≤ 4000000 → library_limited token basis ≡ Ok basis
within_limits totals p basis token heavier sound tracked same are below e light small =
    let weighs = library_weighs totals p basis sound tracked same are in
    ap (λ b. checked b TooManyMembers token (then_heavy token basis)) (few totals basis are below)
    ∙ ap (λ b. checked (b && nat_le (normal_sum basis) 4000000) LibraryTooLarge token (Ok basis)) (le-leb (library_weight (library basis)) 8000000 (omega (arith, e, weighs, light)))
    ∙ ap (λ b. checked b LibraryTooLarge token (Ok basis)) (le-leb (normal_sum basis) 4000000 (omega (arith, are.normal, small)))
