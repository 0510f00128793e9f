-- All parts of a valid library have texts.
use Rattle.std.proofs.Common.{◌≡◌, ℕ, ◌+◌, ◌^◌, ◌<◌, ◌≤◌, ◌⊎◌, Bool, true, false, not, if◌then◌else◌, List, [], ◌∷◌, length, map, nat_lt, Option, Some, None, refl, sym, ap, subst, ◌∙◌, arith, inl, inr}
use Rattle.std.proofs.lemmas.Bool.{ltb-true}
use Rattle.std.proofs.lemmas.List.{length-append}
use Rattle.std.proofs.lemmas.List.Elements.{All-cons, All-head, All-map, All-nil, All-tail}
use Rattle.std.specs.List.{All, Contains, filter}
use Rattle.std.specs.Prelude.{slice_index_or}
use Rattle.lib_index.specs.IndexText.{equality_byte, marks}
use Rattle.lib_index.specs.Reading.{equality_of}
use Rattle.lib_index.proofs.Charging.{name_cost, names_cost, path_cost, sum_among, sum_appended}
use Rattle.lib_index.proofs.Items.{FitsMember, FitsName, FitsScheme, FitsTycon}
use Rattle.lib_index.proofs.Libraries.{FitsLibrary}
use Rattle.lib_index.proofs.SchemeMarks.{order_length, scheme_told}
use Rattle.lib_index.proofs.EachOf.{both, each_both, each_true}
use Rattle.lib_index.proofs.TypesComplete.{Fits, HasLength, IsKnown}
use Rattle.lib_index.proofs.TypesSound.{IsTold}
use Rattle.type_core.specs.declared.library.Library.{Library}
use Rattle.type_core.specs.declared.library.Tycon.{Tycon}
use Rattle.type_core.specs.declared.library.Unit as declared
use Rattle.type_core.specs.declared.member.Member.{Member}
use Rattle.type_core.specs.declared.names.Equality.{Equality}
use Rattle.type_core.specs.declared.names.Equality.TheVariants.{Never, IfArgs}
use Rattle.type_core.specs.declared.names.TypeName.{TypeName}
use Rattle.type_core.specs.declared.ty.Scheme.{Scheme}
use Rattle.type_core.specs.declared.ty.Ty.{Ty}
use Rattle.type_core.specs.declared.ty.VarId.{VarId}
use Rattle.type_core.specs.InitialNames.{initial_names}
use Rattle.type_core.specs.Lists.{sum_of}
use Rattle.type_core.specs.Schemes.{IsScheme}
use Rattle.type_core.specs.Substitution.{allows}
use Rattle.type_core.specs.TypeFunctions.{IsTypeFn}
use Rattle.type_core.specs.ValidLibrary.{IsLabel, IsTypeOf, IsValidLibrary, IsWithinLimits, described_names, external_names, own_names}
use Rattle.type_core.specs.Variables.{variables}
use Rattle.type_core.specs.Weight.{labels_of, library_weight, member_weight, name_weight, tycon_weight, unit_weight}
use Rattle.type_core.proofs.EachVariable.{each_variable_is_listed}
use Rattle.type_core.proofs.Places.{variable_eq}
use Rattle.type_core.proofs.Renamed.{variables_bounded}
use Rattle.type_core.proofs.SchemeVariables.{scheme_variables_below}
use Rattle.type_core.proofs.Trees.{EachOf}

pub each_of_all : {A : Type 0} (P : A → Type 0) (xs : List A) → All P xs → EachOf P xs
each_of_all P [] h = tt
each_of_all P (x ∷ xs) h = (All-head P x xs h, each_of_all P xs (All-tail P x xs h))

-- each part of a sum is at most the sum
all_within : {A : Type 0} (w : A → ℕ) (xs : List A) (most : ℕ) → sum_of (map w xs) ≤ most → All (λ x. w x ≤ most) xs
all_within w [] most l = All-nil (λ x. w x ≤ most)
all_within w (x ∷ xs) most l = All-cons (λ y. w y ≤ most) x xs (omega (arith, l)) (all_within w xs most
    (omega (arith, l)))

-- there are no more values than they weigh where each weighs something
count_within : {A : Type 0} (w : A → ℕ) → ((x : A) → 1 ≤ w x) → (xs : List A) → length xs ≤ sum_of (map w xs)
count_within w h [] = omega arith
count_within w h (x ∷ xs) = omega (arith, h x, count_within w h xs)

-- ---- types

labels_have_lengths : (labels : List (List ℕ)) → All IsLabel labels → EachOf HasLength labels
labels_have_lengths labels h = each_of_all HasLength labels (λ k d l. omega (arith, (h k d l).0))

allowed_below : (n : ℕ) (marks : Bool) (v : VarId) → allows n marks v ≡ true → v.n < n
allowed_below n marks v e = ltb-true v.n n (both (nat_lt v.n n) (if v.eq then marks else true) e).0

unmarked : (mark : Bool) → (if mark then false else true) ≡ true → false ≡ mark
unmarked true e = e
unmarked false e = refl

type_fits : (library : Library) (marks : Option (List Bool)) (t : Ty) → IsTypeOf library t → IsWithinLimits t
    → EachOf (IsKnown library.names marks) (variables t) → Fits library.names marks 200 t
type_fits library marks t is within known = record {
  low = within.height;
  nodes = omega (arith, within.nodes);
  over = is.over.over;
  known = known;
  labels = labels_have_lengths (labels_of t) is.labels;
}

-- ---- names

equality_kept : (equality : Equality) → (equality ≡ Never) ⊎ (equality ≡ IfArgs) → equality_of
    (equality_byte equality) ≡ Some equality
equality_kept equality (inl e) = subst (λ z. equality_of (equality_byte z) ≡ Some z) (sym e) refl
equality_kept equality (inr e) = subst (λ z. equality_of (equality_byte z) ≡ Some z) (sym e) refl

-- what is so of the values that pass a test and of those that don't
all_filtered : {A : Type 0} (P : A → Type 0) (test : A → Bool) (xs : List A)
    → All P (filter test xs) → All P (filter (λ x. not (test x)) xs) → All P xs
all_filtered P test [] p q = All-nil P
all_filtered P test (x ∷ xs) p q = cases (test x) (filter test xs) (filter (λ y. not (test y)) xs) p q
    (all_filtered P test xs)
  where
    cases : (b : Bool) (ys zs : List _) → All P (if b then x ∷ ys else ys) → All P (if not b then x ∷ zs else zs)
        → (All P ys → All P zs → All P xs) → All P (x ∷ xs)
    cases true ys zs p q others = All-cons P x xs (All-head P x ys p) (others (All-tail P x ys p) q)
    cases false ys zs p q others = All-cons P x xs (All-head P x zs q) (others p (All-tail P x zs q))

abbrev HasEquality : TypeName → Type 0
HasEquality name = equality_of (equality_byte name.equality) ≡ Some name.equality

module _ (library : Library) (valid : IsValidLibrary library) where
  abbrev own : List TypeName
  own = own_names library

  initial_weightless : sum_of (map name_weight library.names) ≡ sum_of (map name_weight own)
  initial_weightless =
      let parts : sum_of (map name_weight library.names) ≡ sum_of (map name_weight initial_names) + sum_of
      (map name_weight own) = ap (λ ns. sum_of (map name_weight ns)) valid.initial
      ∙ sum_appended name_weight initial_names own in
      omega (arith, parts)

  pub weights : sum_of (map unit_weight library.units) + (sum_of (map name_weight own) +
      (sum_of (map tycon_weight library.tycons) + sum_of (map member_weight library.members))) ≤ 8000000
  unfolding library_weight
  weights = omega (arith, valid.weight_limit, initial_weightless)

  paths_cost : (tycons : List Tycon) → sum_of (map path_cost (map (λ tycon. tycon.path) tycons)) ≤ sum_of
      (map tycon_weight tycons)
  paths_cost [] = omega arith
  paths_cost (tycon ∷ tycons) = omega (arith, paths_cost tycons)

  -- described names have the paths of as many type constructors
  pub described_among : (w : List ℕ → ℕ) → sum_of (map w (map (λ name. name.path) (described_names library)))
      ≤ sum_of (map w (map (λ tycon. tycon.path) library.tycons))
  described_among w =
      let paths = map (λ (tycon : Tycon). tycon.path) library.tycons in
      let described = described_names library in
      sum_among w (map (λ name. name.path) described) paths valid.described_distinct
      (All-map (Contains paths) (λ (name : TypeName). name.path) described valid.described_have_tycons)

  -- the paths of names weigh no more than the library
  own_cost : sum_of (map name_cost own) ≤ sum_of (map name_weight own) + sum_of (map tycon_weight library.tycons)
  own_cost = omega (arith, names_cost own, described_among path_cost, paths_cost library.tycons)

  equalities : All HasEquality own
  equalities = all_filtered HasEquality (λ name. name.external) own
      (λ k d l. equality_kept (slice_index_or (external_names library) k d).equality
      (inr (valid.external_equality k d l)))
      (λ k d l. equality_kept (slice_index_or (described_names library) k d).equality (valid.described_equality k d l))

  name_fits : (name : TypeName) → name_cost name ≤ 8000000 → name.arity ≤ 1999 → HasEquality name → FitsName name
  name_fits name cost few kept = record { path = omega (arith, cost); arity = omega (arith, few); equality = kept }

  names_fit : EachOf FitsName own
  names_fit =
      let few = weights in
      let costs = all_within name_cost own 8000000 (omega (arith, own_cost, few)) in
      each_of_all FitsName own (λ k d l. name_fits (slice_index_or own k d) (costs k d l) (valid.name_arities k d l)
      (equalities k d l))

  -- ---- type constructors

  function_known : (tycon : Tycon) → IsTypeFn tycon.fun → tycon.fun.arity ≤ 1999 → EachOf (IsKnown library.names None)
      (variables tycon.fun.body)
  function_known tycon is few =
      let test = allows tycon.fun.arity false in
      each_true (IsKnown library.names None) test
      (λ v e. (
        ap Some (variable_eq (record { n = v.n; eq = false }) v refl (unmarked v.eq (both (nat_lt v.n tycon.fun.arity)
            (if v.eq then false else true) e).1)),
        omega (arith, allowed_below tycon.fun.arity false v e, few),
      ))
      (variables tycon.fun.body) (sym (each_variable_is_listed test tycon.fun.body) ∙ is)

  tycon_fits : (tycon : Tycon) → tycon_weight tycon ≤ 8000000 → tycon.fun.arity ≤ 1999 → IsTypeFn tycon.fun
      → IsTypeOf library tycon.fun.body → IsWithinLimits tycon.fun.body → FitsTycon library.names tycon
  tycon_fits tycon weight few is over within = record {
    path = omega (arith, weight);
    arity = omega (arith, few);
    body = type_fits library None tycon.fun.body over within (function_known tycon is few);
    nodes = within.nodes;
  }

  tycons_fit : EachOf (FitsTycon library.names) library.tycons
  tycons_fit =
      let few = weights in
      let costs = all_within tycon_weight library.tycons 8000000 (omega (arith, few)) in
      each_of_all (FitsTycon library.names) library.tycons (λ k d l. tycon_fits (slice_index_or library.tycons k d)
      (costs k d l)
      (valid.tycon_arities k d l) (valid.tycon_functions k d l) (valid.tycon_types k d l) (valid.tycon_limits k d l))

  -- ---- members

  scheme_known : (scheme : Scheme) → IsScheme scheme → scheme.vars ≤ 2000 → EachOf (IsKnown library.names
      (Some (marks scheme))) (variables scheme.body)
  scheme_known scheme is few =
      let test = allows scheme.vars true in
      let below = each_true (λ (v : VarId). v.n < 2 ^ 32) test (λ v e. omega (
        arith,
        allowed_below scheme.vars true v e,
        few,
      )) (variables scheme.body)
      (sym (each_variable_is_listed test scheme.body) ∙ scheme_variables_below scheme is) in
      each_both (IsTold (Some (marks scheme))) (λ (v : VarId). v.n < 2 ^ 32) (variables scheme.body)
      (scheme_told scheme is) below

  scheme_fits : (scheme : Scheme) → IsScheme scheme → IsTypeOf library scheme.body → IsWithinLimits scheme.body
      → FitsScheme library.names scheme
  scheme_fits scheme is over within =
      let few : scheme.vars ≤ 2000 = omega (
        arith,
        order_length scheme is,
        variables_bounded scheme.body,
        within.nodes,
      ) in
      record {
        is_scheme = is;
        few = omega (arith, few);
        body = type_fits library (Some (marks scheme)) scheme.body over within (scheme_known scheme is few);
        nodes = within.nodes;
      }

  member_fits : (member : Member) → member_weight member ≤ 8000000 → IsScheme member.scheme
      → IsTypeOf library member.scheme.body → IsWithinLimits member.scheme.body → FitsMember library.names member
  member_fits member weight is over within =
      record { path = omega (arith, weight); scheme = scheme_fits member.scheme is over within }

  members_fit : EachOf (FitsMember library.names) library.members
  members_fit =
      let few = weights in
      let costs = all_within member_weight library.members 8000000 (omega (arith, few)) in
      each_of_all (FitsMember library.names) library.members (λ k d l. member_fits
      (slice_index_or library.members k d) (costs k d l)
      (valid.member_schemes k d l) (valid.member_types k d l) (valid.member_limits k d l))

  pub have_schemes : EachOf (λ (member : Member). IsScheme member.scheme) library.members
  have_schemes = each_of_all (λ (member : Member). IsScheme member.scheme) library.members valid.member_schemes

  units_fit : EachOf (λ (u : declared.Unit). HasLength u.id) library.units
  units_fit = each_of_all (λ (u : declared.Unit). HasLength u.id) library.units (λ k d l. omega (
    arith,
    valid.units_short k d l,
  ))

  pub library_fits : FitsLibrary library
  library_fits =
      let few = weights in
      let own_few : length own ≤ 8000000 = omega (
        arith,
        count_within name_cost (λ name. omega arith) own,
        own_cost,
        few,
      ) in
      let all_names : length library.names ≡ 14 + length own = ap length valid.initial
      ∙ length-append initial_names own in
      record {
        initial = valid.initial;
        few_units = omega (arith, count_within unit_weight (λ u. omega arith) library.units, few);
        units = units_fit;
        few_own = omega (arith, own_few);
        few_names = omega (arith, all_names, own_few);
        names = names_fit;
        few_tycons = omega (arith, count_within tycon_weight (λ tycon. omega arith) library.tycons, few);
        tycons = tycons_fit;
        few_members = valid.member_limit;
        members = members_fit;
        weight = few;
      }
