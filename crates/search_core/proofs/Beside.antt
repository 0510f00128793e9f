-- The type of a scheme in the variables of a query, and that it has one pair of converters.
use Rattle.std.proofs.Common.{◌≡◌, ℕ, Bool, true, false, if◌then◌else◌, IsTrue, List, Option, Result, Ok, Err, IfOk, refl, sym, ap, ◌∙◌, subst}
use Rattle.sig_base.specs.declared.no_memory.NoMemory.{NoMemory}
use Rattle.type_core.specs.declared.coordinate.Coordinate.{Coordinate}
use Rattle.type_core.specs.declared.ty.Scheme.{Scheme}
use Rattle.type_core.specs.declared.ty.Ty.{Ty}
use Rattle.type_core.specs.declared.ty.VarId.{VarId}
use Rattle.type_core.specs.Coordinates.{coordinates}
use Rattle.type_core.specs.Renaming.{Lists, Renaming, listed}
use Rattle.type_core.specs.Schemes.{IsScheme}
use Rattle.type_core.specs.Substitution.{substituted}
use Rattle.type_core.specs.Types.{IsType}
use Rattle.type_core.specs.Variables.{by_first_occurrence, occurs}
use Rattle.type_core.proofs.Listed.{renamed_is_substituted, scheme_listed}
use Rattle.type_core.proofs.Renamed.{renamed_alike}
use Rattle.type_core.proofs.RenamedMeasures.{type_renamed}
use Rattle.iso_normal.specs.declared.pair_tree.PairTree.{PairTree}
use Rattle.iso_normal.specs.Consistency.{IsConsistent, Turns}
use Rattle.iso_normal.specs.Pairings.{Pairs}
use Rattle.iso_normal.specs.PairTrees.{inverse}
use Rattle.iso_normal.proofs.Consistent.{coordinates_renamed, pairs_renamed}
use Rattle.iso_normal.proofs.CoordinateVariables.{pairs_over}
use Rattle.coord_match.specs.LeastPairing.{IsLeast}
use Rattle.coord_match.proofs.OneLeast.{one_renaming}
use Rattle.conv_typing.specs.InversePair.{IsInversePair}
use Rattle.conv_build.specs.declared.converters.Converters.{Converters}
use Rattle.conv_build.specs.ShortConverter.{IsShortConverter}
use Rattle.conv_build.proofs.DirectConverters.{one_short}
use Rattle.search_core.specs.Converters.{AreConverters, ArePartners, completed, numbered_from, staying, type_beside}
use Rattle.search_core.specs.Search.{IsPaired}

-- on the variables of the coordinates the completed renaming is the renaming
completed_inside : (r : Renaming) (s : Scheme) (from : ℕ) (v : VarId) → occurs v (staying s) ≡ true
    → completed r s from v ≡ r v
completed_inside r s from v o = ap (λ b. if b then r v else numbered_from from s v) o

-- the type beside the query is a type, and a consistent pairing pairs its coordinates identically
pub type_beside_is_type : (r : Renaming) (s query : Scheme) → IsType s.body → IsType (type_beside r s query)
type_beside_is_type r s query h = subst IsTrue (sym (type_renamed (completed r s query.vars) s.body)) h

pub paired_beside : (r : Renaming) (s query : Scheme) (d : List Coordinate) (p : PairTree)
    → IsConsistent r (coordinates s.body) d p → Pairs ◌≡◌ (coordinates (type_beside r s query)) d p
paired_beside r s query d p c =
    let all : List VarId = staying s in
    let g : Renaming = completed r s query.vars in
    let turned : Pairs (Turns g) (coordinates s.body) d p =
    pairs_over all (λ h k w e. renamed_alike g r h (λ v o. completed_inside r s query.vars v (w v o)) ∙ e) c.pairs
    (λ v o. o) in
    subst (λ cs. Pairs ◌≡◌ cs d p) (sym (coordinates_renamed g s.body)) (pairs_renamed g turned)

-- renamings that are one on the coordinates give one type
beside_alike : (q r : Renaming) (s query : Scheme) → ((v : VarId) → occurs v (staying s) ≡ true → q v ≡ r v)
    → type_beside q s query ≡ type_beside r s query
beside_alike q r s query same =
    renamed_alike (completed q s query.vars) (completed r s query.vars) s.body (λ v o. go v (occurs v (staying s)) refl)
  where
    go : (v : VarId) (b : Bool) → occurs v (staying s) ≡ b
        → (if b then q v else numbered_from query.vars s v) ≡ (if b then r v else numbered_from query.vars s v)
    go v true i = same v i
    go v false out = refl

-- there is one pair of converters
pub one_pair : (a b : Ty) (p : PairTree) (c d : Converters) → AreConverters a b p c → AreConverters a b p d → c ≡ d
one_pair a b p c d are also =
    let to = one_short a b p c.to d.to are.to also.to in
    let from = one_short b a (inverse p) c.from d.from are.from also.from in
    λ i. record { to = to i; from = from i }

pub one_converters : (s query : Scheme) (p : PairTree) (c d : Converters) → IsPaired s query p c → IsPaired s query p d
    → c ≡ d
one_converters s query p c d first second =
    let same : type_beside first.renaming s query ≡ type_beside second.renaming s query = beside_alike first.renaming
    second.renaming s query (one_renaming first.least second.least) in
    one_pair (type_beside second.renaming s query) query.body p c d
    (subst (λ a. AreConverters a query.body p c) same first.converters) second.converters

-- substituting the images of the scheme's variables gives the type beside the query
pub beside_is : (s query : Scheme) (partners : List (Option VarId)) (by : List Ty) → IsScheme s
    → ((r : Renaming) → ArePartners partners r s → by ≡ listed (completed r s query.vars) (by_first_occurrence s.body))
    → (read : Result Ty NoMemory) → IfOk read (λ t. t ≡ substituted by s.body)
    → IfOk read (λ t. (r : Renaming) → ArePartners partners r s → t ≡ type_beside r s query)
beside_is s query partners by is images (Err e) value = tt
beside_is s query partners by is images (Ok t) value = λ r tells.
    let g : Renaming = completed r s query.vars in
    value ∙ sym
    (renamed_is_substituted g by s.body (subst (Lists g s.body) (sym (images r tells)) (scheme_listed g s is)))

-- what was found for the partners is the type beside, also where they were handed over as another list
pub own_is : (s query : Scheme) (partners handed : List (Option VarId)) (own : Ty) → handed ≡ partners
    → ((r : Renaming) → ArePartners handed r s → own ≡ type_beside r s query)
    → (r : Renaming) → ArePartners partners r s → own ≡ type_beside r s query
own_is s query partners handed own same value r tells = value r (subst (λ ps. ArePartners ps r s) (sym same) tells)

-- the converters that were built are the hit's
pub are_paired : (s query : Scheme) (p : PairTree) (r : Renaming)
    → IsLeast r (coordinates s.body) (coordinates query.body) p → (own : Ty) → own ≡ type_beside r s query
    → (built : Result Converters NoMemory)
    → IfOk built (λ c. IsShortConverter own query.body p c.to)
    → IfOk built (λ c. IsShortConverter query.body own (inverse p) c.from)
    → IfOk built (λ c. IsInversePair own query.body c.to c.from)
    → IfOk built (IsPaired s query p)
are_paired s query p r least own is (Err e) to from undone = tt
are_paired s query p r least own is (Ok c) to from undone = record {
  renaming = r;
  least = least;
  converters = subst (λ a. AreConverters a query.body p c) is (record { to = to; from = from; inverse_pair = undone });
}
