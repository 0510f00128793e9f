-- Types by their forms: atoms, tuples and arrows.
use Rattle.std.proofs.Common.{◌≢◌, List, [], ◌∷◌, ◌++◌, map, length, refl, sym, ap₂, ◌&&◌, subst}
use Rattle.type_core.specs.declared.ty.Ty.{Ty}
use Rattle.type_core.specs.declared.ty.Ty.TheVariants as ty
use Rattle.type_core.specs.Types.{IsType}
use Rattle.type_core.proofs.Trees.{EachOf, induct_type}
use Rattle.type_core.proofs.TypeTests.{all_are_types, arrow_is_type, sides_are_types, components_are_types, tuple_is_type}
use Rattle.conv_plain.specs.Functions.{arrows}
use Rattle.conv_plain.specs.CoordinateTypes.{coordinate_types}
use Rattle.conv_plain.proofs.Equations.{IsAtom, atom_var, atom_con, atom_rec, types_at_atom, types_tup, types_arrow, types_of_all}
use Rattle.conv_plain.proofs.Lists.{AreTypes, arrows_are_types}

mutual
  pub data Formed : Ty → Type 0 where
    atom : (t : Ty) → IsAtom t → IsType t → Formed t
    tup : (ts : List Ty) → length ts ≢ 1 → AllFormed ts → Formed (ty.Tup ts)
    arrow : (a b : Ty) → Formed a → Formed b → Formed (ty.Arrow a b)

  pub data AllFormed : List Ty → Type 0 where
    none : AllFormed []
    more : (t : Ty) (ts : List Ty) → Formed t → AllFormed ts → AllFormed (t ∷ ts)

abbrev IsFormed : Ty → Type 0
IsFormed t = IsType t → Formed t

all_formed : (ts : List Ty) → EachOf IsFormed ts → AreTypes ts → AllFormed ts
all_formed [] fs k = AllFormed.none
all_formed (t ∷ ts) fs k = let both = all_are_types t ts k in AllFormed.more t ts (fs.0 both.0) (all_formed ts fs.1 both.1)

pub formed : (t : Ty) → IsType t → Formed t
formed = induct_type IsFormed
    (λ v k. Formed.atom (ty.Var v) (atom_var v) k)
    (λ name ts fs k. Formed.atom (ty.Con name ts) (atom_con name ts) k)
    (λ fields fs k. Formed.atom (ty.Rec fields) (atom_rec fields) k)
    (λ ts fs k. let parts = components_are_types ts k in Formed.tup ts parts.0 (all_formed ts fs parts.1))
    (λ a b f g k. let parts = sides_are_types a b k in Formed.arrow a b (f parts.0) (g parts.1))

mutual
  pub formed_is_type : {t : Ty} → Formed t → IsType t
  formed_is_type (Formed.atom t is k) = k
  formed_is_type (Formed.tup ts l fs) = tuple_is_type ts l (formed_are_types fs)
  formed_is_type (Formed.arrow a b f g) = arrow_is_type a b (formed_is_type f) (formed_is_type g)

  pub formed_are_types : {ts : List Ty} → AllFormed ts → AreTypes ts
  formed_are_types AllFormed.none = refl
  formed_are_types (AllFormed.more t ts f fs) = ap₂ ◌&&◌ (formed_is_type f) (formed_are_types fs)

-- the types of the coordinates of a type are types
append_types : (ts us : List Ty) → AreTypes ts → AreTypes us → AreTypes (ts ++ us)
append_types [] us k l = l
append_types (t ∷ ts) us k l = let both = all_are_types t ts k in ap₂ ◌&&◌ both.0 (append_types ts us both.1 l)

each_arrow : (as' bs : List Ty) → AreTypes as' → AreTypes bs → AreTypes (map (arrows as') bs)
each_arrow as' [] k l = refl
each_arrow as' (b ∷ bs) k l = let both = all_are_types b bs l in ap₂ ◌&&◌ (arrows_are_types as' b k both.0) (each_arrow as' bs k both.1)

mutual
  pub coordinates_typed : {t : Ty} → Formed t → AreTypes (coordinate_types t)
  coordinates_typed (Formed.atom t is k) = subst AreTypes (sym (types_at_atom t is)) (ap₂ ◌&&◌ k refl)
  coordinates_typed (Formed.tup ts l fs) = subst AreTypes (sym (types_tup ts)) (all_coordinates_typed fs)
  coordinates_typed (Formed.arrow a b f g) = subst AreTypes (sym (types_arrow a b)) (each_arrow (coordinate_types a) (coordinate_types b) (coordinates_typed f) (coordinates_typed g))

  all_coordinates_typed : {ts : List Ty} → AllFormed ts → AreTypes (types_of_all ts)
  all_coordinates_typed AllFormed.none = refl
  all_coordinates_typed (AllFormed.more t ts f fs) = append_types (coordinate_types t) (types_of_all ts) (coordinates_typed f) (all_coordinates_typed fs)
