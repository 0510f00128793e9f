-- Meetings: what the variables of a pattern take, and what they are bound to by that.
use Rattle.std.specs.Prelude.{◌≡◌, ℕ, ◌==◌, if◌then◌else◌, ⊤, List, [], ◌∷◌, ◌++◌, Option, Some, None, map, slice_get}
use Rattle.std.specs.List.{range_with_len}
use Rattle.type_core.specs.declared.ty.NameId.{NameId}
use Rattle.type_core.specs.declared.ty.VarId.{VarId}
use Rattle.type_core.specs.declared.ty.Ty.{Ty}
use Rattle.type_core.specs.declared.ty.Field.{Field}
use Rattle.type_core.specs.declared.ty.Ty.TheOpen.{Ty-F, Var, Con, Rec, Tup, Arrow}
use Rattle.type_core.specs.declared.ty.Ty.TheViews.{out-Ty}
use Rattle.type_core.specs.Substitution.{or_variable}
use Rattle.iso_axioms.specs.Axioms.{unit}
use Rattle.iso_normal.specs.declared.factor.Factor.{Factor}
use Rattle.iso_normal.specs.Agreement.{Agree}
use Rattle.iso_normal.specs.Factors.{factors, type_of_factors}

-- a variable meets a list of factors loosely where it takes this list, and a type exactly where it stands inside an
-- atom in the place of this type
pub data Meeting : Type 0 where
  loosely : VarId → List Factor → Meeting
  exactly : VarId → Ty → Meeting

mutual
  -- the pattern and the type are one but for the pattern's variables, and these are the meetings of its variables, from
  -- left to right, with what stands in their places
  pub data Meets : Ty-F Ty Field → Ty → List Meeting → Type 0 where
    meets_variable : (v : VarId) (t : Ty) → Meets (Var v) t (exactly v t ∷ [])
    meets_application : {t : Ty} {ps ts : List Ty} {ms : List Meeting} (name : NameId) → out-Ty t ≡ Con name ts
        → MeetEach ps ts ms → Meets (Con name ps) t ms
    meets_record : {t : Ty} {ps ts : List Field} {ms : List Meeting} → out-Ty t ≡ Rec ts → MeetFields ps ts ms
        → Meets (Rec ps) t ms
    meets_tuple : {t : Ty} {ps ts : List Ty} {ms : List Meeting} → out-Ty t ≡ Tup ts → MeetEach ps ts ms
        → Meets (Tup ps) t ms
    meets_arrow : {p q t u v : Ty} {ms ns : List Meeting} → out-Ty t ≡ Arrow u v → Meets (out-Ty p) u ms
        → Meets (out-Ty q) v ns → Meets (Arrow p q) t (ms ++ ns)

  -- so it is with each pattern and the type at its place
  pub data MeetEach : List Ty → List Ty → List Meeting → Type 0 where
    meet_none : MeetEach [] [] []
    meet_more : {p t : Ty} {ps ts : List Ty} {ms ns : List Meeting} → Meets (out-Ty p) t ms → MeetEach ps ts ns
        → MeetEach (p ∷ ps) (t ∷ ts) (ms ++ ns)

  -- so it is with each field's pattern and the type of the field at its place, which has the same label
  pub data MeetFields : List Field → List Field → List Meeting → Type 0 where
    fields_none : MeetFields [] [] []
    fields_more : {p t : Field} {ps ts : List Field} {ms ns : List Meeting} → p.label ≡ t.label
        → Meets (out-Ty p.ty) t.ty ms → MeetFields ps ts ns → MeetFields (p ∷ ps) (t ∷ ts) (ms ++ ns)

-- the type for the variable: that of its number, and the variable itself where there is none
abbrev pub type_for : List Ty → VarId → Ty
type_for by v = or_variable v (slice_get by v.n)

-- the variable's type is the one that it meets exactly, or its factors agree with those that it meets loosely
abbrev pub Obeys : List Ty → Meeting → Type 0
Obeys by (loosely v fs) = Agree (factors (type_for by v)) fs
Obeys by (exactly v t) = type_for by v ≡ t

-- the types obey each of the meetings
abbrev pub ObeysAll : List Ty → List Meeting → Type 0
ObeysAll by [] = ⊤
ObeysAll by (m ∷ ms) = Obeys by m × ObeysAll by ms

-- where both are meetings of one variable: exact ones are with one type, loose ones with lists that agree, and of a
-- loose and an exact one the list agrees with the factors of the type
abbrev pub Fits : Meeting → Meeting → Type 0
Fits (loosely v fs) (loosely w gs) = v.n ≡ w.n → Agree fs gs
Fits (loosely v fs) (exactly w t) = v.n ≡ w.n → Agree (factors t) fs
Fits (exactly v t) (loosely w fs) = v.n ≡ w.n → Agree (factors t) fs
Fits (exactly v t) (exactly w u) = v.n ≡ w.n → t ≡ u

-- the meeting fits each of these
abbrev pub FitsAll : Meeting → List Meeting → Type 0
FitsAll m [] = ⊤
FitsAll m (n ∷ ms) = Fits m n × FitsAll m ms

-- each two of the meetings fit
abbrev pub AreConsistent : List Meeting → Type 0
AreConsistent [] = ⊤
AreConsistent (m ∷ ms) = FitsAll m ms × AreConsistent ms

-- the type of the first exact meeting of the variable of number n
abbrev pub first_type : ℕ → List Meeting → Option Ty
first_type n [] = None
first_type n (loosely v fs ∷ ms) = first_type n ms
first_type n (exactly v t ∷ ms) = if v.n == n then Some t else first_type n ms

-- the factors of the first loose meeting of the variable of number n
abbrev pub first_factors : ℕ → List Meeting → Option (List Factor)
first_factors n [] = None
first_factors n (loosely v fs ∷ ms) = if v.n == n then Some fs else first_factors n ms
first_factors n (exactly v t ∷ ms) = first_factors n ms

-- the type, or else the product of the factors; `unit` where there is neither
abbrev pub bound_to : Option Ty → Option (List Factor) → Ty
bound_to (Some t) fs = t
bound_to None (Some fs) = type_of_factors fs
bound_to None None = unit

-- what the variable of number n is bound to: the type that it meets exactly, or else the product of the factors of its
-- first loose meeting
abbrev pub binding : List Meeting → ℕ → Ty
binding ms n = bound_to (first_type n ms) (first_factors n ms)

-- what the variables of the numbers below `count` are bound to, in order
abbrev pub bindings : ℕ → List Meeting → List Ty
bindings count ms = map (binding ms) (range_with_len 0 count)
