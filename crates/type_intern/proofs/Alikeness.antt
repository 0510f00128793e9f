-- Equality of coordinates as nested multisets is an equivalence.
use Rattle.std.proofs.Common.{List, [], ◌∷◌, map, refl, sym, ◌∙◌, subst, inl, inr}
use Rattle.type_core.specs.declared.ty.Ty.{Ty}
use Rattle.type_core.specs.declared.coordinate.Coordinate.{Coordinate}
use Rattle.type_core.specs.declared.coordinate.Coordinate.TheViews.{roll-Coordinate}
use Rattle.type_core.specs.declared.coordinate.Coordinate.TheFolds.{ind-Coordinate}
use Rattle.type_core.specs.Coordinates.{coordinate}
use Rattle.type_intern.specs.Alike.{AreAlike, IsAlike, Takes, alike, more, none}
use Rattle.type_intern.proofs.CoordTops.{arguments_made}

-- of two that are taken, either may be the first
exchange : {A : Type 0} (x y : A) (all mid rest : List A) → Takes x all mid → Takes y mid rest
    → (other : List A) × Takes y all other × Takes x other rest
exchange x y [] mid rest t u = absurd t
exchange x y (z ∷ zs) mid rest t u = elim t [
  | inl p ↦ (z ∷ rest, inr (rest, subst (λ s. Takes y s rest) p.1 u, refl), inl (p.0, refl))
  | inr p ↦ elim (subst (λ s. Takes y s rest) p.2 u) [
    | inl q ↦ (zs, inl (q.0, refl), subst (Takes x zs) (sym q.1) p.1)
    | inr q ↦ let found = exchange x y zs p.0 q.0 p.1 q.1 in (
      z ∷ found.0,
      inr (found.0, found.1, refl),
      inr (q.0, found.2, q.2),
    )
  ]
]

module _ (seen : Ty → Ty) where
  all_refl : (es : List ((c : Coordinate) × IsAlike seen c c)) → AreAlike seen (map (λ e. e.0) es) (map (λ e. e.0) es)
  all_refl [] = none
  all_refl (e ∷ es) = more (inl (refl, refl)) e.1 (all_refl es)

  alike_refl : (c : Coordinate) → IsAlike seen c c
  alike_refl = ind-Coordinate (λ c. IsAlike seen c c) (λ x y is. subst
      (λ z. IsAlike seen (roll-Coordinate z) (roll-Coordinate z)) is (level y.arguments y.head))
    where
      level : (es : List ((c : Coordinate) × IsAlike seen c c)) (head : Ty)
          → IsAlike seen (coordinate (map (λ e. e.0) es) head) (coordinate (map (λ e. e.0) es) head)
      level es head = alike refl (subst (λ cs. AreAlike seen cs cs) (sym (arguments_made (map (λ e. e.0) es) head))
          (all_refl es))

  pub are_refl : (cs : List Coordinate) → AreAlike seen cs cs
  are_refl [] = none
  are_refl (c ∷ cs) = more (inl (refl, refl)) (alike_refl c) (are_refl cs)

  -- one of the second list that is alike, and what is left of the two without them
  record Partner (c : Coordinate) (cs ds : List Coordinate) : Type 0 where
    one : Coordinate
    left : List Coordinate
    takes : Takes one ds left
    is_alike : IsAlike seen c one
    others : AreAlike seen cs left

  partner : (c : Coordinate) (cs ds : List Coordinate) → AreAlike seen (c ∷ cs) ds → Partner c cs ds
  partner c cs ds (more {d = d} {rest = rest} takes first others) = record
      { one = d; left = rest; takes = takes; is_alike = first; others = others }

  put_alike : (d c : Coordinate) (ds rest cs : List Coordinate) → Takes d ds rest → IsAlike seen d c
      → AreAlike seen rest cs → AreAlike seen ds (c ∷ cs)
  put_alike d c [] rest cs t a b = absurd t
  put_alike d c (y ∷ ys) rest cs t a b = elim t [
    | inl p ↦ more (inl (refl, refl)) (subst (λ z. IsAlike seen z c) p.0 a) (subst (λ s. AreAlike seen s cs) p.1 b)
    | inr p ↦
        let found = partner y p.0 cs (subst (λ s. AreAlike seen s cs) p.2 b) in
        more (inr (found.left, found.takes, refl)) found.is_alike (put_alike d c ys p.0 found.left p.1 a found.others)
  ]

  mutual
    pub alike_sym : {c d : Coordinate} → IsAlike seen c d → IsAlike seen d c
    alike_sym (alike heads arguments) = alike (sym heads) (are_sym arguments)

    pub are_sym : {cs ds : List Coordinate} → AreAlike seen cs ds → AreAlike seen ds cs
    are_sym none = none
    are_sym (more {c = c} {d = d} {cs = cs} {ds = ds} {rest = rest} takes first others) = put_alike d c ds rest cs takes
        (alike_sym first) (are_sym others)

  -- the partner of one that is taken
  take_alike : (d : Coordinate) (ds rest es : List Coordinate) → Takes d ds rest → AreAlike seen ds es
      → Partner d rest es
  take_alike d [] rest es t b = absurd t
  take_alike d (y ∷ ys) rest es t (more {d = e} {rest = left} takes first others) = elim t [
    | inl p ↦ record {
      one = e;
      left = left;
      takes = takes;
      is_alike = subst (λ z. IsAlike seen z e) (sym p.0) first;
      others = subst (λ s. AreAlike seen s left) (sym p.1) others;
    }
    | inr p ↦
        let found = take_alike d ys p.0 left p.1 others in
        let other = exchange e found.one es left found.left takes found.takes in
        record {
          one = found.one;
          left = other.0;
          takes = other.1;
          is_alike = found.is_alike;
          others = subst (λ s. AreAlike seen s other.0) (sym p.2) (more other.2 first found.others);
        }
  ]

  mutual
    pub alike_trans : {c d e : Coordinate} → IsAlike seen c d → IsAlike seen d e → IsAlike seen c e
    alike_trans (alike heads arguments) (alike others more_arguments) = alike (heads ∙ others)
        (are_trans arguments more_arguments)

    pub are_trans : {cs ds es : List Coordinate} → AreAlike seen cs ds → AreAlike seen ds es → AreAlike seen cs es
    are_trans none b = b
    are_trans {es = es} (more {d = d} {ds = ds} {rest = rest} takes first others) b =
        let found = take_alike d ds rest es takes b in
        more found.takes (alike_trans first found.is_alike) (are_trans others found.others)

  pub are_exchanged : (c d : Coordinate) (cs : List Coordinate) → AreAlike seen (c ∷ d ∷ cs) (d ∷ c ∷ cs)
  are_exchanged c d cs = more (inr (cs, inl (refl, refl), refl)) (alike_refl c) (are_refl (d ∷ cs))
