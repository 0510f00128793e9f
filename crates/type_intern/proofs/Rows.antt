-- Numbers that are an arena's own, as it grows.
use Rattle.std.proofs.Common.{◌≡◌, ◌<◌, ℕ, List, [], ◌∷◌, ◌++◌, length, sym, subst, arith}
use Rattle.type_intern.specs.declared.node.CoordId.{CoordId}
use Rattle.type_intern.specs.Meanings.{Keeps, Meanings}
use Rattle.type_intern.specs.Numbering.{AllBelow}
use Rattle.type_intern.specs.Tops.{numbers_of}
use Rattle.type_intern.proofs.Places.{below_weaker, grows_longer, grows_trans}

pub keeps_on : (first second third : Meanings) → Keeps first second → Keeps second third → Keeps first third
keeps_on first second third p q = record {
  types = grows_trans first.types second.types third.types p.types q.types;
  coords = grows_trans first.coords second.coords third.coords p.coords q.coords;
  keys = grows_trans first.keys second.keys third.keys p.keys q.keys;
}

pub type_kept : (old new : Meanings) (i : ℕ) → Keeps old new → i < length old.types → i < length new.types
type_kept old new i keeps l = omega (arith, l, grows_longer old.types new.types keeps.types)

pub coord_kept : (old new : Meanings) (i : ℕ) → Keeps old new → i < length old.coords → i < length new.coords
coord_kept old new i keeps l = omega (arith, l, grows_longer old.coords new.coords keeps.coords)

pub coords_kept : (old new : Meanings) (ids : List CoordId) → Keeps old new
    → AllBelow (length old.coords) (numbers_of ids) → AllBelow (length new.coords) (numbers_of ids)
coords_kept old new ids keeps h = below_weaker _ _ (numbers_of ids) (grows_longer old.coords new.coords keeps.coords) h

pub one_more_below : (n : ℕ) (ids more : List CoordId) (id : CoordId) → AllBelow n (numbers_of ids) → id.0 < n
    → more ≡ ids ++ id ∷ [] → AllBelow n (numbers_of more)
one_more_below n ids more id h l is = subst (λ js. AllBelow n (numbers_of js)) (sym is) (go ids h)
  where
    go : (ids : List CoordId) → AllBelow n (numbers_of ids) → AllBelow n (numbers_of (ids ++ id ∷ []))
    go [] h = (l, tt)
    go (j ∷ js) h = (h.0, go js h.1)
