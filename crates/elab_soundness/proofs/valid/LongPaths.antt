-- Paths, and the dots in them: no dot stands in an identifier.
use Rattle.std.proofs.Common.{◌≡◌, ◌≢◌, inl, inr, ℕ, ◌≤◌, List, [], ◌∷◌, ◌++◌, codes, length, append_assoc, refl, sym, ap, ap₂, ◌∙◌, subst, arith}
use Rattle.std.proofs.lemmas.List.Elements.{All-cons, All-head, All-nil, All-tail}
use Rattle.std.specs.List.{All}
use Rattle.sig_base.specs.Identifiers.{IsAlphanumeric}
use Rattle.sig_base.specs.LongIdentifiers.{parts}
use Rattle.sig_base.proofs.LongIdentifiers.{NoDot, identifier_no_dot, parts_dot, word_no_dot}
use Rattle.type_core.specs.Paths.{BeginsWith, IsLongTypeIdentifier, IsMemberIdentifier, IsTypeIdentifier, IsTypePath}
use Rattle.elab_rules.specs.Files.{first_of}

-- ---- no dot stands in an identifier
pub type_no_dot : (text : List ℕ) → IsTypeIdentifier text → NoDot text
type_no_dot text h = identifier_no_dot text h.0

pub value_no_dot : (text : List ℕ) → IsMemberIdentifier text → NoDot text
value_no_dot text (inl h) = identifier_no_dot text h
value_no_dot text (inr e) = subst NoDot (sym e) (All-cons (λ b. b ≢ 46) 61 [] (λ f. omega (arith, f)) (All-nil _))

-- ---- parts
-- the first part of a path that begins with an identifier is that identifier
pub first_part : (id path : List ℕ) → IsAlphanumeric id → BeginsWith id path → first_of (parts path) ≡ id
first_part id path h begins = ap (λ text. first_of (parts text)) (begins.1 ∙ append_assoc id (codes ".") begins.0) ∙ ap first_of (parts_dot id begins.0 (word_no_dot id h))

-- an identifier of two parts or more is a path
pub long_path : (text id next : List ℕ) (rest : List (List ℕ)) → IsLongTypeIdentifier text → parts text ≡ id ∷ next ∷ rest → IsTypePath text
long_path text id next rest long e = ((omega (arith, ap length e), long.0), long.1)

-- ---- paths that are equal
same_head : (a b : ℕ) (xs ys : List ℕ) → a ∷ xs ≡ b ∷ ys → a ≡ b
same_head a b xs ys e = cc

same_tail : (a b : ℕ) (xs ys : List ℕ) → a ∷ xs ≡ b ∷ ys → xs ≡ ys
same_tail a b xs ys e = cc

pub same_before_dot : (u v y z : List ℕ) → NoDot u → NoDot v → u ++ 46 ∷ y ≡ v ++ 46 ∷ z → u ≡ v
same_before_dot [] [] y z h k e = refl
same_before_dot [] (b ∷ v) y z h k e = absurd (All-head (λ c. c ≢ 46) b v k (sym (same_head 46 b y _ e)))
same_before_dot (a ∷ u) [] y z h k e = absurd (All-head (λ c. c ≢ 46) a u h (same_head a 46 _ z e))
same_before_dot (a ∷ u) (b ∷ v) y z h k e = ap₂ ◌∷◌ (same_head a b _ _ e) (same_before_dot u v y z (All-tail (λ c. c ≢ 46) a u h) (All-tail (λ c. c ≢ 46) b v k) (same_tail a b _ _ e))

pub dot_apart : (u v y : List ℕ) → NoDot u → u ≡ v ++ 46 ∷ y → ⊥
dot_apart [] [] y h e = absurd (no_cons 46 y e)
  where
    no_cons : (b : ℕ) (xs : List ℕ) → [] ≡ b ∷ xs → ⊥
    no_cons b xs f = cc
dot_apart [] (b ∷ v) y h e = absurd (no_cons b (v ++ 46 ∷ y) e)
  where
    no_cons : (b : ℕ) (xs : List ℕ) → [] ≡ b ∷ xs → ⊥
    no_cons b xs f = cc
dot_apart (a ∷ u) [] y h e = All-head (λ c. c ≢ 46) a u h (same_head a 46 u y e)
dot_apart (a ∷ u) (b ∷ v) y h e = dot_apart u v y (All-tail (λ c. c ≢ 46) a u h) (same_tail a b u _ e)
