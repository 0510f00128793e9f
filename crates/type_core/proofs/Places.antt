-- Places of variables among variables, and the order of first occurrence.
use Rattle.std.proofs.Common.{◌≡◌, ℕ, ◌+◌, ◌≤◌, ◌==◌, ◌&&◌, ◌||◌, Bool, true, false, if◌then◌else◌, List, [], ◌∷◌, ◌++◌, map, length, refl, sym, ap, ap₂, ◌∙◌, subst, arith, zero, suc, true≢false, ◌⊎◌, inl, inr}
use Rattle.std.proofs.lemmas.List.{map-append, length-append}
use Rattle.std.proofs.lemmas.Simd.{map-map}
use Rattle.std.specs.List.{range_with_len}
use Rattle.type_core.specs.declared.ty.VarId.{VarId}
use Rattle.type_core.specs.Renaming.{Renaming, IsOneToOne}
use Rattle.type_core.specs.Schemes.{numbers, numbered_among}
use Rattle.type_core.specs.Variables.{same_mark, same_variable, occurs, place, meet, meet_all}

-- Booleans
contrary : {A : Type 0} {b : Bool} → b ≡ true → b ≡ false → A
contrary e f = absurd (true≢false (sym e ∙ f))

both : (a b : Bool) → (a && b) ≡ true → (a ≡ true) × (b ≡ true)
both true b e = (refl, e)
both false b e = contrary e refl

either : (a b : Bool) → (a || b) ≡ true → (a ≡ true) ⊎ (b ≡ true)
either true b e = inl refl
either false b e = inr e

pub left_or : (a b : Bool) → a ≡ true → (a || b) ≡ true
left_or a b e = ap (λ z. z || b) e

pub right_or : (a b : Bool) → b ≡ true → (a || b) ≡ true
right_or true b e = refl
right_or false b e = e

alike : (a b : Bool) → (a ≡ true → b ≡ true) → (b ≡ true → a ≡ true) → a ≡ b
alike true b f g = sym (f refl)
alike false false f g = refl
alike false true f g = g refl

not_true : (b : Bool) → (b ≡ true → ⊥) → b ≡ false
not_true true f = absurd (f refl)
not_true false f = refl

-- one variable and another
n_eq : {a b : ℕ} → (a == b) ≡ true → a ≡ b
n_eq e = grind (arith, e)

n_same : {a b : ℕ} → a ≡ b → (a == b) ≡ true
n_same e = grind (arith, e)

mark_eq : (a b : Bool) → same_mark a b ≡ true → a ≡ b
mark_eq true true e = refl
mark_eq true false e = contrary e refl
mark_eq false true e = contrary e refl
mark_eq false false e = refl

mark_itself : (a : Bool) → same_mark a a ≡ true
mark_itself true = refl
mark_itself false = refl

pub variable_eq : (v w : VarId) → v.n ≡ w.n → v.eq ≡ w.eq → v ≡ w
variable_eq v w e f = λ i. record { n = e i; eq = f i }

pub same_is : (v w : VarId) → same_variable v w ≡ true → v ≡ w
same_is v w e = let parts = both (v.n == w.n) (same_mark v.eq w.eq) e in variable_eq v w (n_eq parts.0) (mark_eq v.eq w.eq parts.1)

pub same_itself : (v : VarId) → same_variable v v ≡ true
same_itself v = ap₂ ◌&&◌ (n_same refl) (mark_itself v.eq)

-- occurrence
pub occurs_here : (v : VarId) (vs : List VarId) → occurs v (v ∷ vs) ≡ true
occurs_here v vs = left_or (same_variable v v) (occurs v vs) (same_itself v)

pub occurs_later : (v w : VarId) (vs : List VarId) → occurs v vs ≡ true → occurs v (w ∷ vs) ≡ true
occurs_later v w vs = right_or (same_variable v w) (occurs v vs)

pub occurs_left : (v : VarId) (vs ws : List VarId) → occurs v vs ≡ true → occurs v (vs ++ ws) ≡ true
occurs_left v [] ws e = contrary e refl
occurs_left v (x ∷ vs) ws e = elim (either (same_variable v x) (occurs v vs) e) [
  | inl a ↦ left_or (same_variable v x) (occurs v (vs ++ ws)) a
  | inr b ↦ right_or (same_variable v x) (occurs v (vs ++ ws)) (occurs_left v vs ws b)
]

pub occurs_right : (v : VarId) (vs ws : List VarId) → occurs v ws ≡ true → occurs v (vs ++ ws) ≡ true
occurs_right v [] ws e = e
occurs_right v (x ∷ vs) ws e = right_or (same_variable v x) (occurs v (vs ++ ws)) (occurs_right v vs ws e)

occurs_either : (v : VarId) (vs ws : List VarId) → occurs v (vs ++ ws) ≡ true → (occurs v vs ≡ true) ⊎ (occurs v ws ≡ true)
occurs_either v [] ws e = inr e
occurs_either v (x ∷ vs) ws e = elim (either (same_variable v x) (occurs v (vs ++ ws)) e) [
  | inl a ↦ inl (left_or (same_variable v x) (occurs v vs) a)
  | inr b ↦ elim (occurs_either v vs ws b) [ inl c ↦ inl (right_or (same_variable v x) (occurs v vs) c) | inr d ↦ inr d ]
]

occurs_only : (v w : VarId) → occurs v (w ∷ []) ≡ true → v ≡ w
occurs_only v w e = elim (either (same_variable v w) false e) [ inl a ↦ same_is v w a | inr b ↦ contrary b refl ]

-- each of the second list is among the first
abbrev pub Within : List VarId → List VarId → Type 0
Within all vs = (v : VarId) → occurs v vs ≡ true → occurs v all ≡ true

pub nothing_within : (all : List VarId) → Within all []
nothing_within all v e = contrary e refl

-- meeting
abbrev meet_if : List VarId → VarId → Bool → List VarId
meet_if met v is_old = if is_old then met else met ++ v ∷ []

if_within : (all met : List VarId) (v : VarId) (is_old : Bool) → Within all met → occurs v all ≡ true → Within all (meet_if met v is_old)
if_within all met v true m o w e = m w e
if_within all met v false m o w e = elim (occurs_either w met (v ∷ []) e) [ inl a ↦ m w a | inr b ↦ subst (λ z. occurs z all ≡ true) (sym (occurs_only w v b)) o ]

pub meet_all_within : (all met vs : List VarId) → Within all met → Within all vs → Within all (meet_all met vs)
meet_all_within all met [] m i = m
meet_all_within all met (v ∷ vs) m i = meet_all_within all (meet met v) vs (if_within all met v (occurs v met) m (i v (occurs_here v vs))) (λ w e. i w (occurs_later w v vs e))

if_kept : (met : List VarId) (v w : VarId) (is_old : Bool) → occurs w met ≡ true → occurs w (meet_if met v is_old) ≡ true
if_kept met v w true e = e
if_kept met v w false e = occurs_left w met (v ∷ []) e

kept : (met vs : List VarId) (w : VarId) → occurs w met ≡ true → occurs w (meet_all met vs) ≡ true
kept met [] w e = e
kept met (v ∷ vs) w e = kept (meet met v) vs w (if_kept met v w (occurs v met) e)

if_met : (met : List VarId) (v : VarId) (is_old : Bool) → occurs v met ≡ is_old → occurs v (meet_if met v is_old) ≡ true
if_met met v true e = e
if_met met v false e = occurs_right v met (v ∷ []) (occurs_here v [])

pub all_met : (met vs : List VarId) (w : VarId) → occurs w vs ≡ true → occurs w (meet_all met vs) ≡ true
all_met met [] w e = contrary e refl
all_met met (v ∷ vs) w e = elim (either (same_variable w v) (occurs w vs) e) [
  | inl a ↦ kept (meet met v) vs w (subst (λ z. occurs z (meet met v) ≡ true) (sym (same_is w v a)) (if_met met v (occurs v met) refl))
  | inr b ↦ all_met (meet met v) vs w b
]

if_length : (met : List VarId) (v : VarId) (is_old : Bool) → length (meet_if met v is_old) ≤ length met + 1
if_length met v true = omega arith
if_length met v false = let e : length (met ++ v ∷ []) ≡ length met + 1 = length-append met (v ∷ []) in omega (arith, e)

pub meet_all_length : (met vs : List VarId) → length (meet_all met vs) ≤ length met + length vs
meet_all_length met [] = omega arith
meet_all_length met (v ∷ vs) = omega (arith, meet_all_length (meet met v) vs, if_length met v (occurs v met))

-- a renaming that is one to one keeps occurrence, place and order
module _ (r : Renaming) where
  same_after : (v w : VarId) → (r v ≡ r w → v ≡ w) → same_variable (r v) (r w) ≡ same_variable v w
  same_after v w one = alike (same_variable (r v) (r w)) (same_variable v w)
      (λ e. subst (λ z. same_variable v z ≡ true) (one (same_is (r v) (r w) e)) (same_itself v))
      (λ e. subst (λ z. same_variable (r v) (r z) ≡ true) (same_is v w e) (same_itself (r v)))

  abbrev IsAlone : VarId → List VarId → Type 0
  IsAlone v ws = (w : VarId) → occurs w ws ≡ true → r v ≡ r w → v ≡ w

  pub place_after : (v : VarId) (ws : List VarId) → IsAlone v ws → place (r v) (map r ws) ≡ place v ws
  place_after v [] one = refl
  place_after v (w ∷ ws) one = ap₂ (λ (b : Bool) (n : ℕ). if b then 0 else 1 + n) (same_after v w (one w (occurs_here w ws))) (place_after v ws (λ x o. one x (occurs_later x w ws o)))

  occurs_after : (v : VarId) (ws : List VarId) → IsAlone v ws → occurs (r v) (map r ws) ≡ occurs v ws
  occurs_after v [] one = refl
  occurs_after v (w ∷ ws) one = ap₂ ◌||◌ (same_after v w (one w (occurs_here w ws))) (occurs_after v ws (λ x o. one x (occurs_later x w ws o)))

  if_after : (met : List VarId) (v : VarId) (is_old : Bool) → meet_if (map r met) (r v) is_old ≡ map r (meet_if met v is_old)
  if_after met v true = refl
  if_after met v false = sym (map-append r met (v ∷ []))

  pub meet_all_after : (all : List VarId) → IsOneToOne r all → (met vs : List VarId) → Within all met → Within all vs → meet_all (map r met) (map r vs) ≡ map r (meet_all met vs)
  meet_all_after all one met [] m i = refl
  meet_all_after all one met (v ∷ vs) m i =
      let here = i v (occurs_here v vs) in
      let first = ap (meet_if (map r met) (r v)) (occurs_after v met (λ w o. one v w here (m w o))) ∙ if_after met v (occurs v met) in
      ap (λ z. meet_all z (map r vs)) first ∙ meet_all_after all one (meet met v) vs (if_within all met v (occurs v met) m here) (λ w e. i w (occurs_later w v vs e))

-- each of those met is at its own place
abbrev places_in : List VarId → List VarId → List ℕ
places_in all = map (λ v. place v all)

abbrev IsInPlace : List VarId → Type 0
IsInPlace met = places_in met met ≡ range_with_len 0 (length met)

map_within : {A : Type 0} (f g : VarId → A) (vs : List VarId) → ((v : VarId) → occurs v vs ≡ true → f v ≡ g v) → map f vs ≡ map g vs
map_within f g [] e = refl
map_within f g (v ∷ vs) e = ap₂ ◌∷◌ (e v (occurs_here v vs)) (map_within f g vs (λ w o. e w (occurs_later w v vs o)))

place_if : (n k : ℕ) (a b : Bool) → a ≡ b → n ≡ k → (if a then 0 else 1 + n) ≡ (if b then 0 else 1 + k)
place_if n k a b e f = ap₂ (λ (z : Bool) (m : ℕ). if z then 0 else 1 + m) e f

place_before : (v : VarId) (vs ws : List VarId) → occurs v vs ≡ true → place v (vs ++ ws) ≡ place v vs
place_before v [] ws e = contrary e refl
place_before v (x ∷ vs) ws e = cases (same_variable v x) (λ o. place_before v vs ws o) e
  where
    cases : (b : Bool) → (occurs v vs ≡ true → place v (vs ++ ws) ≡ place v vs) → (b || occurs v vs) ≡ true → (if b then 0 else 1 + place v (vs ++ ws)) ≡ (if b then 0 else 1 + place v vs)
    cases true next o = refl
    cases false next o = ap (λ n. 1 + n) (next o)

place_new : (v : VarId) (vs : List VarId) → occurs v vs ≡ false → place v (vs ++ v ∷ []) ≡ length vs
place_new v [] e = ap (λ (b : Bool). if b then 0 else 1) (same_itself v)
place_new v (x ∷ vs) e = cases (same_variable v x) (λ o. place_new v vs o) e
  where
    cases : (b : Bool) → (occurs v vs ≡ false → place v (vs ++ v ∷ []) ≡ length vs) → (b || occurs v vs) ≡ false → (if b then 0 else 1 + place v (vs ++ v ∷ [])) ≡ suc (length vs)
    cases true next o = contrary refl o
    cases false next o = omega (arith, next o)

pub range_last : (a n : ℕ) → range_with_len a n ++ (a + n) ∷ [] ≡ range_with_len a (suc n)
range_last a zero = ap (λ k. k ∷ []) (omega arith)
range_last a (suc n) = ap (λ z. a ∷ z) (ap (λ k. range_with_len (a + 1) n ++ k ∷ []) (omega arith) ∙ range_last (a + 1) n)

length_push : (vs : List VarId) (v : VarId) → length (vs ++ v ∷ []) ≡ suc (length vs)
length_push vs v = omega (arith, length-append vs (v ∷ []))

if_in_place : (met : List VarId) (v : VarId) (is_old : Bool) → occurs v met ≡ is_old → IsInPlace met → IsInPlace (meet_if met v is_old)
if_in_place met v true o e = e
if_in_place met v false o e =
    map-append (λ w. place w (met ++ v ∷ [])) met (v ∷ [])
    ∙ ap₂ (λ xs n. xs ++ n ∷ []) (map_within _ (λ w. place w met) met (λ w p. place_before w met (v ∷ []) p) ∙ e) (place_new v met o)
    ∙ ap (λ n. range_with_len 0 (length met) ++ n ∷ []) (omega arith) ∙ range_last 0 (length met) ∙ ap (range_with_len 0) (sym (length_push met v))

in_place : (met vs : List VarId) → IsInPlace met → IsInPlace (meet_all met vs)
in_place met [] e = e
in_place met (v ∷ vs) e = in_place (meet met v) vs (if_in_place met v (occurs v met) refl e)

pub numbered_in_order : (vs : List VarId) → numbers (map (numbered_among (meet_all [] vs)) (meet_all [] vs)) ≡ range_with_len 0 (length (meet_all [] vs))
numbered_in_order vs = map-map _ (numbered_among (meet_all [] vs)) (meet_all [] vs) ∙ in_place [] vs refl

-- two variables at one place are one
pub place_tells : (v w : VarId) (vs : List VarId) → occurs v vs ≡ true → place v vs ≡ place w vs → v ≡ w
place_tells v w [] o e = contrary o refl
place_tells v w (x ∷ vs) o e = cases (same_variable v x) (same_variable w x) (λ p q. place_tells v w vs p q) refl refl o e
  where
    cases : (a b : Bool) → (occurs v vs ≡ true → place v vs ≡ place w vs → v ≡ w) → same_variable v x ≡ a → same_variable w x ≡ b → (a || occurs v vs) ≡ true → (if a then 0 else 1 + place v vs) ≡ (if b then 0 else 1 + place w vs) → v ≡ w
    cases true true next p q o e = same_is v x p ∙ sym (same_is w x q)
    cases true false next p q o e = absurd (omega (arith, e))
    cases false true next p q o e = absurd (omega (arith, e))
    cases false false next p q o e = next o (omega (arith, e))

-- where the numbers run from `a` on, each variable's number is its place from there
abbrev first_or : ℕ → List ℕ → ℕ
first_or a [] = a
first_or a (n ∷ ns) = n

abbrev rest : List ℕ → List ℕ
rest [] = []
rest (n ∷ ns) = ns

pub place_is_number : (a k : ℕ) (vs : List VarId) → numbers vs ≡ range_with_len a k → (v : VarId) → occurs v vs ≡ true → a + place v vs ≡ v.n
place_is_number a k [] e v o = contrary o refl
place_is_number a zero (w ∷ vs) e v o = absurd (let f : suc (length (numbers vs)) ≡ 0 = ap length e in omega (arith, f))
place_is_number a (suc k) (w ∷ vs) e v o = cases (same_variable v w) (λ p. place_is_number (a + 1) k vs (ap rest e) v p) refl o
  where
    cases : (b : Bool) → (occurs v vs ≡ true → a + 1 + place v vs ≡ v.n) → same_variable v w ≡ b → (b || occurs v vs) ≡ true → a + (if b then 0 else 1 + place v vs) ≡ v.n
    cases true next p q = omega (arith, ap (first_or a) e, ap (λ (z : VarId). z.n) (same_is v w p))
    cases false next p q = omega (arith, next q)
