-- Where the variables of a scheme go, found one by one.
use Rattle.std.proofs.Common.{◌≡◌, ◌≢◌, ℕ, zero, suc, ◌+◌, ◌<◌, ◌≤◌, Bool, true, false, not, true≢false, if◌then◌else◌, List, [], ◌∷◌, ◌++◌, length, take, Option, Some, get_or, slice_get, refl, sym, ap, ap₂, ◌∙◌, subst, arith}
use Rattle.std.specs.List.{filter, range_with_len}
use Rattle.std.proofs.lemmas.List.{length-append, length-map, map-append, take_all, take_more}
use Rattle.std.proofs.lemmas.List.FromFn.{length-map-range_with_len}
use Rattle.std.proofs.lemmas.Option.{slice_get-get_or, slice_get_within}
use Rattle.type_core.specs.declared.ty.Scheme.{Scheme}
use Rattle.type_core.specs.declared.ty.Ty.{Ty}
use Rattle.type_core.specs.declared.ty.Ty.TheVariants as ty
use Rattle.type_core.specs.declared.ty.VarId.{VarId}
use Rattle.type_core.specs.Renaming.{Renaming, listed}
use Rattle.type_core.specs.Schemes.{IsScheme, numbers}
use Rattle.type_core.specs.Variables.{by_first_occurrence, occurs, place, same_variable, variables}
use Rattle.type_core.proofs.Places.{all_met, meet_all_within, nothing_within, occurs_here, occurs_later, place_is_number, place_tells, same_is, same_itself, variable_eq}
use Rattle.iso_normal.proofs.WordsTell.{next_letter, next_letters}
use Rattle.search_core.specs.Converters.{ArePartners, completed, marked, numbered_from, staying, vanishing}
use Rattle.search_core.proofs.OneMark.{met}

-- variables with numbers that run from `a` on
number_at : (a k n : ℕ) (vs : List VarId) (v : VarId) → numbers vs ≡ range_with_len a k → slice_get vs n ≡ Some v
    → v.n ≡ a + n
number_at a k n [] v e at = absurd (cc at)
number_at a zero n (w ∷ vs) v e at = absurd (cc e)
number_at a (suc k) zero (w ∷ vs) v e at =
    let same : w ≡ v = cc at in omega (arith, ap (λ (u : VarId). u.n) same, next_letter e)
number_at a (suc k) (suc n) (w ∷ vs) v e at = omega (arith, number_at (a + 1) k n vs v (next_letters e) at)

occurs_at : (n : ℕ) (vs : List VarId) (v : VarId) → slice_get vs n ≡ Some v → occurs v vs ≡ true
occurs_at n [] v at = absurd (cc at)
occurs_at zero (w ∷ vs) v at =
    let same : w ≡ v = cc at in subst (λ u. occurs v (u ∷ vs) ≡ true) (sym same) (occurs_here v vs)
occurs_at (suc n) (w ∷ vs) v at = occurs_later v w vs (occurs_at n vs v at)

not_same : (v w : VarId) → v.n ≢ w.n → same_variable v w ≡ false
not_same v w other = go (same_variable v w) refl
  where
    go : (b : Bool) → same_variable v w ≡ b → b ≡ false
    go true is = absurd (other (ap (λ (u : VarId). u.n) (same_is v w is)))
    go false is = refl

-- one more where it holds
abbrev more_if : Bool → ℕ → ℕ
more_if b m = if b then m + 1 else m

-- the place of a variable among those that pass is how many of them stand before it
module _ (passes : VarId → Bool) where
  here : (v : VarId) (vs : List VarId) → passes v ≡ true → place v (filter passes (v ∷ vs)) ≡ 0
  here v vs p =
      ap (λ b. place v (if b then v ∷ filter passes vs else filter passes vs)) p
      ∙ ap (λ b. if b then 0 else 1 + place v (filter passes vs)) (same_itself v)

  later : (v w : VarId) (vs ws : List VarId) (b : Bool) → same_variable v w ≡ false → place v vs ≡ length ws
      → place v (if b then w ∷ vs else vs) ≡ length (if b then w ∷ ws else ws)
  later v w vs ws true other e = ap (λ b. if b then 0 else 1 + place v vs) other ∙ omega (arith, e)
  later v w vs ws false other e = e

  pub place_passed : (a k n : ℕ) (vs : List VarId) (v : VarId) → numbers vs ≡ range_with_len a k
      → slice_get vs n ≡ Some v → passes v ≡ true → place v (filter passes vs) ≡ length (filter passes (take n vs))
  place_passed a k n [] v e at p = absurd (cc at)
  place_passed a zero n (w ∷ vs) v e at p = absurd (cc e)
  place_passed a (suc k) zero (w ∷ vs) v e at p =
      let same : w ≡ v = cc at in subst (λ u. place v (filter passes (u ∷ vs)) ≡ 0) (sym same) (here v vs p)
  place_passed a (suc k) (suc n) (w ∷ vs) v e at p =
      let number : v.n ≡ a + suc n = number_at a (suc k) (suc n) (w ∷ vs) v e at in
      later v w (filter passes vs) (filter passes (take n vs)) (passes w)
      (not_same v w (λ same. absurd (omega (arith, number, same, next_letter e))))
      (place_passed (a + 1) k n vs v (next_letters e) at p)

  pub passed_more : (vs : List VarId) (v : VarId)
      → length (filter passes (vs ++ v ∷ [])) ≡ more_if (passes v) (length (filter passes vs))
  passed_more [] v = go (passes v)
    where
      go : (b : Bool) → length (if b then v ∷ [] else []) ≡ more_if b 0
      go true = refl
      go false = refl
  passed_more (w ∷ vs) v = go (passes w) (passes v) (filter passes (vs ++ v ∷ [])) (filter passes vs) (passed_more vs v)
    where
      go : (b c : Bool) (xs ys : List VarId) → length xs ≡ more_if c (length ys)
          → length (if b then w ∷ xs else xs) ≡ more_if c (length (if b then w ∷ ys else ys))
      go true true xs ys e = omega (arith, e)
      go true false xs ys e = omega (arith, e)
      go false true xs ys e = e
      go false false xs ys e = e

-- whether the variable vanishes from the scheme
abbrev vanishes : Scheme → VarId → Bool
vanishes s v = not (occurs v (staying s))

-- the first n variables have their images, and `next` is the number of the next one that vanishes
pub record AreImages (s : Scheme) (partners : List (Option VarId)) (from n : ℕ) (by : List Ty) (next : ℕ) : Type 0 where
  pub count : length by ≡ n
  pub images : (r : Renaming) → ArePartners partners r s
      → (by ≡ listed (completed r s from) (take n (by_first_occurrence s.body)))
      × (next ≡ from + length (filter (vanishes s) (take n (by_first_occurrence s.body))))

module _ (s : Scheme) (is : IsScheme s) where
  abbrev order : List VarId
  order = by_first_occurrence s.body

  order_length : length order ≡ s.vars
  order_length =
      sym (length-map order (λ v. v.n)) ∙ ap length is ∙ sym (length-map (range_with_len 0 s.vars) (λ n. n))
      ∙ length-map-range_with_len (λ n. n) 0 s.vars

  one_number : (v w : VarId) → occurs v order ≡ true → occurs w order ≡ true → v.n ≡ w.n → v ≡ w
  one_number v w o i e =
      place_tells v w order o
      (omega (arith, e, place_is_number 0 s.vars order is v o, place_is_number 0 s.vars order is w i))

  in_body : (v : VarId) → occurs v order ≡ true → occurs v (variables s.body) ≡ true
  in_body v o =
      meet_all_within (variables s.body) [] (variables s.body) (nothing_within (variables s.body)) (λ w p. p) v o

  in_order : (v : VarId) → occurs v (variables s.body) ≡ true → occurs v order ≡ true
  in_order v o = all_met [] (variables s.body) v o

  -- the mark of a variable tells whether the marked variable of its number occurs
  mark_is : (v : VarId) → occurs v order ≡ true → occurs (marked v.n) (variables s.body) ≡ v.eq
  mark_is v o = go (occurs (marked v.n) (variables s.body)) refl
    where
      unmarked : (e : Bool) → v.eq ≡ e → occurs (marked v.n) (variables s.body) ≡ false → false ≡ e
      unmarked true e never =
          let same : marked v.n ≡ v = variable_eq (marked v.n) v refl (sym e) in
          absurd (true≢false (sym (ap (λ u. occurs u (variables s.body)) same ∙ in_body v o) ∙ never))
      unmarked false e never = refl

      go : (b : Bool) → occurs (marked v.n) (variables s.body) ≡ b → b ≡ v.eq
      go true found =
          ap (λ (u : VarId). u.eq)
          (one_number (marked v.n) v (in_order (marked v.n) found) o refl)
      go false never = unmarked v.eq refl never

  -- the partner of a variable, if it has one
  module _ (partners : List (Option VarId)) (r : Renaming) (tells : ArePartners partners r s)
      (v : VarId) (o : occurs v order ≡ true) where
    partner_of_inside : (w : VarId) → slice_get partners v.n ≡ Some (Some w) → (occurs v (staying s) ≡ true) × (w ≡ r v)
    partner_of_inside w at = go (occurs v (staying s)) refl
      where
        alone : occurs v (staying s) ≡ false → (u : VarId) → occurs u (staying s) ≡ true → u.n ≢ v.n
        alone out u i same =
            true≢false (sym i ∙ ap (λ x. occurs x (staying s)) (one_number u v (met s u i) o same) ∙ out)

        go : (b : Bool) → occurs v (staying s) ≡ b → (occurs v (staying s) ≡ true) × (w ≡ r v)
        go true i = (i, cc (sym at ∙ tells.partners v i))
        go false out = absurd (cc (sym at ∙ tells.others v.n (slice_get_within partners v.n (Some w) at) (alone out)))

    partner_of_none : ((w : VarId) → ¬ (slice_get partners v.n ≡ Some (Some w))) → occurs v (staying s) ≡ false
    partner_of_none none = go (occurs v (staying s)) refl
      where
        go : (b : Bool) → occurs v (staying s) ≡ b → b ≡ false
        go true i = absurd (none (r v) (tells.partners v i))
        go false out = refl

  module _ (partners : List (Option VarId)) (from : ℕ) where
    pub no_images : AreImages s partners from 0 [] from
    no_images = record { count = refl; images = λ r tells. (refl, omega arith) }

    pub all_images : (n : ℕ) (by : List Ty) (next : ℕ) → s.vars ≤ n → AreImages s partners from n by next
        → (r : Renaming) → ArePartners partners r s → by ≡ listed (completed r s from) order
    all_images n by next l are r tells =
        (are.images r tells).0 ∙ ap (listed (completed r s from)) (take_all n order (omega (arith, l, order_length)))

    module _ (n : ℕ) (l : n < s.vars) (by new : List Ty) (next : ℕ) (are : AreImages s partners from n by next) where
      abbrev v : VarId
      v = get_or order n (record { n = 0; eq = false })

      at : slice_get order n ≡ Some v
      at = slice_get-get_or order n (record { n = 0; eq = false }) (omega (arith, order_length))

      o : occurs v order ≡ true
      o = occurs_at n order v at

      number : v.n ≡ n
      number = omega (arith, number_at 0 s.vars n order v is at)

      one_more_taken : take (n + 1) order ≡ take n order ++ v ∷ []
      one_more_taken = take_more order n (record { n = 0; eq = false }) (omega (arith, order_length))

      -- how many of the first n vanish
      abbrev gone : ℕ
      gone = length (filter (vanishes s) (take n order))

      gone_more : length (filter (vanishes s) (take (n + 1) order)) ≡ more_if (vanishes s v) gone
      gone_more = ap (λ vs. length (filter (vanishes s) vs)) one_more_taken ∙ passed_more (vanishes s) (take n order) v

      listed_more : (r : Renaming) → listed (completed r s from) (take (n + 1) order)
          ≡ listed (completed r s from) (take n order) ++ ty.Var (completed r s from v) ∷ []
      listed_more r =
          ap (listed (completed r s from)) one_more_taken
          ∙ map-append (λ v. ty.Var (completed r s from v)) (take n order) (v ∷ [])

      pub partner_image : (w : VarId) (after : ℕ) → slice_get partners n ≡ Some (Some w)
          → after ≡ next → new ≡ by ++ ty.Var w ∷ [] → AreImages s partners from (n + 1) new after
      partner_image w after there stayed pushed = record {
        count = ap length pushed ∙ length-append by (ty.Var w ∷ []) ∙ ap (λ m. m + 1) are.count;
        images = λ r tells.
            let old = are.images r tells in
            let is = partner_of_inside partners r tells v o w (ap (slice_get partners) number ∙ there) in
            let image : completed r s from v ≡ r v = ap (λ b. if b then r v else numbered_from from s v) is.0 in
            let stays : more_if (vanishes s v) gone ≡ gone = ap (λ b. more_if (not b) gone) is.0 in (
              pushed ∙ ap₂ (λ front u. front ++ ty.Var u ∷ []) old.0 (is.1 ∙ sym image) ∙ sym (listed_more r),
              stayed ∙ old.1 ∙ ap (λ m. from + m) (sym (gone_more ∙ stays)),
            );
      }

      pub next_image : (mark : Bool) (after : ℕ) → ((w : VarId) → ¬ (slice_get partners n ≡ Some (Some w)))
          → mark ≡ occurs (marked n) (variables s.body) → after ≡ next + 1
          → new ≡ by ++ ty.Var (record { n = next; eq = mark }) ∷ [] → AreImages s partners from (n + 1) new after
      next_image mark after none told more pushed =
          let u : VarId = record { n = next; eq = mark } in
          record {
            count = ap length pushed ∙ length-append by (ty.Var u ∷ []) ∙ ap (λ m. m + 1) are.count;
            images = λ r tells.
                let old = are.images r tells in
                let nowhere : (w : VarId) → ¬ (slice_get partners v.n ≡ Some (Some w)) =
                λ w there. none w (ap (slice_get partners) (sym number) ∙ there) in
                let out : occurs v (staying s) ≡ false = partner_of_none partners r tells v o nowhere in
                let passes : vanishes s v ≡ true = ap not out in
                let image : completed r s from v ≡ numbered_from from s v =
                ap (λ b. if b then r v else numbered_from from s v) out in
                let place_is : place v (vanishing s) ≡ gone =
                place_passed (vanishes s) 0 s.vars n order v is at passes in
                let number_is : next ≡ from + place v (vanishing s) = old.1 ∙ ap (λ m. from + m) (sym place_is) in
                let mark_of : mark ≡ v.eq =
                told ∙ ap (λ k. occurs (marked k) (variables s.body)) (sym number) ∙ mark_is v o in
                let same : u ≡ completed r s from v =
                variable_eq u (numbered_from from s v) number_is mark_of ∙ sym image in
                let one : more_if (vanishes s v) gone ≡ gone + 1 = ap (λ b. more_if b gone) passes in (
                  pushed ∙ ap₂ (λ front u. front ++ ty.Var u ∷ []) old.0 same ∙ sym (listed_more r),
                  omega (arith, more, old.1, gone_more, one),
                );
          }
