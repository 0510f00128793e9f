-- Lists of names that grow or settle: what they keep.
use Rattle.std.proofs.Common.{◌≡◌, ℕ, zero, suc, ◌≤◌, ◌<◌, ◌-◌, Bool, true, false, true≢false, nat_le, if◌then◌else◌, IsTrue, List, [], ◌∷◌, ◌++◌, drop, length, slice_get, get_or, set, Option, Some, None, refl, sym, ap, ap₂, ◌∙◌, arith}
use Rattle.std.proofs.lemmas.Bool.{and_parts, and_from}
use Rattle.std.proofs.Math.Seq.{drop-append_seam, get_or-append_seam}
use Rattle.std.specs.Option.{option_map}
use Rattle.type_core.specs.declared.names.Equality.{Equality}
use Rattle.type_core.specs.declared.names.TypeName.{TypeName}
use Rattle.type_core.specs.declared.ty.Ty.{Ty}
use Rattle.type_core.specs.InitialNames.{initial_names}
use Rattle.type_core.specs.Types.{IsOver, is_over, takes}
use Rattle.type_core.proofs.TypeTests.{is_over_var, is_over_con}
use Rattle.elab_env.specs.declared.realization.Realization.{Realization}
use Rattle.elab_env.specs.Externals.{number_with}
use Rattle.elab_env.specs.Names.{external_number, is_described, is_external, is_own, with_equality}
use Rattle.elab_env.specs.Sound.{AreRealizations}
use Rattle.elab_env.proofs.Parts.{nothing_inside, passes}
use Rattle.elab_env.proofs.Equations.{over_collects, over_partwise}

-- each name keeps its arity, and stays described
pub record KeepsNames (names more : List TypeName) : Type 0 where
  pub arities : (n count : ℕ) → takes (slice_get names n) count ≡ true → takes (slice_get more n) count ≡ true
  pub own : (n : ℕ) → is_own (slice_get names n) ≡ true → is_own (slice_get more n) ≡ true

-- ---- names added at the end
appended_takes : (names more : List TypeName) (n count : ℕ) → takes (slice_get names n) count ≡ true → takes (slice_get (names ++ more) n) count ≡ true
appended_takes [] more n count e = absurd (true≢false (sym e))
appended_takes (name ∷ names) more zero count e = e
appended_takes (name ∷ names) more (suc n) count e = appended_takes names more n count e

appended_own : (names more : List TypeName) (n : ℕ) → is_own (slice_get names n) ≡ true → is_own (slice_get (names ++ more) n) ≡ true
appended_own [] more n e = absurd (true≢false (sym e))
appended_own (name ∷ names) more zero e = e
appended_own (name ∷ names) more (suc n) e = appended_own names more n e

pub keeps_appended : (names more : List TypeName) → KeepsNames names (names ++ more)
keeps_appended names more = record { arities = appended_takes names more; own = appended_own names more }

-- ---- another equality
settled_takes : (at : ℕ) (equality : Equality) (names : List TypeName) (n count : ℕ) → takes (slice_get names n) count ≡ true → takes (slice_get (with_equality at equality names) n) count ≡ true
settled_takes at equality [] n count e = e
settled_takes zero equality (name ∷ names) zero count e = e
settled_takes zero equality (name ∷ names) (suc n) count e = e
settled_takes (suc at) equality (name ∷ names) zero count e = e
settled_takes (suc at) equality (name ∷ names) (suc n) count e = settled_takes at equality names n count e

settled_own : (at : ℕ) (equality : Equality) (names : List TypeName) (n : ℕ) → is_own (slice_get names n) ≡ true → is_own (slice_get (with_equality at equality names) n) ≡ true
settled_own at equality [] n e = e
settled_own zero equality (name ∷ names) zero e = e
settled_own zero equality (name ∷ names) (suc n) e = e
settled_own (suc at) equality (name ∷ names) zero e = e
settled_own (suc at) equality (name ∷ names) (suc n) e = settled_own at equality names n e

pub keeps_settled : (at : ℕ) (equality : Equality) (names : List TypeName) → KeepsNames names (with_equality at equality names)
keeps_settled at equality names = record { arities = settled_takes at equality names; own = settled_own at equality names }

pub length-with_equality : (at : ℕ) (equality : Equality) (names : List TypeName) → length (with_equality at equality names) ≡ length names
length-with_equality at equality [] = refl
length-with_equality zero equality (name ∷ names) = refl
length-with_equality (suc at) equality (name ∷ names) = ap suc (length-with_equality at equality names)

-- ---- types and realizations stay
module _ (names more : List TypeName) (keeps : KeepsNames names more) where
  pub still_over : (t : Ty) → IsOver names t → IsOver more t
  still_over = passes (λ t. t) (is_over names) (is_over more) (over_partwise names) nothing_inside (over_collects (λ t. t) (is_over names) more)
      (λ v e. is_over_var more v)
      (λ name ts e k. is_over_con more name ts ∙ and_from _ _ (keeps.arities name.0 (length ts) (and_parts (takes (slice_get names name.0) (length ts)) _ (sym (is_over_con names name ts) ∙ e)).0) k)

  pub still_described : (n : ℕ) → IsTrue (is_described names n) → IsTrue (is_described more n)
  still_described n e = let p = and_parts (nat_le (length initial_names) n) _ e in and_from (nat_le (length initial_names) n) _ p.0 (keeps.own n p.1)

  pub still_realizations : (rs : List Realization) → AreRealizations names rs → AreRealizations more rs
  still_realizations [] h = tt
  still_realizations (r ∷ rs) h = (
    record {
      described = still_described r.name.0 h.0.described;
      arity = keeps.arities r.name.0 r.fun.arity h.0.arity;
      function = h.0.function;
      body = record { is_type = h.0.body.is_type; over = still_over r.fun.body h.0.body.over };
    },
    still_realizations rs h.1,
  )

-- ---- the first names stay
abbrev pub BeginsWith : List TypeName → List TypeName → Type 0
BeginsWith first names = names ≡ first ++ drop (length first) names

pub begins_from : (first names rest : List TypeName) → names ≡ first ++ rest → BeginsWith first names
begins_from first names rest e = e ∙ ap (λ xs. first ++ xs) (sym (drop-append_seam first rest)) ∙ ap (λ xs. first ++ drop (length first) xs) (sym e)

append_assoc : {A : Type 0} (xs ys zs : List A) → (xs ++ ys) ++ zs ≡ xs ++ (ys ++ zs)
append_assoc [] ys zs = refl
append_assoc (x ∷ xs) ys zs = ap (λ rest. x ∷ rest) (append_assoc xs ys zs)

pub begins_appended : (first names more : List TypeName) → BeginsWith first names → BeginsWith first (names ++ more)
begins_appended first names more e = begins_from first (names ++ more) (drop (length first) names ++ more) (ap (λ xs. xs ++ more) e ∙ append_assoc first _ more)

settled_later : (at : ℕ) (equality : Equality) (first rest : List TypeName) → length first ≤ at → with_equality at equality (first ++ rest) ≡ first ++ with_equality (at - length first) equality rest
settled_later at equality [] rest l = ap (λ k. with_equality k equality rest) (let e : at ≡ at - 0 = omega arith in e)
settled_later zero equality (name ∷ first) rest l = absurd (omega (arith, l))
settled_later (suc at) equality (name ∷ first) rest l =
    ap (λ names. name ∷ names) (settled_later at equality first rest (omega (arith, l)))
    ∙ ap (λ k. name ∷ first ++ with_equality k equality rest) (let e : at - length first ≡ suc at - suc (length first) = omega arith in e)

pub begins_settled : (at : ℕ) (equality : Equality) (first names : List TypeName) → length first ≤ at → BeginsWith first names → BeginsWith first (with_equality at equality names)
begins_settled at equality first names l e = begins_from first _ _ (ap (with_equality at equality) e ∙ settled_later at equality first _ l)

-- ---- the numbers of external names
later_number : (name : TypeName) (n : ℕ) (path : List ℕ) (arity : ℕ) (o : Option ℕ) (b : Bool) → is_external path arity name ≡ b
    → option_map suc (number_with name n path arity o) ≡ number_with name (suc n) path arity (option_map suc o)
later_number name n path arity (Some m) b e = refl
later_number name n path arity None true e = rw e refl
later_number name n path arity None false e = rw e refl

-- the first of the names, if it is the one that is looked for, else one of the others
first_number : (b : Bool) (p q : Option ℕ) (name : TypeName) (n : ℕ) (path : List ℕ) (arity : ℕ) → p ≡ number_with name n path arity q → (if b then Some 0 else p) ≡ number_with name n path arity (if b then Some 0 else q)
first_number true p q name n path arity e = refl
first_number false p q name n path arity e = e

pub external_number-appended : (path : List ℕ) (arity : ℕ) (names : List TypeName) (name : TypeName) → external_number path arity (names ++ name ∷ []) ≡ number_with name (length names) path arity (external_number path arity names)
external_number-appended path arity [] name = refl
external_number-appended path arity (first ∷ names) name =
    first_number (is_external path arity first) _ _ name (suc (length names)) path arity
    (ap (option_map suc) (external_number-appended path arity names name) ∙ later_number name (length names) path arity (external_number path arity names) _ refl)

pub external_number-settled : (path : List ℕ) (arity at : ℕ) (equality : Equality) (names : List TypeName) → external_number path arity (with_equality at equality names) ≡ external_number path arity names
external_number-settled path arity at equality [] = refl
external_number-settled path arity zero equality (name ∷ names) = refl
external_number-settled path arity (suc at) equality (name ∷ names) = ap (λ o. if is_external path arity name then Some 0 else option_map suc o) (external_number-settled path arity at equality names)

-- ---- the names as code changes them
pub settled : (names : List TypeName) (n : ℕ) (equality : Equality) (name : TypeName) → n < length names → name ≡ get_or names n name
    → set names n (record { path = name.path; arity = name.arity; equality = equality; external = name.external }) ≡ with_equality n equality names
settled [] n equality name l e = absurd (omega (arith, l))
settled (first ∷ names) zero equality name l e = ap (λ (x : TypeName). let changed : TypeName = record { path = x.path; arity = x.arity; equality = equality; external = x.external } in changed ∷ names) e
settled (first ∷ names) (suc n) equality name l e = ap (λ rest. first ∷ rest) (settled names n equality name (omega (arith, l)) e)

pub last_name : (names more : List TypeName) (n : ℕ) (name added : TypeName) → n ≡ length names → more ≡ names ++ added ∷ [] → name ≡ get_or more n name → name ≡ added
last_name names more n name added e m g = g ∙ ap₂ (λ xs k. get_or xs k name) m e ∙ get_or-append_seam names added [] name
