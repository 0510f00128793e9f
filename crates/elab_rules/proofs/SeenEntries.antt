-- What an index tells of the first entries of its environment.
use Rattle.std.proofs.Common.{◌≡◌, ℕ, zero, suc, Bool, true, false, nat_lt, if◌then◌else◌, List, [], ◌∷◌, length, take, drop, Option, Some, None, refl, sym, ap, ◌∙◌, subst, arith, take_all}
use Rattle.std.specs.Option.{option_map, option_or}
use Rattle.std.proofs.lemmas.Bool.{le-ltb, lt-ltb, ltb-false, ltb-true}
use Rattle.std.proofs.lemmas.List.{take-append-drop}
use Rattle.elab_rules.specs.declared.index.Index.{Index}
use Rattle.elab_rules.specs.Environments.{Environment, is_structure, is_type, is_value, structure_of}
use Rattle.elab_types.specs.Finding.{first_given, place_of}
use Rattle.elab_rules.specs.Indexes.{IsIndex, IsSeen, below}
use Rattle.elab_rules.proofs.DistinctMore.{given_appended}
use Rattle.elab_rules.proofs.IndexMore.{index_inner, index_level}

-- ---- places below a number
below_none : (o : Option ℕ) → below o 0 ≡ None
below_none None = refl
below_none (Some p) = ap (λ b. if b then Some p else None) (le-ltb p 0 (omega arith))

below_later : (o : Option ℕ) (n : ℕ) → below (option_map (λ p. suc p) o) (suc n) ≡ option_map (λ p. suc p) (below o n)
below_later None n = refl
below_later (Some p) n = by_case (nat_lt p n) refl
  where
    by_case : (b : Bool) → nat_lt p n ≡ b → (if nat_lt (suc p) (suc n) then Some (suc p) else None) ≡ option_map (λ q. suc q) (if b then Some p else None)
    by_case true is = let l = ltb-true p n is in ap (λ b. if b then Some (suc p) else None) (lt-ltb (suc p) (suc n) (omega (arith, l)))
    by_case false is = let l = ltb-false p n is in ap (λ b. if b then Some (suc p) else None) (le-ltb (suc p) (suc n) (omega (arith, l)))

-- the place among the first elements is the place, where that is below their end
pub below_taken : {A : Type 0} (test : A → Bool) (xs : List A) (n : ℕ) → below (place_of test xs) (length (take n xs)) ≡ place_of test (take n xs)
below_taken test [] zero = refl
below_taken test [] (suc n) = refl
below_taken test (x ∷ xs) zero = below_none (place_of test (x ∷ xs))
below_taken test (x ∷ xs) (suc n) = by_case (below_taken test xs n) (test x)
  where
    by_case : below (place_of test xs) (length (take n xs)) ≡ place_of test (take n xs) → (b : Bool)
        → below (if b then Some 0 else option_map (λ p. suc p) (place_of test xs)) (suc (length (take n xs))) ≡ (if b then Some 0 else option_map (λ p. suc p) (place_of test (take n xs)))
    by_case rest true = ap (λ b. if b then Some 0 else None) (lt-ltb 0 (suc (length (take n xs))) (omega arith))
    by_case rest false = below_later (place_of test xs) (length (take n xs)) ∙ ap (option_map (λ p. suc p)) rest

-- what is given among the first elements is given
pub given_front : {A B : Type 0} (given : A → Option B) (xs : List A) (n : ℕ) (b : B) → first_given given (take n xs) ≡ Some b → first_given given xs ≡ Some b
given_front given xs n b is =
    sym (ap (first_given given) (take-append-drop n xs)) ∙ given_appended given (take n xs) (drop n xs) ∙ ap (λ o. option_or o (first_given given (drop n xs))) is

-- ---- the first entries of an environment, and all of them
pub seen_front : (index : Index) (env : Environment) (n : ℕ) → IsIndex index env → IsSeen index (take n env)
seen_front index env n h =
    let level = index_level index env h in
    record {
      types = λ id. ap (λ o. below o (length (take n env))) (level.types id) ∙ below_taken (is_type id) env n;
      values = λ id. ap (λ o. below o (length (take n env))) (level.values id) ∙ below_taken (is_value id) env n;
      structures = λ id. ap (λ o. below o (length (take n env))) (level.structures id) ∙ below_taken (is_structure id) env n;
      within = λ id inner entries is here. index_inner index env id inner entries h is (given_front (structure_of id) env n entries here);
    }

pub seen_whole : (index : Index) (env : Environment) → IsIndex index env → IsSeen index env
seen_whole index env h = subst (IsSeen index) (take_all (length env) env (omega arith)) (seen_front index env (length env) h)
