-- One thing comes of what was read.
use Rattle.std.proofs.Common.{◌≡◌, ℕ, ◌+◌, List, refl, ap, sym, subst, arith}
use Rattle.std.specs.Prelude.{Result, Ok, Err}
use Rattle.sig_parser.specs.Files.{File}
use Rattle.type_core.specs.declared.library.Library.{Library}
use Rattle.elab_types.proofs.OneReading.{Lexing, OneTree, one_reading}
use Rattle.elab_rules.specs.Library.{Basis, empty_basis}
use Rattle.lib_load.specs.declared.refusals.LoadRefusal.{LoadRefusal}
use Rattle.lib_load.specs.Files.{files_over}
use Rattle.lib_load.specs.Given.{Given}
use Rattle.lib_load.specs.Loading.{Loads, TakesFile, TakesFiles, accepted, failed, in_turn, library_of, lined, long, none, refused, too_many, whole}

-- what an answer holds is one, and it isn't both of the two
pub same_ok : {A E : Type 0} (x y : A) (a b : Result A E) → a ≡ Ok x → b ≡ Ok y → a ≡ b → x ≡ y
same_ok x y a b is also same = cc

pub ok_err_not : {A E : Type 0} (x : A) (y : E) (a b : Result A E) → a ≡ Ok x → b ≡ Err y → a ≡ b → ⊥
ok_err_not x y a b is also same = cc

module _ (lexing : Lexing) (one_file : OneTree File) where
  -- one thing comes of what was read of a file
  one_taking : (before : ℕ) (basis : Basis) (given : Given) (a b : Result Basis LoadRefusal) → TakesFile before basis given a → TakesFile before basis given b → a ≡ b
  one_taking before basis given a b failed failed = refl
  one_taking before basis given a b long long = refl
  one_taking before basis given a b (whole {bytes = bytes} x) (whole y) = ap (lined before bytes) (one_reading (files_over basis) lexing one_file bytes _ _ x y)

  -- one thing comes of what was read of files
  one_taking_all : (before : ℕ) (basis : Basis) (count : ℕ) (givens : List Given) (a b : Result Basis LoadRefusal) → TakesFiles before basis count a givens → TakesFiles before basis count b givens → a ≡ b
  one_taking_all before basis count givens a b none none = refl
  one_taking_all before basis count givens a b (refused {given = given} x) (refused y) = one_taking before basis given _ _ x y
  one_taking_all before basis count givens a b (refused {given = given} {r = r} x) (accepted {after = after} y rest) = absurd (ok_err_not after r _ _ refl refl (one_taking before basis given _ _ y x))
  one_taking_all before basis count givens a b (accepted {after = after} {given = given} x rest) (refused {r = r} y) = absurd (ok_err_not after r _ _ refl refl (one_taking before basis given _ _ x y))
  one_taking_all before basis count givens a b (accepted {left = left} {after = after} {given = given} {givens = more} x rest) (accepted {after = other} y also) =
      let same : after ≡ other = same_ok after other _ _ refl refl (one_taking before basis given _ _ x y) in
      one_taking_all (before + 1) after left more a b rest (subst (λ basis. TakesFiles (before + 1) basis left b more) (sym same) also)

  -- one thing comes of what was read at paths
  pub one_loading : (count : ℕ) (givens : List Given) (a b : Result Library LoadRefusal) → Loads count a givens → Loads count b givens → a ≡ b
  one_loading count givens a b (too_many x) (too_many y) = refl
  one_loading count givens a b (too_many x) (in_turn few y) = absurd (omega (arith, x, few))
  one_loading count givens a b (in_turn few x) (too_many y) = absurd (omega (arith, y, few))
  one_loading count givens a b (in_turn few x) (in_turn less y) = ap library_of (one_taking_all 0 empty_basis count givens _ _ x y)
