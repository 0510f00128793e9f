-- The library of files that are accepted is valid.
use Rattle.std.proofs.Common.{◌≡◌, ℕ, ◌+◌, List, Ok, Err, refl, ap, sym, subst}
use Rattle.std.specs.Prelude.{Result}
use Rattle.sml_lexer.specs.declared.token.Token.{Token}
use Rattle.sml_lexer.specs.Tokens.{tokens as tokens_of}
use Rattle.sig_parser.specs.declared.tree.SourceFile.{SourceFile}
use Rattle.sig_parser.specs.Files.{File}
use Rattle.ty_parser.specs.Sorts.{sorts_of}
use Rattle.type_core.specs.declared.library.Library.{Library}
use Rattle.type_core.specs.ValidLibrary.{IsValidLibrary}
use Rattle.elab_types.specs.Outcome.{Outcome}
use Rattle.elab_types.specs.Sources.{texts_of}
use Rattle.elab_types.specs.Stages.{Flaw, Reads, by_meaning, by_phrase, by_tokens, placed}
use Rattle.elab_rules.specs.declared.refusal.Why.{Why}
use Rattle.elab_rules.specs.Files.{elaborated}
use Rattle.elab_rules.specs.Library.{Basis, empty_basis, library}
use Rattle.elab_soundness.specs.Soundness.{IsSoundBasis}
use Rattle.lib_load.specs.declared.refusals.Fault.{Fault}
use Rattle.lib_load.specs.declared.refusals.LoadRefusal.{LoadRefusal}
use Rattle.lib_load.specs.Files.{basis_or_fault, files_over}
use Rattle.lib_load.specs.Given.{Given}
use Rattle.lib_load.specs.Loading.{Loads, TakesFile, TakesFiles, accepted, failed, in_turn, library_of, lined, long, none, refused, too_many, whole}
use Rattle.lib_load.proofs.OneLoading.{ok_err_not, same_ok}

-- a phrase that means a basis is one that is elaborated to it
elaborated_to : (bytes : List ℕ) (tokens : List Token) (o : Outcome Why Basis) (now : Basis) → placed bytes tokens (basis_or_fault o) ≡ Ok now → o ≡ Ok now
elaborated_to bytes tokens (Ok basis) now is = ap Ok (same_ok basis now _ _ refl refl is)
elaborated_to bytes tokens (Err failure) now is = absurd (ok_err_not now _ _ _ refl refl (sym is))

-- a file that gives a basis means it
read_to : (before : ℕ) (bytes : List ℕ) (r : Result Basis (Flaw Fault)) (now : Basis) → lined before bytes r ≡ Ok now → r ≡ Ok now
read_to before bytes (Ok basis) now is = ap Ok (same_ok basis now _ _ refl refl is)
read_to before bytes (Err flaw) now is = absurd (ok_err_not now _ _ _ refl refl (sym is))

-- each file that is accepted keeps the basis sound
abbrev pub KeepsSound : Type 0
KeepsSound = (bytes : List ℕ) (tokens : List Token) (file : SourceFile) (before now : Basis) → tokens_of bytes tokens → File (sorts_of bytes tokens) file
    → IsSoundBasis before → elaborated (texts_of bytes tokens) file before ≡ Ok now → IsSoundBasis now

module _ (first : IsSoundBasis empty_basis) (next : KeepsSound) (valid : (basis : Basis) → IsSoundBasis basis → IsValidLibrary (library basis)) where
  sound_reading : (before : Basis) (bytes : List ℕ) (r : Result Basis (Flaw Fault)) (now : Basis) → IsSoundBasis before → Reads (files_over before) bytes r → r ≡ Ok now → IsSoundBasis now
  sound_reading before bytes r now sound (by_tokens refusal refuses told) is = absurd (ok_err_not now _ _ _ refl refl (sym is))
  sound_reading before bytes r now sound (by_phrase tokens refusal are refuses told) is = absurd (ok_err_not now _ _ _ refl refl (sym is))
  sound_reading before bytes r now sound (by_meaning tokens file are phrase shallow) is =
      next bytes tokens file before now are phrase sound (elaborated_to bytes tokens (elaborated (texts_of bytes tokens) file before) now is)

  sound_taking : (before : ℕ) (basis : Basis) (given : Given) (r : Result Basis LoadRefusal) (now : Basis) → IsSoundBasis basis → TakesFile before basis given r → r ≡ Ok now → IsSoundBasis now
  sound_taking before basis given r now sound failed is = absurd (ok_err_not now _ _ _ refl refl (sym is))
  sound_taking before basis given r now sound long is = absurd (ok_err_not now _ _ _ refl refl (sym is))
  sound_taking before basis given r now sound (whole {bytes = bytes} {result = result} reads) is = sound_reading basis bytes result now sound reads (read_to before bytes result now is)

  sound_taking_all : (before : ℕ) (basis : Basis) (count : ℕ) (givens : List Given) (r : Result Basis LoadRefusal) (now : Basis) → IsSoundBasis basis → TakesFiles before basis count r givens → r ≡ Ok now → IsSoundBasis now
  sound_taking_all before basis count givens r now sound none is = subst IsSoundBasis (same_ok basis now _ _ refl refl is) sound
  sound_taking_all before basis count givens r now sound (refused taken) is = absurd (ok_err_not now _ _ _ refl refl (sym is))
  sound_taking_all before basis count givens r now sound (accepted {left = left} {after = after} {given = given} {givens = more} taken rest) is =
      sound_taking_all (before + 1) after left more r now (sound_taking before basis given _ after sound taken refl) rest is

  of_basis : (count : ℕ) (givens : List Given) (r : Result Basis LoadRefusal) (l : Library) → TakesFiles 0 empty_basis count r givens → library_of r ≡ Ok l → IsValidLibrary l
  of_basis count givens (Ok basis) l takes is = subst IsValidLibrary (same_ok (library basis) l _ _ refl refl is) (valid basis (sound_taking_all 0 empty_basis count givens (Ok basis) basis first takes refl))
  of_basis count givens (Err refusal) l takes is = absurd (ok_err_not l _ _ _ refl refl (sym is))

  loaded_valid : (count : ℕ) (givens : List Given) (r : Result Library LoadRefusal) (l : Library) → Loads count r givens → r ≡ Ok l → IsValidLibrary l
  loaded_valid count givens r l (too_many more) is = absurd (ok_err_not l _ _ _ refl refl (sym is))
  loaded_valid count givens r l (in_turn {outcome = outcome} few takes) is = of_basis count givens outcome l takes is

  -- what so many files give, of which this was read, is valid
  pub valid_loading : (count : ℕ) (givens : List Given) (l : Library) → Loads count (Ok l) givens → IsValidLibrary l
  valid_loading count givens l loads = loaded_valid count givens (Ok l) l loads refl
